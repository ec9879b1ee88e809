-- What entry and RSM alter of the settings (02, request 7): N and nothing else, and that only where service nests.
use Rattle.std.specs.Prelude.{ℕ, ◌*◌, ◌/◌, ◌%◌, ◌≡◌, true, false}
use Rattle.fields.specs.Fields.{bit}
use Rattle.settings.specs.declared.Edition.TheVariants.{Cx486, Mii}
use Rattle.settings.specs.declared.Settings.{Settings}
use Rattle.settings.specs.Settings.{byte_of, with_byte}
use Rattle.nesting.specs.Nesting.{with_n, enhanced, nestable, entered_settings, resumed_settings}

-- settings t that are s with N at n: the edition, the bytes at all other indexes, and the other bits of CCR6 are as they were
pub record OnlyN (s t : Settings) (n : ℕ) : Type 0 where
  pub edition : t.edition ≡ s.edition
  pub others : (i : ℕ) → (i ≡ 0xea → ⊥) → byte_of t i ≡ byte_of s i
  pub low : t.ccr6 % 64 ≡ s.ccr6 % 64
  pub nesting : t.ccr6 / 64 % 2 ≡ n
  pub high : t.ccr6 / 128 ≡ s.ccr6 / 128

-- which leaves nothing open
abbrev pub OnlyNDetermines : Type 0
OnlyNDetermines = (s t : Settings) (n : ℕ) → OnlyN s t n → t ≡ with_n s n

-- in the later edition service nests by CCR6 bit 0, and a handler may be interrupted by that and bit 6; in the 486 edition neither
abbrev pub BitsAsked : Type 0
BitsAsked =
    (s : Settings)
    → (s.edition ≡ Mii → (bit (enhanced s) ≡ s.ccr6 % 2) × (bit (nestable s) ≡ s.ccr6 % 2 * (s.ccr6 / 64 % 2)))
    × (s.edition ≡ Cx486 → (enhanced s ≡ false) × (nestable s ≡ false))

-- the same of CCR6 FFh, BFh and FEh in the later edition
abbrev pub BitsExamples : Type 0
BitsExamples =
    (s : Settings) → s.edition ≡ Mii
    → let with = with_byte s 0xea in
    (nestable (with 0xff) ≡ true) × (enhanced (with 0xbf) ≡ true) × (nestable (with 0xbf) ≡ false) × (enhanced (with 0xfe) ≡ false)

-- where service nests, entry leaves N 0 and RSM leaves it 1
abbrev pub OnlyNMoves : Type 0
OnlyNMoves = (s : Settings) → enhanced s ≡ true → OnlyN s (entered_settings s) 0 × OnlyN s (resumed_settings s) 1

-- and elsewhere neither alters anything
abbrev pub NothingMoves : Type 0
NothingMoves = (s : Settings) → enhanced s ≡ false → (entered_settings s ≡ s) × (resumed_settings s ≡ s)

-- RSM leaves the same whatever entry did before it, and a second RSM leaves what the first did
abbrev pub LastMoves : Type 0
LastMoves =
    (s : Settings) → (resumed_settings (entered_settings s) ≡ resumed_settings s) × (resumed_settings (resumed_settings s) ≡ resumed_settings s)
