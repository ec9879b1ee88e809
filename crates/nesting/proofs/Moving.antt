-- What entry and RSM alter of the settings. Assumes nothing.
use mathlib.Core.Path.{◌≡◌, refl, ◌∙◌}
use mathlib.Core.Bool.{false}
use Prim.Native.Nat.{ℕ, ◌+◌, ◌*◌, ◌/◌, ◌%◌, ◌≤◌}
use native.Mathlib.Omega.{arith}
use lib.Dec.{eqb}
use Rattle.std.proofs.lemmas.Bool.Decides.{nat_tests}
use borrow.Author.Tests.{eqb-false, ne_eqb}
use Rattle.fields.specs.Fields.{bit}
use Rattle.fields.proofs.Bits.{bit_of, both_bits}
use Rattle.settings.specs.declared.Settings.{Settings}
use Rattle.settings.specs.Settings.{byte_of, with_byte}
use Rattle.nesting.specs.Nesting.{smm_mode, bit_n, nestable, with_n, enhanced, entered_settings, resumed_settings}
use Rattle.nesting.specs.Moving.{OnlyN, OnlyNDetermines, BitsAsked, BitsExamples, OnlyNMoves, NothingMoves, LastMoves}

pub only_n_determines : OnlyNDetermines
unfolding with_n with_byte byte_of
only_n_determines s t n k =
    let other : (i : ℕ) → eqb i 0xea ≡ false → byte_of t i ≡ byte_of s i = λ i e. k.others i (eqb-false i 0xea e) in
    let ccr6 : t.ccr6 ≡ s.ccr6 / 128 * 128 + 64 * n + s.ccr6 % 64 = whole t.ccr6 s.ccr6 n k.low k.nesting k.high in
    λ i. record {
      edition = k.edition i;
      ccr1 = other 0xc1 refl i;
      ccr3 = other 0xc3 refl i;
      high = other 0xcd refl i;
      middle = other 0xce refl i;
      low = other 0xcf refl i;
      ccr6 = ccr6 i;
      smhr0 = other 0xb0 refl i;
      smhr1 = other 0xb1 refl i;
      smhr2 = other 0xb2 refl i;
      smhr3 = other 0xb3 refl i;
    }
  where
    whole : (c d n : ℕ) → c % 64 ≡ d % 64 → c / 64 % 2 ≡ n → c / 128 ≡ d / 128 → c ≡ d / 128 * 128 + 64 * n + d % 64
    whole c d n low bit high = omega arith

pub bits_asked : BitsAsked
unfolding enhanced nestable
bits_asked s = (
  λ e.
      let mode = bit_of (s.ccr6 % 2) (omega arith) in
      let n = bit_of (s.ccr6 / 64 % 2) (omega arith) in
      rw e (mode, both_bits (smm_mode s) (bit_n s) ∙ rw (mode, n)),
  λ e. rw e (refl, refl),
)

pub bits_examples : BitsExamples
unfolding enhanced nestable with_byte
bits_examples s e = rw e (refl, refl, refl, refl)

-- another N leaves the rest
with_n_lem : (s : Settings) (n : ℕ) → n ≤ 1 → OnlyN s (with_n s n) n
unfolding with_n with_byte byte_of
with_n_lem s n h = record {
  edition = refl;
  others = λ i k. rw (ne_eqb i 0xea k);
  low = omega arith;
  nesting = omega arith;
  high = omega arith;
}

pub only_n_moves : OnlyNMoves
unfolding entered_settings resumed_settings
only_n_moves s e = rw e (with_n_lem s 0 (omega arith), with_n_lem s 1 (omega arith))

pub nothing_moves : NothingMoves
unfolding entered_settings resumed_settings
nothing_moves s e = rw e (refl, refl)

-- and SMM_MODE with it
pub still_enhanced : (s : Settings) (n : ℕ) → n ≤ 1 → enhanced (with_n s n) ≡ enhanced s
unfolding enhanced with_n with_byte
still_enhanced s n h = let e : (s.ccr6 / 128 * 128 + 64 * n + s.ccr6 % 64) % 2 ≡ s.ccr6 % 2 = omega arith in rw e

-- the last N counts
last_n : (s : Settings) (n k : ℕ) → n ≤ 1 → with_n (with_n s n) k ≡ with_n s k
unfolding with_n with_byte
last_n s n k h =
    let c = s.ccr6 / 128 * 128 + 64 * n + s.ccr6 % 64 in
    let high : c / 128 ≡ s.ccr6 / 128 = omega arith in
    let low : c % 64 ≡ s.ccr6 % 64 = omega arith in
    rw (high, low)

pub last_moves : LastMoves
unfolding entered_settings resumed_settings
last_moves s = grind (arith, nat_tests, still_enhanced s 0, still_enhanced s 1, last_n s 0 1, last_n s 1 1)
