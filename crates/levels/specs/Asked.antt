-- How tight the statements are: what each hypothesis asks for, and that the claims leave nothing open of what they speak of.
use Rattle.std.specs.Prelude.{ℕ, ◌+◌, ◌*◌, ◌≤◌, ◌≡◌, List, ◌⊎◌, length}
use Rattle.std.proofs.lemmas.List.Edits.{sets}
use Rattle.steps.specs.declared.Step.{Step}
use Rattle.settings.specs.declared.Edition.TheVariants.{Mii}
use Rattle.settings.specs.declared.Settings.{Settings}
use Rattle.machine.specs.declared.Machine.{Machine}
use Rattle.machine.specs.Outcomes.{Outcome}
use Rattle.machine.specs.Machines.{settings_of, edition_of}
use Rattle.isolation.specs.Service.{Entering}
use Rattle.levels.specs.Levels.{Stands, Through, Moved}

-- 48 bytes stand at a place exactly where storing them there would change nothing
abbrev pub StandsAsStored : Type 0
StandsAsStored =
    (g : List ℕ) (at : ℕ) (bytes : List ℕ) → length bytes ≡ 48 → at + 48 ≤ length g
    → (Stands g at bytes → sets g at bytes ≡ g) × (sets g at bytes ≡ g → Stands g at bytes)

-- of a return through an entry's header, registers and mode are settled, whatever the machine that runs RSM holds besides
abbrev pub ThroughSettles : Type 0
ThroughSettles =
    (m k : Machine) (s : Step) (by : Entering m s) (o o' : Outcome) → Through m k by o → Through m k by o'
    → (o.stepped.machine.registers ≡ o'.stepped.machine.registers) × (o.stepped.machine.inside ≡ o'.stepped.machine.inside)

-- SMHR by its four bytes
abbrev pub smhr_bytes : Settings → ℕ
smhr_bytes t = t.smhr0 + 256 * (t.smhr1 + 256 * (t.smhr2 + 256 * t.smhr3))

-- SMHR has moved where both machines are of the later edition, their three SMAR bytes are the same, and the two numbers are 48 apart
abbrev pub MovedAsked : Type 0
MovedAsked =
    (m n : Machine)
    → let a = settings_of m in
    let b = settings_of n in
    edition_of m ≡ Mii → edition_of n ≡ Mii → a.high ≡ b.high → a.middle ≡ b.middle → a.low ≡ b.low
    → (smhr_bytes b + 48 ≤ smhr_bytes a) ⊎ (smhr_bytes a + 48 ≤ smhr_bytes b) → Moved m n
