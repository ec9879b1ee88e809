-- 01, "What demand 3 compares", and 02, request 1: the locked settings of each edition as the papers list them, and that they are what the
-- lock's table covers.
use Rattle.std.specs.Prelude.{◌/◌, ◌%◌, ◌<◌, ◌^◌, ◌≡◌}
use Rattle.settings.specs.declared.Edition.{Edition}
use Rattle.settings.specs.declared.Edition.TheVariants.{Cx486, Mii}
use Rattle.settings.specs.declared.Settings.{Settings}
use Rattle.settings.specs.Settings.{smhr, SameLocked}

-- the 486 edition: CCR1 bits 1 to 3, CCR3 bits 0 and 1, and the three SMAR bytes are the same in both
pub record Fixed486 (s t : Settings) : Type 0 where
  pub ccr1 : s.ccr1 / 2 % 8 ≡ t.ccr1 / 2 % 8
  pub ccr3 : s.ccr3 % 4 ≡ t.ccr3 % 4
  pub high : s.high ≡ t.high
  pub middle : s.middle ≡ t.middle
  pub low : s.low ≡ t.low

-- the later edition: these, and SMHR, SMM_MODE and N, which are CCR6 bits 0 and 6
pub record FixedMii (s t : Settings) : Type 0 where
  pub listed : Fixed486 s t
  pub smhr : smhr s ≡ smhr t
  pub smm_mode_lem : s.ccr6 % 2 ≡ t.ccr6 % 2
  pub nesting : s.ccr6 / 64 % 2 ≡ t.ccr6 / 64 % 2

-- the list of an edition
abbrev pub Fixed : Edition → Settings → Settings → Type 0
Fixed Cx486 s t = Fixed486 s t
Fixed Mii s t = FixedMii s t

-- each stored number is a byte, as it is in every value of the code's own type
pub record SettingsFit (s : Settings) : Type 0 where
  pub ccr1 : s.ccr1 < 2 ^ 8
  pub ccr3 : s.ccr3 < 2 ^ 8
  pub high : s.high < 2 ^ 8
  pub middle : s.middle < 2 ^ 8
  pub low : s.low < 2 ^ 8
  pub ccr6 : s.ccr6 < 2 ^ 8
  pub smhr0 : s.smhr0 < 2 ^ 8
  pub smhr1 : s.smhr1 < 2 ^ 8
  pub smhr2 : s.smhr2 < 2 ^ 8
  pub smhr3 : s.smhr3 < 2 ^ 8

-- of settings of one edition the two say the same, both ways
abbrev pub LockedAsListed : Type 0
LockedAsListed =
    (s t : Settings) → SettingsFit s → SettingsFit t → s.edition ≡ t.edition
    → (SameLocked s t → Fixed t.edition s t) × (Fixed t.edition s t → SameLocked s t)
