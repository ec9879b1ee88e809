-- Where the header lies, what the locked bits say of it, and routing outside the mode. Assumes nothing.
use mathlib.Core.Path.{◌≡◌, refl}
use mathlib.Core.Bool.{true, false, and-false}
use Prim.Native.Nat.{ℕ, ◌+◌, ◌≤◌}
use native.Mathlib.Omega.{arith}
use Rattle.std.proofs.lemmas.Nat.{from_le_bytes-to_le_bytes_4}
use Rattle.std.proofs.lemmas.Bool.Decides.{nat_tests}
use Rattle.region.specs.Region.{size_of, usable, within}
use Rattle.region.proofs.Usable.{usable_has}
use Rattle.region.proofs.Laws.{within_has, within_is}
use Rattle.fields.specs.Fields.{number_by}
use Rattle.header.specs.Header.{header_length}
use Rattle.settings.specs.declared.Edition.{Edition}
use Rattle.settings.specs.declared.Edition.TheVariants.{Cx486, Mii}
use Rattle.settings.specs.declared.Settings.{Settings}
use Rattle.settings.specs.Settings.{use_smi, smac, region_in, window_of, header_end, header_fits, header_place, enabled, byte_of, with_smhr, SameLocked}
use Rattle.settings_laws.specs.Locked.{Fixed486, Fixed, SettingsFit}
use Rattle.settings_laws.specs.Headers.{EndsByEdition, PlaceBelowEnd, FitsWithin, FitsAlways, FitsNever, SmhrAtIndexes, SmhrLoaded}
use Rattle.settings_laws.proofs.Lock.{locked_as_listed}

pub ends_by_edition : EndsByEdition
unfolding header_end
ends_by_edition s = (omega arith, refl)

-- what a header that fits has
pub record Fits (s : Settings) : Type 0 where
  pub low : (region_in s).base + header_length ≤ header_end s
  pub high : header_end s ≤ (region_in s).base + size_of (region_in s).code

pub fits_has : (s : Settings) → header_fits s ≡ true → Fits s
unfolding header_fits
fits_has s e = record { low = grind (arith, nat_tests); high = grind (arith, nat_tests) }

fits_is : (s : Settings) → Fits s → header_fits s ≡ true
unfolding header_fits
fits_is s f = grind (arith, nat_tests)

pub place_below_end : PlaceBelowEnd
unfolding header_place
place_below_end s e = let f = fits_has s e in omega (arith, f.low)

-- the header lies within management memory
pub place_room : (s : Settings) → usable (region_in s) ≡ true → header_fits s ≡ true → header_place s + header_length ≤ 65536
place_room s u e =
    let f = fits_has s e in
    omega (arith, f.high, place_below_end s e, (usable_has (region_in s) u).most)

pub fits_within : FitsWithin
fits_within s u = (
  λ e k h.
      let f = fits_has s e in
      let p = place_below_end s e in
      within_is (region_in s) _ (record { in_usable = u; low = omega arith; high = omega (arith, f.high) }),
  λ first end all.
      let a = within_has (region_in s) _ (all 0 (omega arith)) in
      let b = within_has (region_in s) _ (all 47 (omega arith)) in
      fits_is s (record { low = omega (arith, a.low); high = omega (arith, b.high) }),
)

pub fits_always : FitsAlways
unfolding header_end
fits_always s e u =
    let size = usable_has (region_in s) u in
    let end : header_end s ≡ (region_in s).base + size_of (region_in s).code = rw e in
    let fits = fits_is s (record { low = omega (arith, size.least); high = omega arith }) in
    (fits, omega (arith, place_below_end s fits))

pub fits_never : FitsNever
unfolding header_fits header_end
fits_never s e l = grind (arith, nat_tests)

pub smhr_at_indexes : SmhrAtIndexes
unfolding byte_of number_by
smhr_at_indexes s = omega arith

pub smhr_loaded_lem : SmhrLoaded
unfolding with_smhr
smhr_loaded_lem s v h = from_le_bytes-to_le_bytes_4 v h

-- ---- what the locked bits decide

-- where the header lies, of bytes
pub same_place : (s t : Settings) → SettingsFit s → SettingsFit t → SameLocked s t → header_place s ≡ header_place t
unfolding header_place header_end
same_place s t hs ht k = go t.edition refl ((locked_as_listed s t hs ht k.edition).0 k)
  where
    regions : Fixed486 s t → region_in s ≡ region_in t
    regions f = rw (f.high, f.middle, f.low)

    go : (d : Edition) → t.edition ≡ d → Fixed d s t → header_place s ≡ header_place t
    go Cx486 e f = rw (k.edition, e, regions f)
    go Mii e f = rw (k.edition, e, regions f.listed, f.smhr)

-- ---- routing outside the mode

-- with SMAC 0 no address outside the mode goes to management memory
pub window_shut : (s : Settings) (a : ℕ) → smac s ≡ false → within (window_of s false) a ≡ false
unfolding window_of within usable
window_shut s a e = rw (e, and-false (use_smi s))

-- ---- where SMIs are enabled

pub record Enabled (s : Settings) : Type 0 where
  pub on : use_smi s ≡ true
  pub usable : usable (region_in s) ≡ true
  pub fits : header_fits s ≡ true

pub enabled_has : (s : Settings) → enabled s ≡ true → Enabled s
unfolding enabled
enabled_has s e = record { on = grind (arith, nat_tests); usable = grind (arith, nat_tests); fits = grind (arith, nat_tests) }
