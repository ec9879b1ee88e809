-- What holds of the header's place in either edition (01, "Forty-eight bytes below the top"; 02, request 1), and of SMHR.
use Rattle.std.specs.Prelude.{ℕ, ◌+◌, ◌*◌, ◌<◌, ◌^◌, ◌≡◌, true, false}
use Rattle.region.specs.Region.{size_of, usable, within}
use Rattle.fields.specs.Fields.{number_by}
use Rattle.header.specs.Header.{header_length}
use Rattle.settings.specs.declared.Edition.TheVariants.{Cx486, Mii}
use Rattle.settings.specs.declared.Settings.{Settings}
use Rattle.settings.specs.Settings.{region_in, smhr, byte_of, with_smhr, with_edition, header_end, header_fits, header_place}

-- it ends below SMHR in the later edition, and below the region's end in the 486 edition, whatever else is set
abbrev pub EndsByEdition : Type 0
EndsByEdition =
    (s : Settings)
    → (header_end (with_edition s Mii) ≡ s.smhr0 + 256 * s.smhr1 + 65536 * s.smhr2 + 16777216 * s.smhr3)
    × (header_end (with_edition s Cx486) ≡ (region_in s).base + size_of (region_in s).code)

-- where it fits, its end is 48 above its first byte, which is as far from the region's base as the place says
abbrev pub PlaceBelowEnd : Type 0
PlaceBelowEnd = (s : Settings) → header_fits s ≡ true → (region_in s).base + header_place s + header_length ≡ header_end s

-- in a usable region it fits exactly where there are 48 addresses below its end that are all in the region
abbrev pub FitsWithin : Type 0
FitsWithin =
    (s : Settings) → usable (region_in s) ≡ true
    → (header_fits s ≡ true → (k : ℕ) → k < header_length → within (region_in s) ((region_in s).base + header_place s + k) ≡ true)
    × ((first : ℕ) → first + header_length ≡ header_end s
    → ((k : ℕ) → k < header_length → within (region_in s) (first + k) ≡ true) → header_fits s ≡ true)

-- in a usable region of the 486 edition it always fits, and is the region's last 48 bytes
abbrev pub FitsAlways : Type 0
FitsAlways =
    (s : Settings) → s.edition ≡ Cx486 → usable (region_in s) ≡ true
    → (header_fits s ≡ true) × (header_place s + header_length ≡ size_of (region_in s).code)

-- with SMHR below 48, as after a reset, it never fits in the later edition
abbrev pub FitsNever : Type 0
FitsNever = (s : Settings) → s.edition ≡ Mii → smhr s < header_length → header_fits s ≡ false

-- SMHR is the little-endian number at the indexes B0h to B3h
abbrev pub SmhrAtIndexes : Type 0
SmhrAtIndexes = (s : Settings) → smhr s ≡ number_by (byte_of s) 0xb0 4

-- SMHR is what WRSHR loaded
abbrev pub SmhrLoaded : Type 0
SmhrLoaded = (s : Settings) (v : ℕ) → v < 2 ^ 32 → smhr (with_smhr s v) ≡ v
