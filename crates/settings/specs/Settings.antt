-- 01, "What the machine holds", "Routing" and "Lock", and 02, request 1: the stored bytes of either edition, what their bits say, where the
-- header lies, and what a write leaves.
use Rattle.std.specs.Prelude.{ℕ, ◌+◌, ◌*◌, ◌/◌, ◌%◌, ◌-◌, ◌≡◌, Bool, true, false, cond, not, ◌&&◌, ◌||◌, eqb, leb}
use Rattle.std.specs.Int.Bits.{bit_and, bit_or}
use Rattle.region.specs.Region.{region_of, size_of, usable, within}
use Rattle.region.specs.declared.Region.{Region}
use Rattle.header.specs.Header.{header_length}
use Rattle.settings.specs.declared.Edition.{Edition}
use Rattle.settings.specs.declared.Edition.TheVariants.{Cx486, Mii}
use Rattle.settings.specs.declared.Settings.{Settings}

-- 02, request 1: whether the edition is the later core's
abbrev pub is_mii : Edition → Bool
is_mii Cx486 = false
is_mii Mii = true

-- CCR1 is the byte at C1h: USE_SMI is its bit 1, SMAC its bit 2, MMAC its bit 3
abbrev pub use_smi : Settings → Bool
use_smi s = eqb (s.ccr1 / 2 % 2) 1

abbrev pub smac : Settings → Bool
smac s = eqb (s.ccr1 / 4 % 2) 1

abbrev pub mmac : Settings → Bool
mmac s = eqb (s.ccr1 / 8 % 2) 1

-- CCR3 is the byte at C3h: SMI_LOCK is its bit 0. No rule reads its bit 1, NMI_EN, which the lock covers too. MAPEN is its bits 7-4, and
-- is on where they are 0001b (02, request 1).
abbrev pub smi_lock : Settings → Bool
smi_lock s = eqb (s.ccr3 % 2) 1

abbrev pub mapen : Settings → Bool
mapen s = eqb (s.ccr3 / 16 % 16) 1

-- the region that SMAR names
abbrev pub region_in : Settings → Region
region_in s = region_of s.high s.middle s.low

-- 02, request 1: SMHR is the number in its four bytes, the low one first. A 486 machine has no use for them, nor for CCR6.
abbrev pub smhr : Settings → ℕ
smhr s = s.smhr0 + s.smhr1 * 256 + s.smhr2 * 65536 + s.smhr3 * 16777216

-- 01, "Routing": a byte goes to management memory when its address is in a usable region, USE_SMI is 1, and either the machine is outside the
-- mode with SMAC 1, or inside with MMAC 0. All else goes to main.
unfoldable pub routed : Settings → Bool → ℕ → Bool
routed s inside a = within (region_in s) a && use_smi s && ((not inside && smac s) || (inside && not (mmac s)))

-- The form in which this is handed to memory, as one region: SMAR's, or one with its base and code 0, which has no address. WindowRoutes in
-- settings_laws says that it routes the same.
unfoldable pub window_of : Settings → Bool → Region
window_of s inside =
    cond (use_smi s && cond inside (not (mmac s)) (smac s)) (region_in s) (record { base = (region_in s).base; code = 0 })

-- 01, "Forty-eight bytes below the top", and 02, request 1: the address that the header ends below, which is the region's end in the 486
-- edition and SMHR in the later one
unfoldable pub header_end : Settings → ℕ
header_end s = cond (is_mii s.edition) (smhr s) ((region_in s).base + size_of (region_in s).code)

-- the 48 bytes below it all lie in the region; the addresses are numbers that don't wrap
unfoldable pub header_fits : Settings → Bool
header_fits s =
    leb ((region_in s).base + header_length) (header_end s) && leb (header_end s) ((region_in s).base + size_of (region_in s).code)

-- the place in management memory of the header's first byte, where it fits
unfoldable pub header_place : Settings → ℕ
header_place s = header_end s - header_length - (region_in s).base

-- 01, "Boundary", and 02, requests 1 and 7: whether SMIs are enabled, which is one test inside the mode and outside it
unfoldable pub enabled : Settings → Bool
enabled s = use_smi s && not (smac s) && usable (region_in s) && header_fits s

-- 01, "Opcode": with USE_SMI and a usable region the opcodes work inside the mode, and outside it under SMAC
unfoldable pub opcodes_allowed : Settings → Bool → Bool
opcodes_allowed s inside = use_smi s && usable (region_in s) && (inside || smac s)

-- the stored byte at an index; one that names none of them reads 0
unfoldable pub byte_of : Settings → ℕ → ℕ
byte_of s i =
    cond (eqb i 0xc1) s.ccr1
    (cond (eqb i 0xc3) s.ccr3
    (cond (eqb i 0xcd) s.high
    (cond (eqb i 0xce) s.middle
    (cond (eqb i 0xcf) s.low
    (cond (eqb i 0xea) s.ccr6
    (cond (eqb i 0xb0) s.smhr0
    (cond (eqb i 0xb1) s.smhr1
    (cond (eqb i 0xb2) s.smhr2
    (cond (eqb i 0xb3) s.smhr3 0)))))))))

-- another byte stored there; at an index that names none of them it is dropped
unfoldable pub with_byte : Settings → ℕ → ℕ → Settings
with_byte s i v = record {
  edition = s.edition;
  ccr1 = cond (eqb i 0xc1) v s.ccr1;
  ccr3 = cond (eqb i 0xc3) v s.ccr3;
  high = cond (eqb i 0xcd) v s.high;
  middle = cond (eqb i 0xce) v s.middle;
  low = cond (eqb i 0xcf) v s.low;
  ccr6 = cond (eqb i 0xea) v s.ccr6;
  smhr0 = cond (eqb i 0xb0) v s.smhr0;
  smhr1 = cond (eqb i 0xb1) v s.smhr1;
  smhr2 = cond (eqb i 0xb2) v s.smhr2;
  smhr3 = cond (eqb i 0xb3) v s.smhr3;
}

-- 02, request 1, WRSHR: another SMHR
unfoldable pub with_smhr : Settings → ℕ → Settings
with_smhr s v = record {
  edition = s.edition;
  ccr1 = s.ccr1;
  ccr3 = s.ccr3;
  high = s.high;
  middle = s.middle;
  low = s.low;
  ccr6 = s.ccr6;
  smhr0 = v % 256;
  smhr1 = v / 256 % 256;
  smhr2 = v / 65536 % 256;
  smhr3 = v / 16777216 % 256;
}

-- another edition, with the same bytes
abbrev pub with_edition : Settings → Edition → Settings
with_edition s e = record {
  edition = e;
  ccr1 = s.ccr1;
  ccr3 = s.ccr3;
  high = s.high;
  middle = s.middle;
  low = s.low;
  ccr6 = s.ccr6;
  smhr0 = s.smhr0;
  smhr1 = s.smhr1;
  smhr2 = s.smhr2;
  smhr3 = s.smhr3;
}

-- 02, request 1: the bits that the lock covers outside the mode of the bytes that only the later edition has. Of CCR6 these are SMM_MODE, bit 0,
-- and N, bit 6 (02, request 7).
unfoldable pub later_bits : Edition → ℕ → ℕ
later_bits e i = cond (is_mii e) (cond (eqb i 0xea) 0x41 (cond (eqb i 0xb0 || eqb i 0xb1 || eqb i 0xb2 || eqb i 0xb3) 0xff 0)) 0

-- 01, "Lock": the bits that the lock covers outside the mode, by edition and index. CCR3 bit 0 is SMI_LOCK, which only a reset clears.
unfoldable pub locked_bits : Edition → ℕ → ℕ
locked_bits e i =
    cond (eqb i 0xc1) 0x0e (cond (eqb i 0xc3) 0x03 (cond (eqb i 0xcd || eqb i 0xce || eqb i 0xcf) 0xff (later_bits e i)))

-- the bits that it covers inside the mode, where a handler may write all but SMI_LOCK
unfoldable pub sticky_bits : ℕ → ℕ
sticky_bits i = cond (eqb i 0xc3) 0x01 0

-- the bits of the byte at an index that a write leaves. The lock is the one before the write.
unfoldable pub kept_bits : Settings → ℕ → Bool → ℕ
kept_bits s i inside = cond (smi_lock s) (cond inside (sticky_bits i) (locked_bits s.edition i)) 0

-- a byte of the old bits under a mask, and of the new ones elsewhere
abbrev pub merged : ℕ → ℕ → ℕ → ℕ
merged mask old new = bit_or (bit_and old mask) (bit_and new (0xff - mask))

-- a write to the byte at an index
unfoldable pub written : Settings → ℕ → ℕ → Bool → Settings
written s i v inside = with_byte s i (merged (kept_bits s i inside) (byte_of s i) v)

-- 01, "What demand 3 compares": two settings are of one edition, and have the same at every index of the bits that its lock covers
pub record SameLocked (s t : Settings) : Type 0 where
  pub edition : s.edition ≡ t.edition
  pub same : (i : ℕ) → bit_and (byte_of s i) (locked_bits t.edition i) ≡ bit_and (byte_of t i) (locked_bits t.edition i)
