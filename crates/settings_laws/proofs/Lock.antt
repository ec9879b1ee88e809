-- The lock: what a write outside the mode leaves as it was, and what the locked bits are. Assumes nothing.
use mathlib.Core.Path.{◌≡◌, refl, sym, ap, subst, ◌∙◌}
use mathlib.Core.Bool.{Bool, true, false, cond, ◌||◌}
use Prim.Native.Nat.{ℕ, ◌+◌, ◌*◌, ◌/◌, ◌%◌, ◌^◌, ◌-◌, ◌<◌}
use native.Mathlib.Nat.{lt_of_le_of_lt}
use native.Mathlib.Omega.{arith}
use lib.Bits.{bit_and, and_step, and_zero_r, and_self, and_le_r, or_lt, and_mask, and_high}
use Rattle.std.proofs.lemmas.Bool.Decides.{nat_tests}
use Rattle.std.proofs.lemmas.Nat.{and_assoc, and_or_apart}
use Rattle.std.proofs.lemmas.Grind.{and-not_self}
use lib.Dec.{eqb}
use borrow.Author.Tests.{eqb-true}
use Rattle.settings.specs.declared.Edition.{Edition}
use Rattle.settings.specs.declared.Edition.TheVariants.{Cx486, Mii}
use Rattle.settings.specs.declared.Settings.{Settings}
use Rattle.settings.specs.Settings.{is_mii, smac, smi_lock, smhr, byte_of, with_byte, later_bits, locked_bits, sticky_bits, kept_bits, merged, written, SameLocked}
use Rattle.settings_laws.specs.Locked.{Fixed486, FixedMii, Fixed, SettingsFit, LockedAsListed}

-- ---- the same locked bits

pub locked_refl : {s : Settings} → SameLocked s s
locked_refl = record { edition = refl; same = λ i. refl }

pub locked_trans : {s t u : Settings} → SameLocked s t → SameLocked t u → SameLocked s u
locked_trans {s} {t} e f = record { edition = e.edition ∙ f.edition; same = λ i. subst (Same i) f.edition (e.same i) ∙ f.same i }
  where
    Same : ℕ → Edition → Type 0
    Same i d = bit_and (byte_of s i) (locked_bits d i) ≡ bit_and (byte_of t i) (locked_bits d i)

-- ---- a merge keeps what the mask covers

bits_keep : (mask old v : ℕ) → mask < 2 ^ 8 → bit_and (merged mask old v) mask ≡ bit_and old mask
bits_keep mask old v h =
    and_or_apart mask (bit_and old mask) (bit_and v (255 - mask)) (and-not_self v 255 mask mask refl (omega arith) refl)
    ∙ rw (and_assoc mask old mask, and_self mask)

-- ---- a write outside the mode under the lock

-- the byte at another index is none that was stored
pub byte_other : (i j x : ℕ) → eqb j i ≡ false → (s : Settings) → byte_of (with_byte s i x) j ≡ byte_of s j
unfolding byte_of with_byte
byte_other i j x other s = grind (arith, nat_tests)

-- the byte at the index is what was stored, or is 0 as before
byte_same : (f : ℕ → ℕ) (n : ℕ) (s : Settings) (i : ℕ) → f n ≡ f (byte_of s i) → f (byte_of (with_byte s i n) i) ≡ f (byte_of s i)
unfolding byte_of with_byte
byte_same f n s i h = grind (arith, nat_tests)

-- a number that is below a bound both ways of a test
below : (p : Bool) {a b n : ℕ} → a < n → b < n → cond p a b < n
below true h k = h
below false h k = k

locked_byte : (e : Edition) (i : ℕ) → locked_bits e i < 2 ^ 8
unfolding locked_bits later_bits
locked_byte e i = grind (arith, nat_tests)

-- what the lock covers outside the mode is in no write's reach
pub written_locked : (s : Settings) (i v : ℕ) → smi_lock s ≡ true → SameLocked (written s i v false) s
unfolding written kept_bits with_byte
written_locked s i v e = record { edition = refl; same = λ j. go j (eqb j i) refl }
  where
    go : (j : ℕ) (t : Bool) → eqb j i ≡ t
        → bit_and (byte_of (written s i v false) j) (locked_bits s.edition j) ≡ bit_and (byte_of s j) (locked_bits s.edition j)
    go j true h =
        let mask = locked_bits s.edition i in
        rw (e, eqb-true j i h)
        (byte_same (λ x. bit_and x mask) (merged mask (byte_of s i) v) s i (bits_keep mask (byte_of s i) v (locked_byte s.edition i)))
    go j false h = rw (byte_other i j (merged (kept_bits s i false) (byte_of s i) v) h s)

-- ---- every write leaves bytes

kept_byte : (s : Settings) (i : ℕ) (inside : Bool) → kept_bits s i inside < 2 ^ 8
unfolding kept_bits sticky_bits
kept_byte s i inside = grind (arith, nat_tests, locked_byte)

merged_byte : (mask old v : ℕ) → mask < 2 ^ 8 → merged mask old v < 2 ^ 8
merged_byte mask old v h =
    or_lt 8 (bit_and old mask) (bit_and v (255 - mask)) (lt_of_le_of_lt (and_le_r old mask) h)
    (lt_of_le_of_lt (and_le_r v (255 - mask)) (omega arith))

pub written_fits : (s : Settings) (i v : ℕ) (inside : Bool) → SettingsFit s → SettingsFit (written s i v inside)
unfolding written with_byte
written_fits s i v inside h =
    let b = merged_byte (kept_bits s i inside) (byte_of s i) v (kept_byte s i inside) in
    record {
      ccr1 = below (eqb i 0xc1) b h.ccr1;
      ccr3 = below (eqb i 0xc3) b h.ccr3;
      high = below (eqb i 0xcd) b h.high;
      middle = below (eqb i 0xce) b h.middle;
      low = below (eqb i 0xcf) b h.low;
      ccr6 = below (eqb i 0xea) b h.ccr6;
      smhr0 = below (eqb i 0xb0) b h.smhr0;
      smhr1 = below (eqb i 0xb1) b h.smhr1;
      smhr2 = below (eqb i 0xb2) b h.smhr2;
      smhr3 = below (eqb i 0xb3) b h.smhr3;
    }

-- ---- what the locked bits are

-- bits 0 and 6
and_41h : (x : ℕ) → bit_and x 0x41 ≡ x / 64 % 2 * 64 + x % 2
and_41h x = omega (arith, and_step x 0x41, and_high (x / 2) 1 5)

module _ {s t : Settings} (k : SameLocked s t) where
  same_ccr1 : s.ccr1 / 2 % 8 ≡ t.ccr1 / 2 % 8
  unfolding locked_bits byte_of
  same_ccr1 = let e = sym (and_high s.ccr1 3 1) ∙ k.same 0xc1 ∙ and_high t.ccr1 3 1 in omega arith

  same_ccr3 : s.ccr3 % 4 ≡ t.ccr3 % 4
  unfolding locked_bits byte_of
  same_ccr3 = sym (and_mask s.ccr3 2) ∙ k.same 0xc3 ∙ and_mask t.ccr3 2

  same_byte : (i : ℕ) → locked_bits t.edition i ≡ 0xff → byte_of s i % 256 ≡ byte_of t i % 256
  same_byte i h = sym (and_mask (byte_of s i) 8) ∙ rw h at (k.same i) ∙ and_mask (byte_of t i) 8

  same_ccr6 : is_mii t.edition ≡ true → s.ccr6 / 64 % 2 * 64 + s.ccr6 % 2 ≡ t.ccr6 / 64 % 2 * 64 + t.ccr6 % 2
  unfolding locked_bits later_bits byte_of
  same_ccr6 f = sym (and_41h s.ccr6) ∙ rw f at (k.same 0xea) ∙ and_41h t.ccr6

  pub same_smac : smac s ≡ smac t
  same_smac = let e : s.ccr1 / 4 % 2 ≡ t.ccr1 / 4 % 2 = omega (arith, same_ccr1) in rw e

  pub same_lock : smi_lock s ≡ smi_lock t
  same_lock = let e : s.ccr3 % 2 ≡ t.ccr3 % 2 = omega (arith, same_ccr3) in rw e

-- equal bytes, of numbers that are bytes
same_bytes : {x y : ℕ} → x < 2 ^ 8 → y < 2 ^ 8 → x % 256 ≡ y % 256 → x ≡ y
same_bytes h k e = omega arith

-- they are the bits that the papers name, and no others of a byte
module _ (s t : Settings) (hs : SettingsFit s) (ht : SettingsFit t) where
  fixed_486 : SameLocked s t → Fixed486 s t
  unfolding locked_bits byte_of
  fixed_486 k = record {
    ccr1 = same_ccr1 k;
    ccr3 = same_ccr3 k;
    high = same_bytes hs.high ht.high (same_byte k 0xcd refl);
    middle = same_bytes hs.middle ht.middle (same_byte k 0xce refl);
    low = same_bytes hs.low ht.low (same_byte k 0xcf refl);
  }

  fixed : (d : Edition) → t.edition ≡ d → SameLocked s t → Fixed d s t
  unfolding locked_bits later_bits byte_of
  fixed Cx486 f k = fixed_486 k
  fixed Mii f k =
      let e0 = same_bytes hs.smhr0 ht.smhr0 (same_byte k 0xb0 (rw f)) in
      let e1 = same_bytes hs.smhr1 ht.smhr1 (same_byte k 0xb1 (rw f)) in
      let e2 = same_bytes hs.smhr2 ht.smhr2 (same_byte k 0xb2 (rw f)) in
      let e3 = same_bytes hs.smhr3 ht.smhr3 (same_byte k 0xb3 (rw f)) in
      record {
        listed = fixed_486 k;
        smhr = rw (e0, e1, e2, e3);
        smm_mode_lem = omega (arith, same_ccr6 k (rw f));
        nesting = omega (arith, same_ccr6 k (rw f));
      }

  -- equal numbers of bytes have equal bytes
  bytes_of : (r : Settings) → SettingsFit r
      → (r.smhr0 ≡ smhr r % 256) × (r.smhr1 ≡ smhr r / 256 % 256) × (r.smhr2 ≡ smhr r / 65536 % 256) × (r.smhr3 ≡ smhr r / 16777216 % 256)
  bytes_of r h =
      let a = h.smhr0 in let b = h.smhr1 in let c = h.smhr2 in let d = h.smhr3 in
      (omega arith, omega arith, omega arith, omega arith)

  -- the table's rows: those of 01, over whatever follows them, and those of the later edition
  rows : Fixed486 s t → (a b c d e : Bool) (x y mask : ℕ) → bit_and x mask ≡ bit_and y mask
      → bit_and (cond a s.ccr1 (cond b s.ccr3 (cond c s.high (cond d s.middle (cond e s.low x)))))
      (cond a 0x0e (cond b 0x03 (cond (c || d || e) 0xff mask)))
      ≡ bit_and (cond a t.ccr1 (cond b t.ccr3 (cond c t.high (cond d t.middle (cond e t.low y)))))
      (cond a 0x0e (cond b 0x03 (cond (c || d || e) 0xff mask)))
  rows f true b c d e x y mask r = and_high s.ccr1 3 1 ∙ omega (arith, f.ccr1) ∙ sym (and_high t.ccr1 3 1)
  rows f false true c d e x y mask r = and_mask s.ccr3 2 ∙ f.ccr3 ∙ sym (and_mask t.ccr3 2)
  rows f false false true d e x y mask r = rw f.high
  rows f false false false true e x y mask r = rw f.middle
  rows f false false false false true x y mask r = rw f.low
  rows f false false false false false x y mask r = r

  abbrev later_byte : Settings → Bool → Bool → Bool → Bool → Bool → ℕ
  later_byte r a b c d e = cond a r.ccr6 (cond b r.smhr0 (cond c r.smhr1 (cond d r.smhr2 (cond e r.smhr3 0))))

  later_rows : FixedMii s t → (a b c d e : Bool) → let mask : ℕ = cond a 0x41 (cond (b || c || d || e) 0xff 0) in
      bit_and (later_byte s a b c d e) mask ≡ bit_and (later_byte t a b c d e) mask
  later_rows f true b c d e = and_41h s.ccr6 ∙ rw (f.smm_mode_lem, f.nesting) (sym (and_41h t.ccr6))
  later_rows f false true c d e = rw ((bytes_of s hs).0 ∙ ap (λ (x : ℕ). x % 256) f.smhr ∙ sym (bytes_of t ht).0)
  later_rows f false false true d e = rw ((bytes_of s hs).1 ∙ ap (λ (x : ℕ). x / 256 % 256) f.smhr ∙ sym (bytes_of t ht).1)
  later_rows f false false false true e = rw ((bytes_of s hs).2 ∙ ap (λ (x : ℕ). x / 65536 % 256) f.smhr ∙ sym (bytes_of t ht).2)
  later_rows f false false false false true = rw ((bytes_of s hs).3 ∙ ap (λ (x : ℕ). x / 16777216 % 256) f.smhr ∙ sym (bytes_of t ht).3)
  later_rows f false false false false false = refl

  -- the whole table at an index; mask is the later rows' mask
  abbrev Equal : ℕ → ℕ → Type 0
  Equal i mask =
      bit_and (byte_of s i) (cond (eqb i 0xc1) 0x0e (cond (eqb i 0xc3) 0x03 (cond (eqb i 0xcd || eqb i 0xce || eqb i 0xcf) 0xff mask)))
      ≡ bit_and (byte_of t i) (cond (eqb i 0xc1) 0x0e (cond (eqb i 0xc3) 0x03 (cond (eqb i 0xcd || eqb i 0xce || eqb i 0xcf) 0xff mask)))

  abbrev later : Settings → ℕ → ℕ
  later r i = later_byte r (eqb i 0xea) (eqb i 0xb0) (eqb i 0xb1) (eqb i 0xb2) (eqb i 0xb3)

  equal : Fixed486 s t → (i mask : ℕ) → bit_and (later s i) mask ≡ bit_and (later t i) mask → Equal i mask
  unfolding byte_of
  equal f i mask r = rows f (eqb i 0xc1) (eqb i 0xc3) (eqb i 0xcd) (eqb i 0xce) (eqb i 0xcf) (later s i) (later t i) mask r

  all_equal : (d : Edition) → Fixed d s t → (i : ℕ) → bit_and (byte_of s i) (locked_bits d i) ≡ bit_and (byte_of t i) (locked_bits d i)
  unfolding locked_bits later_bits
  all_equal Cx486 k i = equal k i 0 (and_zero_r (later s i) ∙ sym (and_zero_r (later t i)))
  all_equal Mii k i = equal k.listed i _ (later_rows k (eqb i 0xea) (eqb i 0xb0) (eqb i 0xb1) (eqb i 0xb2) (eqb i 0xb3))

pub locked_as_listed : LockedAsListed
locked_as_listed s t hs ht e =
    (fixed s t hs ht t.edition refl, λ f. record { edition = e; same = all_equal s t hs ht t.edition f })
