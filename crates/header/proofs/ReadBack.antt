-- The table fills the 48 bytes, and what was written is read back. Assumes nothing.
use mathlib.Core.Path.{◌≡◌, refl, ◌∙◌}
use mathlib.Core.Bool.{Bool, true, ◌&&◌, and-eq-true_iff}
use mathlib.Core.List.{List, [], ◌∷◌, ◌++◌, map, flat_map}
use Prim.Native.Nat.{ℕ, zero, suc, ◌+◌, ◌*◌, ◌/◌, ◌%◌, ◌-◌, ◌≤◌, ◌<◌}
use native.Mathlib.Omega.{arith}
use lib.ListN.{length, get_or}
use lib.Seq.{sets, get_or-append-add}
use lib.Dec.{eqb}
use borrow.Author.Tests.{eqb-true}
use Rattle.fields.specs.Fields.{field_at, bytes_of, bit}
use Rattle.fields.proofs.Laws.{field_same, length_bytes_of, number_bytes, bit_small, bit_back}
use Rattle.fields.proofs.Storing.{stored_byte}
use Rattle.header.specs.declared.Level.{Level}
use Rattle.header.specs.declared.Level.TheVariants.{Zero, One, Two, Three}
use Rattle.header.specs.declared.Saved.{Saved}
use Rattle.header.specs.Header.{header_length, Word, depth, contents, upward, level_number, level_of, words_bytes, header_bytes, headed, word_in, resumed, nested_in}
use Rattle.header.specs.ReadBack.{TableFills, SavedFits, WordsReadBack, RegistersReadBack, NestedReadBack}

-- each word begins four bytes below those above it
abbrev stacked : List Word → Bool
stacked [] = true
stacked (w ∷ ws) = eqb (depth w) (4 * suc (length ws)) && stacked ws

fills : (ws : List Word) → stacked ws ≡ true → (k : ℕ) → k < length ws → depth (get_or ws k Word.Dr7) + 4 * k ≡ 4 * length ws
fills [] e k h = absurd (omega arith)
fills (w ∷ ws) e zero h =
    let p = (and-eq-true_iff (eqb (depth w) (4 * suc (length ws))) (stacked ws)).0 e in
    omega (arith, eqb-true (depth w) (4 * suc (length ws)) p.0)
fills (w ∷ ws) e (suc k) h =
    let p = (and-eq-true_iff (eqb (depth w) (4 * suc (length ws))) (stacked ws)).0 e in
    omega (arith, fills ws p.1 k (omega arith))

pub table_fills : TableFills
table_fills = (refl, fills upward refl)

length_bytes : (ws : List ℕ) → length (words_bytes ws) ≡ 4 * length ws
unfolding flat_map bytes_of
length_bytes [] = refl
length_bytes (w ∷ ws) = let e = length_bytes ws in omega arith

pub header_long : (s : Saved) → length (header_bytes s) ≡ header_length
unfolding header_bytes
header_long s = length_bytes (map (contents s) upward)

-- the words that the bytes hold
held : (ws : List ℕ) (k : ℕ) → k < length ws → get_or ws k 0 < 4294967296 → field_at (words_bytes ws) (4 * k) 4 ≡ get_or ws k 0
unfolding flat_map
held [] k h f = absurd (omega arith)
held (w ∷ ws) zero h f = number_bytes 4 w (words_bytes ws) f
held (w ∷ ws) (suc k) h f =
    field_same (bytes_of 4 w ++ words_bytes ws) (words_bytes ws) (4 * suc k) (4 * k) 4
    (λ i m.
    let e : 4 * suc k + i ≡ length (bytes_of 4 w) + (4 * k + i) = omega (arith, length_bytes_of 4 w) in
    rw e (get_or-append-add (bytes_of 4 w) (words_bytes ws) (4 * k + i) 0))
    ∙ held ws k (omega arith) f

-- a word of a list of words that was stored
stored_word : (g ws : List ℕ) (at k : ℕ) → at + 4 * length ws ≤ length g → k < length ws → get_or ws k 0 < 4294967296
    → field_at (sets g at (words_bytes ws)) (at + 4 * k) 4 ≡ get_or ws k 0
stored_word g ws at k h l f =
    let b = length_bytes ws in
    field_same (sets g at (words_bytes ws)) (words_bytes ws) (at + 4 * k) (4 * k) 4
    (λ i m.
    let e : at + 4 * k + i ≡ at + (4 * k + i) = omega arith in
    rw e (stored_byte g (words_bytes ws) at (4 * k + i) (omega arith) (omega arith)))
    ∙ held ws k l f

level_small : (l : Level) → level_number l < 4
level_small Zero = omega arith
level_small One = omega arith
level_small Two = omega arith
level_small Three = omega arith

module _ (s : Saved) (f : SavedFits s) where
  fits : (w : Word) → contents s w < 4294967296
  fits Word.Dr7 = f.registers.dr7
  fits Word.Eflags = f.registers.eflags
  fits Word.Cr0 = f.registers.cr0
  fits Word.CurrentIp = f.current
  fits Word.NextIp = f.next
  fits Word.CsLevel = let a = f.registers.selector in let b = level_small s.registers.level in omega arith
  fits Word.DescriptorHigh = let a = f.registers.descriptor in omega arith
  fits Word.DescriptorLow = omega arith
  fits Word.Flags = omega (arith, bit_small s.registers.writable, bit_small s.trap.output, bit_small s.trap.rep, bit_small s.smint, bit_small s.halted, bit_small s.nested)
  fits Word.PortSize = f.transfer
  fits Word.OutputData = f.value
  fits Word.StringIndex = f.index

  module _ (g : List ℕ) (at : ℕ) (h : at + 48 ≤ length g) where
    back_at : (k : ℕ) (w : Word) → k < 12 → get_or (map (contents s) upward) k 0 ≡ contents s w → field_at (headed g at s) (at + 4 * k) 4 ≡ contents s w
    unfolding headed header_bytes
    back_at k w l e = let i : contents s w < 4294967296 = fits w in stored_word g (map (contents s) upward) at k h l (omega (arith, e)) ∙ e

    back : (w : Word) → word_in (headed g at s) at w ≡ contents s w
    back Word.Dr7 = back_at 11 Word.Dr7 (omega arith) refl
    back Word.Eflags = back_at 10 Word.Eflags (omega arith) refl
    back Word.Cr0 = back_at 9 Word.Cr0 (omega arith) refl
    back Word.CurrentIp = back_at 8 Word.CurrentIp (omega arith) refl
    back Word.NextIp = back_at 7 Word.NextIp (omega arith) refl
    back Word.CsLevel = back_at 6 Word.CsLevel (omega arith) refl
    back Word.DescriptorHigh = back_at 5 Word.DescriptorHigh (omega arith) refl
    back Word.DescriptorLow = back_at 4 Word.DescriptorLow (omega arith) refl
    back Word.Flags = back_at 3 Word.Flags (omega arith) refl
    back Word.PortSize = back_at 2 Word.PortSize (omega arith) refl
    back Word.OutputData = back_at 1 Word.OutputData (omega arith) refl
    back Word.StringIndex = back_at 0 Word.StringIndex (omega arith) refl

pub words_back : WordsReadBack
words_back g at s h f w = back s f g at h w

level_back : (l : Level) → level_of (level_number l) ≡ l
level_back Zero = refl
level_back One = refl
level_back Two = refl
level_back Three = refl

pub registers_back : RegistersReadBack
unfolding resumed
registers_back g at s h f =
    let r = s.registers in
    let b = back s f g at h in
    let k = level_small r.level in
    let m = f.registers.selector in
    let selector : (r.cs.selector + 2097152 * level_number r.level) % 65536 ≡ r.cs.selector = omega arith in
    let level : (r.cs.selector + 2097152 * level_number r.level) / 2097152 % 4 ≡ level_number r.level
    = let q : (r.cs.selector + 2097152 * level_number r.level) / 2097152 ≡ level_number r.level = omega arith in rw q (omega arith) in
    let descriptor : r.cs.descriptor % 4294967296 + 4294967296 * (r.cs.descriptor / 4294967296) ≡ r.cs.descriptor = omega arith in
    let c : contents s Word.Flags % 2 ≡ bit r.writable = omega (arith, bit_small r.writable) in
    rw (b Word.NextIp, b Word.Eflags, b Word.Cr0, b Word.Dr7, b Word.CsLevel, b Word.DescriptorLow, b Word.DescriptorHigh, b Word.Flags)
    (rw (selector, level, descriptor, c, level_back r.level, bit_back r.writable))

pub nested_back : NestedReadBack
nested_back g at s h f =
    let t = s.trap in
    let n : contents s Word.Flags / 32768 % 2 ≡ bit s.nested
    = omega (arith, bit_small s.registers.writable, bit_small t.output, bit_small t.rep, bit_small s.smint, bit_small s.halted, bit_small s.nested) in
    rw (back s f g at h Word.Flags, n) (bit_back s.nested)

-- ---- a header by its bytes

-- every word lies within the 48 bytes
depths : (w : Word) → (4 ≤ depth w) × (depth w ≤ header_length)
depths Word.Dr7 = (omega arith, omega arith)
depths Word.Eflags = (omega arith, omega arith)
depths Word.Cr0 = (omega arith, omega arith)
depths Word.CurrentIp = (omega arith, omega arith)
depths Word.NextIp = (omega arith, omega arith)
depths Word.CsLevel = (omega arith, omega arith)
depths Word.DescriptorHigh = (omega arith, omega arith)
depths Word.DescriptorLow = (omega arith, omega arith)
depths Word.Flags = (omega arith, omega arith)
depths Word.PortSize = (omega arith, omega arith)
depths Word.OutputData = (omega arith, omega arith)
depths Word.StringIndex = (omega arith, omega arith)

-- what RSM reads goes by these bytes alone
module _ (g h : List ℕ) (at : ℕ) (same : (i : ℕ) → i < header_length → get_or g (at + i) 0 ≡ get_or h (at + i) 0) where
  pub word_same : (w : Word) → word_in g at w ≡ word_in h at w
  word_same w =
      let d = depths w in
      let off = header_length - depth w in
      field_same g h (at + off) (at + off) 4
      (λ i l. let e : at + off + i ≡ at + (off + i) = omega arith in rw e (same (off + i) (omega arith)))

  pub resumed_same : resumed g at ≡ resumed h at
  unfolding resumed
  resumed_same =
      rw (
        word_same Word.NextIp,
        word_same Word.Eflags,
        word_same Word.Cr0,
        word_same Word.Dr7,
        word_same Word.CsLevel,
        word_same Word.DescriptorLow,
        word_same Word.DescriptorHigh,
        word_same Word.Flags,
      )

  pub nested_same : nested_in g at ≡ nested_in h at
  nested_same = rw (word_same Word.Flags)
