-- Bytes that are stored one by one through a window, whatever memory each of them goes to: which bytes change, and what is read there. Assumes
-- nothing.
use mathlib.Core.Path.{◌≡◌, refl, sym, ap, ◌∙◌}
use mathlib.Core.Bool.{Bool, true, false, cond, not, and-eq-true_iff}
use mathlib.Core.List.{List, [], ◌∷◌, ◌++◌}
use Prim.Native.Nat.{ℕ, zero, suc, ◌+◌, ◌-◌, ◌^◌, ◌<◌}
use native.Mathlib.Omega.{arith}
use lib.ListN.{get_or-append, length, get_or, length-set}
use lib.Seq.{get_or-set_same, get_or-set_other, get_or-append-add}
use borrow.Author.Tests.{not-true}
use Rattle.region.specs.declared.Region.{Region}
use Rattle.region.specs.Region.{within}
use Rattle.region.proofs.Laws.{within_has}
use Rattle.fields.specs.Fields.{bytes_of}
use Rattle.fields.proofs.Laws.{number_same, length_bytes_of, number_bytes}
use Rattle.memory.specs.declared.Segment.{Segment}
use Rattle.memory.specs.Memory.{Memories, Cell, cell_of, byte_in, store_in, byte_at, store_byte, absent, all_there, store_bytes, segment_at, store_segment}

-- ---- one byte

-- a cell below its memory's end
abbrev pub Held : Memories → Cell → Type 0
Held x (Cell.InMain k) = k < length x.main
Held x (Cell.InManagement k) = k < length x.management

same_cell : (x : Memories) (c : Cell) (b : ℕ) → Held x c → byte_in (store_in x c b) c ≡ b
same_cell x (Cell.InMain k) b h = get_or-set_same x.main k b 0 h
same_cell x (Cell.InManagement k) b h = get_or-set_same x.management k b 0 h

other_cell : (x : Memories) (d c : Cell) (b : ℕ) → (d ≡ c → ⊥) → byte_in (store_in x d b) c ≡ byte_in x c
other_cell x (Cell.InMain k) (Cell.InMain l) b n = get_or-set_other x.main k l b 0 (λ e. n (ap Cell.InMain (sym e)))
other_cell x (Cell.InMain k) (Cell.InManagement l) b n = refl
other_cell x (Cell.InManagement k) (Cell.InMain l) b n = refl
other_cell x (Cell.InManagement k) (Cell.InManagement l) b n = get_or-set_other x.management k l b 0 (λ e. n (ap Cell.InManagement (sym e)))

-- no store makes a memory longer or shorter
pub record SameLengths (x y : Memories) : Type 0 where
  pub main : length y.main ≡ length x.main
  pub management : length y.management ≡ length x.management

cell_lengths : (x : Memories) (d : Cell) (b : ℕ) → SameLengths x (store_in x d b)
cell_lengths x (Cell.InMain k) b = record { main = length-set x.main k b; management = refl }
cell_lengths x (Cell.InManagement k) b = record { main = refl; management = length-set x.management k b }

still_held : {x y : Memories} → SameLengths x y → (c : Cell) → Held x c → Held y c
still_held s (Cell.InMain k) h = rw s.main h
still_held s (Cell.InManagement k) h = rw s.management h

-- every address has a cell of its own
abbrev tag : Cell → ℕ
tag (Cell.InMain k) = k + k
tag (Cell.InManagement k) = suc (k + k)

abbrev cell_by : Region → ℕ → Bool → Cell
cell_by w a t = cond t (Cell.InManagement (a - w.base)) (Cell.InMain a)

one_cell : (w : Region) (a b : ℕ) → cell_of w a ≡ cell_of w b → a ≡ b
unfolding cell_of
one_cell w a b = go (within w a) (within w b) refl refl
  where
    go : (t u : Bool) → within w a ≡ t → within w b ≡ u → cell_by w a t ≡ cell_by w b u → a ≡ b
    go true true e f h =
        let p = (within_has w a e).low in
        let q = (within_has w b f).low in
        let z = ap tag h in
        omega (arith, p, q, z)
    go true false e f h = let z = ap tag h in absurd (omega (arith, z))
    go false true e f h = let z = ap tag h in absurd (omega (arith, z))
    go false false e f h = let z = ap tag h in omega (arith, z)

-- ---- several

module _ (w : Region) where
  pub bytes_lengths : (x : Memories) (a : ℕ) (bs : List ℕ) → SameLengths x (store_bytes w x a bs)
  unfolding store_bytes store_byte
  bytes_lengths x a [] = record { main = refl; management = refl }
  bytes_lengths x a (b ∷ bs) =
      let s = cell_lengths x (cell_of w a) b in
      let t = bytes_lengths (store_byte w x a b) (a + 1) bs in
      record { main = t.main ∙ s.main; management = t.management ∙ s.management }

  -- a cell that is none of theirs
  pub bytes_elsewhere : (x : Memories) (a : ℕ) (bs : List ℕ) (c : Cell) → ((t : ℕ) → t < length bs → cell_of w (a + t) ≡ c → ⊥)
      → byte_in (store_bytes w x a bs) c ≡ byte_in x c
  unfolding store_bytes store_byte
  bytes_elsewhere x a [] c n = refl
  bytes_elsewhere x a (b ∷ bs) c n =
      let shift : (t : ℕ) → a + 1 + t ≡ a + suc t = λ t. omega arith in
      let first : a + 0 ≡ a = omega arith in
      bytes_elsewhere (store_byte w x a b) (a + 1) bs c (λ t l e. n (suc t) (omega arith) (rw (shift t) at e))
      ∙ other_cell x (cell_of w a) c b (λ e. n 0 (omega arith) (rw first e))

  -- their own
  pub bytes_there : (x : Memories) (a : ℕ) (bs : List ℕ) → ((t : ℕ) → t < length bs → Held x (cell_of w (a + t)))
      → (i : ℕ) → i < length bs → byte_in (store_bytes w x a bs) (cell_of w (a + i)) ≡ get_or bs i 0
  unfolding store_bytes store_byte
  bytes_there x a [] held i h = absurd (omega arith)
  bytes_there x a (b ∷ bs) held zero h =
      let e : a + 0 ≡ a = omega arith in
      rw e
      (bytes_elsewhere (store_byte w x a b) (a + 1) bs (cell_of w a) (λ t l q. let z = one_cell w (a + 1 + t) a q in omega (arith, z))
      ∙ same_cell x (cell_of w a) b (rw e at (held 0 (omega arith))))
  bytes_there x a (b ∷ bs) held (suc i) h =
      let shift : (t : ℕ) → a + suc t ≡ a + 1 + t = λ t. omega arith in
      rw (shift i)
      (bytes_there (store_byte w x a b) (a + 1) bs
      (λ t l. still_held (cell_lengths x (cell_of w a) b) (cell_of w (a + 1 + t)) (rw (shift t) at (held (suc t) (omega arith)))) i (omega arith))

  -- two lists, the second where the first ends
  bytes_append : (x : Memories) (a : ℕ) (bs cs : List ℕ)
      → store_bytes w x a (bs ++ cs) ≡ store_bytes w (store_bytes w x a bs) (a + length bs) cs
  unfolding store_bytes
  bytes_append x a [] cs = let e : a + 0 ≡ a = omega arith in rw e
  bytes_append x a (b ∷ bs) cs =
      let e : a + 1 + length bs ≡ a + suc (length bs) = omega arith in
      bytes_append (store_byte w x a b) (a + 1) bs cs ∙ ap (λ (k : ℕ). store_bytes w (store_bytes w (store_byte w x a b) (a + 1) bs) k cs) e

  -- where n bytes are there each is
  pub each_there : (end a n : ℕ) → all_there w end a n ≡ true → (t : ℕ) → t < n → absent w end (a + t) ≡ false
  unfolding all_there
  each_there end a zero h t l = absurd (omega arith)
  each_there end a (suc n) h zero l =
      let e : a + 0 ≡ a = omega arith in
      rw e (not-true (absent w end a) ((and-eq-true_iff _ _).0 h).0)
  each_there end a (suc n) h (suc t) l =
      let e : a + suc t ≡ a + 1 + t = omega arith in
      rw e (each_there end (a + 1) n ((and-eq-true_iff (not (absent w end a)) _).0 h).1 t (omega arith))

-- ---- a segment

-- its ten bytes
abbrev pub ten_bytes : Segment → List ℕ
ten_bytes s = bytes_of 8 s.descriptor ++ bytes_of 2 s.selector

pub ten_long : (s : Segment) → length (ten_bytes s) ≡ 10
unfolding bytes_of
ten_long s = refl

pub segment_bytes : (w : Region) (x : Memories) (a : ℕ) (s : Segment) → store_segment w x a s ≡ store_bytes w x a (ten_bytes s)
unfolding store_segment
segment_bytes w x a s =
    let d = bytes_of 8 s.descriptor in
    ap (λ (n : ℕ). store_bytes w (store_bytes w x a d) (a + n) (bytes_of 2 s.selector)) (sym (length_bytes_of 8 s.descriptor))
    ∙ sym (bytes_append w x a d (bytes_of 2 s.selector))

-- what is read where they are
pub segment_read : (w : Region) (x : Memories) (a : ℕ) (s : Segment) → s.selector < 2 ^ 16 → s.descriptor < 2 ^ 64
    → ((t : ℕ) → t < 10 → byte_at w x (a + t) ≡ get_or (ten_bytes s) t 0) → segment_at w x a ≡ s
unfolding segment_at
segment_read w x a s f g h =
    let d = bytes_of 8 s.descriptor in
    let e = bytes_of 2 s.selector in
    let zero-sum : (i : ℕ) → 0 + i ≡ i = λ i. omega arith in
    let low =
    number_same (byte_at w x) (λ (k : ℕ). get_or (d ++ e) k 0) a 0 8 (λ i l. rw (zero-sum i) (h i (omega arith)))
    ∙ number_bytes 8 s.descriptor e g in
    let high =
    number_same (byte_at w x) (λ (k : ℕ). get_or (e ++ []) k 0) (a + 8) 0 2
    (λ i l.
    let shift : a + 8 + i ≡ a + (8 + i) = omega arith in
    let after : 8 + i ≡ length d + i = omega (arith, length_bytes_of 8 s.descriptor) in
    rw (shift, zero-sum i)
    (h (8 + i) (omega arith)
    ∙ ap (λ (k : ℕ). get_or (d ++ e) k 0) after
    ∙ get_or-append-add d e i 0
    ∙ sym (get_or-append e [] 0 i (omega (arith, length_bytes_of 2 s.selector)))))
    ∙ number_bytes 2 s.selector [] f in
    rw (low, high)
