-- Laws of the memories, over any window, address and count. A law of one of the two memories is over which it is: t says that it is
-- management memory. Assumes nothing.
use mathlib.Core.Path.{◌≡◌, refl, sym, ap, ◌∙◌}
use mathlib.Core.Bool.{Bool, true, false, cond, not, ◌&&◌}
use mathlib.Core.List.{List}
use Prim.Native.Nat.{ℕ, zero, suc, ◌+◌, ◌/◌, ◌%◌, ◌-◌, ◌≤◌, ◌<◌, min}
use native.Mathlib.Omega.{arith}
use Rattle.std.specs.List.{list_all, range_with_len}
use lib.Seq.{sets}
use lib.ListN.{length, get_or, set}
use borrow.Author.Tests.{le-ltb, lt-leb}
use Rattle.region.specs.Region.{within}
use Rattle.region.specs.declared.Region.{Region}
use Rattle.region.proofs.Laws.{within_has}
use Rattle.fields.specs.Fields.{field_at, bytes_of}
use Rattle.fields.proofs.Laws.{number_same}
use Rattle.steps.specs.declared.Answer.TheVariants.{Done, Value}
use Rattle.memory.specs.Route.{Each, Together}
use Rattle.memory.specs.Memory.{Memories, memories, Cell, cell_of, byte_at, store_byte, absent, all_there, load, store_bytes, store, reaches, reads, writes}

-- the memories of which l is the one, and o the other
abbrev pub memories_by : Bool → List ℕ → List ℕ → Memories
memories_by true l o = memories o l
memories_by false l o = memories l o

-- an address's number in it
abbrev pub place : Bool → Region → ℕ → ℕ
place true w a = a - w.base
place false w a = a

-- the cell of a number in it
abbrev pub cell : Bool → ℕ → Cell
cell true k = Cell.InManagement k
cell false k = Cell.InMain k

-- ---- one byte

-- what a cell says of its address
pub cell_is : (w : Region) (a : ℕ) (t : Bool) (k : ℕ) → cell t k ≡ cell_of w a → (within w a ≡ t) × (k ≡ place t w a)
unfolding cell_of
cell_is w a t k = go (within w a) t
  where
    go : (u t : Bool) → cell t k ≡ cond u (Cell.InManagement (a - w.base)) (Cell.InMain a) → (u ≡ t) × (k ≡ place t w a)
    go true true e = (refl, cc)
    go true false e = absurd (cc)
    go false true e = absurd (cc)
    go false false e = (refl, cc)

module _ (w : Region) (a : ℕ) where
  pub byte_of : (t : Bool) (l o : List ℕ) → within w a ≡ t → byte_at w (memories_by t l o) a ≡ get_or l (place t w a) 0
  unfolding byte_at cell_of
  byte_of true l o e = rw e
  byte_of false l o e = rw e

  pub store_of : (t : Bool) (l o : List ℕ) (b : ℕ) → within w a ≡ t
      → store_byte w (memories_by t l o) a b ≡ memories_by t (set l (place t w a) b) o
  unfolding store_byte cell_of
  store_of true l o b e = rw e
  store_of false l o b e = rw e

  place_on : (t : Bool) (i : ℕ) → within w a ≡ t → place t w (a + i) ≡ place t w a + i
  place_on true i e = omega (arith, (within_has w a e).low)
  place_on false i e = refl

  there_of : (t : Bool) (end : ℕ) → a ≤ 0xffffffff → (t ≡ false → a < end) → within w a ≡ t → absent w end a ≡ false
  unfolding absent
  there_of true end m l e = simp (le-ltb 0xffffffff a m, e)
  there_of false end m l e = simp (le-ltb 0xffffffff a m, e, lt-leb end a (l refl))

-- ---- whether all bytes are there

pub all_listed : (w : Region) (end a n : ℕ) → list_all (λ b. not (absent w end b)) (range_with_len a n) ≡ all_there w end a n
unfolding all_there
all_listed w end a zero = refl
all_listed w end a (suc n) = ap (λ t. not (absent w end a) && t) (all_listed w end (a + 1) n)

-- ---- storing

module _ (w : Region) (x : Memories) (a : ℕ) where
  -- a loop's turn: what is left to store from the next byte on
  pub store_turn : (y o : Memories) (n m v : ℕ) → n ≡ suc m → y ≡ store_byte w x a (v % 256) → store w x a n v ≡ o
      → store w y (a + 1) m (v / 256) ≡ o
  unfolding store_bytes bytes_of
  store_turn y o n m v h e f = ap (λ (z : Memories). store w z (a + 1) m (v / 256)) e ∙ sym (ap (λ (k : ℕ). store w x a k v) h) ∙ f

  pub store_none : (n v : ℕ) → n ≤ 0 → store w x a n v ≡ x
  unfolding store_bytes bytes_of
  store_none n v h = let e : n ≡ 0 = omega arith in rw e

-- ---- all bytes in one memory

module _ (w : Region) (t : Bool) where
  -- of the first, and of those after it
  each_first : (a n : ℕ) → Each w a (suc n) t → within w a ≡ t
  each_first a n h = h a (omega arith) (omega arith)

  each_next : (a n : ℕ) → Each w a (suc n) t → Each w (a + 1) n t
  each_next a n h k l m = h k (omega arith) (omega arith)

  there_all : (end a n : ℕ) → Each w a n t → (t ≡ false → a + n ≤ end) → a + n ≤ 4294967296 → all_there w end a n ≡ true
  unfolding all_there
  there_all end a zero h l m = refl
  there_all end a (suc n) h l m =
      rw (there_of w a t end (omega arith) (λ e. omega (arith, l e)) (each_first a n h))
      (there_all end (a + 1) n (each_next a n h) (λ e. omega (arith, l e)) (omega arith))

  pub load_of : (l o : List ℕ) (a n : ℕ) → Each w a n t → load w (memories_by t l o) a n ≡ field_at l (place t w a) n
  load_of l o a n h =
      number_same _ _ a (place t w a) n
      (λ i m. byte_of w (a + i) t l o (h (a + i) (omega arith) (omega arith))
      ∙ ap (λ (k : ℕ). get_or l k 0) (place_on w a t i (h a (omega arith) (omega arith))))

  pub store_all_of : (l o : List ℕ) (a n v : ℕ) → Each w a n t
      → store w (memories_by t l o) a n v ≡ memories_by t (sets l (place t w a) (bytes_of n v)) o
  unfolding store_bytes bytes_of
  store_all_of l o a zero v h = refl
  store_all_of l o a (suc n) v h =
      let e = each_first a n h in
      let k : place t w (a + 1) ≡ suc (place t w a) = omega (arith, place_on w a t 1 e) in
      let y = set l (place t w a) (v % 256) in
      ap (λ (z : Memories). store w z (a + 1) n (v / 256)) (store_of w a t l o (v % 256) e)
      ∙ store_all_of y o (a + 1) n (v / 256) (each_next a n h)
      ∙ ap (λ (j : ℕ). memories_by t (sets y j (bytes_of n (v / 256))) o) k

-- ---- all or nothing

module _ (w : Region) (a : ℕ) (t : Bool) (l o : List ℕ) where
  -- a read of n bytes, where the code takes k
  pub read_whole : (n k j v : ℕ) → k ≡ min n 4 → (cell t j ≡ cell_of w a) × Together w (length (memories_by t l o).main) a k t
      → v ≡ field_at l j (min k 8) → Value v ≡ reads w (memories_by t l o) a (min n 4)
  unfolding reads
  read_whole n k j v e (c, r) f =
      let m : min k 8 ≡ k = omega arith in
      rw (sym e, there_all w t _ a k r.each r.inside r.below)
      (ap Value (rw (m, (cell_is w a t j c).1) at f ∙ sym (load_of w t l o a k r.each)))

  pub written_whole : (p : List ℕ) (n j v : ℕ) → (cell t j ≡ cell_of w a) × Together w (length (memories_by t l o).main) a n t
      → p ≡ sets l j (bytes_of n v) → reaches Done (memories_by t p o) ≡ writes w (memories_by t l o) a n v
  unfolding writes
  written_whole p n j v (c, r) e =
      rw (there_all w t _ a n r.each r.inside r.below, e, (cell_is w a t j c).1) (ap (reaches Done) (sym (store_all_of w t l o a n v r.each)))
