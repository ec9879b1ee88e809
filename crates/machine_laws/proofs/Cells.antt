-- Accesses byte by byte. Assumes nothing.
use mathlib.Core.Path.{◌≡◌, refl, sym, ap, ◌∙◌}
use mathlib.Core.Bool.{Bool, true, false, cond, not, ◌&&◌, ◌||◌}
use mathlib.Core.List.{List, [], ◌∷◌, ◌++◌}
use Prim.Native.Nat.{ℕ, zero, suc, ◌+◌}
use native.Mathlib.Omega.{arith}
use lib.ListN.{length}
use lib.Dec.{leb, ltb}
use borrow.Author.Tests.{leb-true, leb-false, lt-ltb, le-ltb, ltb-true, ltb-false, le-leb, lt-leb}
use Rattle.fields.specs.Fields.{number_by, bytes_of}
use Rattle.region.specs.Region.{within}
use Rattle.memory.specs.Memory.{Memories, cell_of, byte_in, store_in, byte_at, store_byte, absent, all_there, there, load, store_bytes, store, segment_at, store_segment, reaches, reads, writes}
use Rattle.steps.specs.declared.Answer.TheVariants.{Done, Absent}
use Rattle.settings.specs.Settings.{smhr}
use Rattle.settings_laws.proofs.Routing.{window_routes}
use Rattle.machine.specs.declared.Machine.{Machine}
use Rattle.machine.specs.Machines.{settings_of, segment_in}
use Rattle.machine.specs.Outcomes.{gives, ends, refused}
use Rattle.machine.specs.Steps.{window, saved, restored, smhr_stored, smhr_loaded, operated, performed}
use Rattle.machine_laws.specs.Cells.{managed, cell_at, whole, number_at, put, WholeByCells, ReadsByCells, WritesByCells, OperandsByCells}

-- a test and its opposite
not_ltb : (a b : ℕ) (t : Bool) → leb b a ≡ t → not t ≡ ltb a b
not_ltb a b true e = sym (le-ltb a b (leb-true b a e))
not_ltb a b false e = sym (lt-ltb a b (leb-false b a e))

not_leb : (a b : ℕ) (t : Bool) → ltb b a ≡ t → not t ≡ leb a b
not_leb a b true e = sym (lt-leb a b (ltb-true b a e))
not_leb a b false e = sym (le-leb a b (ltb-false b a e))

neither : (p q r : Bool) → not (p || (not q && r)) ≡ (not p && (q || not r))
neither true q r = refl
neither false true r = refl
neither false false r = refl

module _ (m : Machine) where
  routes : (a : ℕ) → within (window m) a ≡ managed m a
  routes a = (window_routes (settings_of m) m.inside a).0

  cell : (a : ℕ) → cell_of (window m) a ≡ cell_at m a
  cell a = (window_routes (settings_of m) m.inside a).1

  there_byte : (x : Memories) (a : ℕ) → not (absent (window m) (length x.main) a) ≡ (leb a 4294967295 && (managed m a || ltb a (length x.main)))
  unfolding absent
  there_byte x a =
      let end = length x.main in
      neither (ltb 4294967295 a) (within (window m) a) (leb end a)
      ∙ rw (routes a, not_leb a 4294967295 (ltb 4294967295 a) refl, not_ltb a end (leb end a) refl)

  whole_is : (x : Memories) (a n : ℕ) → there (window m) x a n ≡ whole m x a n
  unfolding all_there whole
  whole_is x a zero = refl
  whole_is x a (suc n) = rw (there_byte x a, whole_is x (a + 1) n)

  number_is : (x : Memories) (a n : ℕ) → load (window m) x a n ≡ number_at m x a n
  unfolding byte_at
  number_is x a n = ap (λ (b : ℕ → ℕ). number_by b a n) (λ i k. byte_in x (cell k i))

  put_is : (x : Memories) (a : ℕ) (bs : List ℕ) → store_bytes (window m) x a bs ≡ put m x a bs
  unfolding store_bytes store_byte put
  put_is x a [] = refl
  put_is x a (b ∷ bs) = rw (cell a) (put_is (store_in x (cell_at m a) b) (a + 1) bs)

pub whole_by_cells : WholeByCells
whole_by_cells = whole_is

pub reads_by_cells : ReadsByCells
unfolding performed reads
reads_by_cells m x width a = rw (whole_is m x a width, number_is m x a width)

pub writes_by_cells : WritesByCells
unfolding performed writes
writes_by_cells m x width a v = rw (whole_is m x a width) (go (whole m x a width))
  where
    done : store_bytes (window m) x a (bytes_of width v) ≡ put m x a (bytes_of width v)
    done = put_is m x a (bytes_of width v)

    go : (t : Bool)
        → (let r = cond t (reaches Done (store (window m) x a width v)) (reaches Absent x) in ends (gives m r.answer) r.memory)
        ≡ cond t (ends (gives m Done) (put m x a (bytes_of width v))) (refused m x Absent)
    go true = rw done
    go false = refl

-- one list after another
put_both : (m : Machine) (x : Memories) (a : ℕ) (bs cs : List ℕ) → put m (put m x a bs) (a + length bs) cs ≡ put m x a (bs ++ cs)
unfolding put
put_both m x a [] cs = let e : a + 0 ≡ a = omega arith in rw e
put_both m x a (b ∷ bs) cs =
    let e : a + suc (length bs) ≡ a + 1 + length bs = omega arith in
    rw e (put_both m (store_in x (cell_at m a) b) (a + 1) bs cs)

-- a segment's ten bytes
put_segment : (m : Machine) (x : Memories) (a d s : ℕ)
    → store_bytes (window m) (store_bytes (window m) x a (bytes_of 8 d)) (a + 8) (bytes_of 2 s) ≡ put m x a (bytes_of 8 d ++ bytes_of 2 s)
unfolding bytes_of
put_segment m x a d s =
    rw (put_is m x a (bytes_of 8 d), put_is m (put m x a (bytes_of 8 d)) (a + 8) (bytes_of 2 s)) (put_both m x a (bytes_of 8 d) (bytes_of 2 s))

pub operands_by_cells : OperandsByCells
unfolding operated saved restored smhr_stored smhr_loaded segment_at store_segment
operands_by_cells m x n a next =
    let g = segment_in m n in (
      rw (put_segment m x a g.descriptor g.selector),
      rw (number_is m x (a + 8) 2, number_is m x a 8),
      rw (put_is m x a (bytes_of 4 (smhr (settings_of m)))),
      rw (number_is m x a 4),
    )
