-- What changes a byte. Assumes nothing.
use mathlib.Core.Path.{◌≡◌, refl, sym, ap, subst, ◌∙◌}
use mathlib.Core.Bool.{Bool, true, false}
use mathlib.Core.List.{List}
use Prim.Native.Nat.{ℕ, ◌+◌, ◌-◌, ◌<◌}
use native.Mathlib.Omega.{arith}
use lib.Dec.{leb, ltb}
use lib.ListN.{length, get_or, take}
use lib.Seq.{sets, take_all}
use borrow.Author.Tests.{ltb-true, ltb-false, leb-true, leb-false}
use Rattle.region.specs.declared.Region.{Region}
use Rattle.fields.specs.Fields.{bytes_of}
use Rattle.fields.proofs.Laws.{length_bytes_of}
use Rattle.fields.proofs.Storing.{stored_below, stored_above}
use Rattle.memory.specs.Memory.{Memories, memories, Cell, cell_of, byte_in, store, there}
use Rattle.memory.proofs.Cells.{bytes_elsewhere, bytes_there}
use Rattle.steps.specs.declared.Step.{Step}
use Rattle.steps.specs.declared.Step.TheVariants.{Write, Opcode, Wake}
use Rattle.steps.specs.Steps.{kind_of}
use Rattle.refusals.specs.Refusals.{wrong_sizes}
use Rattle.refusals.proofs.Laws.{all_held}
use Rattle.settings.specs.Settings.{smhr}
use Rattle.header.specs.Header.{header_bytes, headed}
use Rattle.header.proofs.ReadBack.{header_long}
use Rattle.segments.specs.declared.SegmentName.{SegmentName}
use Rattle.opcodes.specs.declared.Operation.{Operation}
use Rattle.opcodes.specs.declared.Operation.TheVariants.{Save, Restore, Rdshr, Wrshr}
use Rattle.opcodes.proofs.Bytes.{sort}
use Rattle.opcodes.specs.Decode.{operation_of, operand_size}
use Rattle.machine.specs.declared.Machine.{Machine}
use Rattle.machine.specs.Machines.{settings_of, edition_of}
use Rattle.machine.specs.Outcomes.{Outcome}
use Rattle.machine.specs.Steps.{window, smhr_stored, operated, stepped}
use Rattle.runs.specs.Runs.{Run, run}
use Rattle.runs.proofs.Turns.{steps_in_turn}
use Rattle.runs.proofs.Stretch.{over}
use Rattle.isolation.specs.Service.{answer_to, Entering}
use Rattle.levels.specs.Levels.{place_of}
use Rattle.levels.proofs.Levels.{entry_header}
use Rattle.service.specs.NoMark.{serviced, serviced_to, Completes, operand_cell}
use Rattle.service.specs.Stored.{Among, InHeader, Stores, LeftThere, StoresAsListed, OnlyStored, KeptUnlessStored, KeptWhereQuiet, UnchangedUnlessStored}
use Rattle.service.proofs.Doing.{done, opcode_kind, in_list, wrote}
use Rattle.service.proofs.Leaving.{Leaves, step_leaves}
use Rattle.service.proofs.Segments.{saved_there}

-- ---- what is left there

number_there : (w : Region) (x : Memories) (a n v : ℕ) → wrong_sizes x ≡ false → there w x a n ≡ true → (t : ℕ) → t < n
    → byte_in (store w x a n v) (cell_of w (a + t)) ≡ get_or (bytes_of n v) t 0
number_there w x a n v z all t l =
    let e = length_bytes_of n v in
    bytes_there w x a (bytes_of n v) (λ i h. all_held w x a n z all i (rw e at h)) t (rw e l)

rdshr_left : {k : Machine} {y : Memories} {a : ℕ} {s : Step} → Completes k y Rdshr a s → (t : ℕ) → t < 4
    → byte_in (stepped k y s).memory (operand_cell k a t) ≡ get_or (bytes_of 4 (smhr (settings_of k))) t 0
unfolding operated smhr_stored
rdshr_left {k} {y} {a} c t l =
    let d = done c in
    ap (λ (o : Outcome). byte_in o.memory (operand_cell k a t)) d.outcome
    ∙ number_there (window k) y a 4 (smhr (settings_of k)) d.sizes d.there t l

pub left_there : LeftThere
left_there k y c s (Stores.by_write {width} {a} {v} t h) =
    let r = wrote k y width a v h in
    rw (← t.cell)
    (ap (λ (z : Memories). byte_in z (operand_cell k a t.byte)) r.memory ∙ number_there (window k) y a width v r.sizes r.there t.byte t.below)
left_there k y c s (Stores.by_save t h) = rw (← t.cell) (saved_there h t.byte t.below)
left_there k y c s (Stores.by_rdshr t h) = rw (← t.cell) (rdshr_left h t.byte t.below)
left_there k y c s (Stores.by_entry t by h) = rw (← t.cell) ((entry_header k y s h by).header t.byte t.below)

-- ---- what stores, by the kind of the record

done_zero : {k : Machine} {y : Memories} {o : Operation} {a : ℕ} {s : Step} → Completes k y o a s → answer_to k y s ≡ 0
done_zero (Completes.completes d h) = h

-- an entry is by a boundary or an opcode
entering_kind : {k : Machine} {s : Step} → Entering k s → 6 < kind_of s
entering_kind (Entering.at_boundary on may asked) = omega arith
entering_kind (Entering.by_smint d v) = omega arith

module _ (k : Machine) (y : Memories) (c : Cell) where
  -- an opcode that completes an operation which isn't a restore or WRSHR
  completed : (o : Operation) (op modrm a b next : ℕ) → (sort o ≡ 1 → ⊥) → (sort o ≡ 3 → ⊥) → Among k a (operand_size o) c
      → Completes k y o a (Opcode op modrm b next)
      → let q = operation_of (edition_of k) op modrm in
      (answer_to k y (Opcode op modrm b next) ≡ 0) × Among k b (operand_size q) c × ((n : SegmentName) → q ≡ Restore n → ⊥) × (q ≡ Wrshr → ⊥)
  completed o op modrm a b next r w t (Completes.completes d h) =
      (h, rw d t, λ n e. r (ap sort (sym d ∙ e)), λ e. w (ap sort (sym d ∙ e)))

  by_writing : (width a v : ℕ) → Stores k y c (Write width a v) → (answer_to k y (Write width a v) ≡ 0) × Among k a width c
  by_writing width a v (Stores.by_write t h) = (h, t)
  by_writing width a v (Stores.by_save t h) = let z : ◌≡◌ {A = ℕ} 4 7 = opcode_kind h in absurd (omega (arith, z))
  by_writing width a v (Stores.by_rdshr t h) = let z : ◌≡◌ {A = ℕ} 4 7 = opcode_kind h in absurd (omega (arith, z))
  by_writing width a v (Stores.by_entry t by h) = let z : 6 < 4 = entering_kind by in absurd (omega (arith, z))

  by_opcode : (op modrm a next : ℕ)
      → let s = Opcode op modrm a next in
      let o = operation_of (edition_of k) op modrm in
      Stores k y c s → (answer_to k y s ≡ 11 → ⊥)
      → (answer_to k y s ≡ 0) × Among k a (operand_size o) c × ((n : SegmentName) → o ≡ Restore n → ⊥) × (o ≡ Wrshr → ⊥)
  by_opcode op modrm a next (Stores.by_save {n = n} {a = b} t h) none =
      completed (Save n) op modrm b a next (λ e. omega (arith, e)) (λ e. omega (arith, e)) t h
  by_opcode op modrm a next (Stores.by_rdshr {a = b} t h) none =
      completed Rdshr op modrm b a next (λ e. omega (arith, e)) (λ e. omega (arith, e)) t h
  by_opcode op modrm a next (Stores.by_entry t by h) none = absurd (none h)

  by_entering : (s : Step) → Stores k y c s → answer_to k y s ≡ 11 → InHeader k c
  by_entering s (Stores.by_write t h) e = absurd (omega (arith, h, e))
  by_entering s (Stores.by_save t h) e = let z = done_zero h in absurd (omega (arith, z, e))
  by_entering s (Stores.by_rdshr t h) e = let z = done_zero h in absurd (omega (arith, z, e))
  by_entering s (Stores.by_entry t by h) e = t

  by_other : (s : Step) → (kind_of s ≡ 4 → ⊥) → (kind_of s ≡ 7 → ⊥) → Stores k y c s → answer_to k y s ≡ 11
  by_other s write opcode (Stores.by_write t h) = absurd (write refl)
  by_other s write opcode (Stores.by_save t h) = absurd (opcode (opcode_kind h))
  by_other s write opcode (Stores.by_rdshr t h) = absurd (opcode (opcode_kind h))
  by_other s write opcode (Stores.by_entry t by h) = h

pub stores_as_listed : StoresAsListed
stores_as_listed k y c =
    record { write = by_writing k y c; opcode = by_opcode k y c; entry = by_entering k y c; other = by_other k y c }

-- ---- nothing else changes a byte

header_elsewhere : (x : Memories) (at : ℕ) (bs : List ℕ) (c : Cell) → ((t : ℕ) → t < length bs → Cell.InManagement (at + t) ≡ c → ⊥)
    → byte_in (memories x.main (sets x.management at bs)) c ≡ byte_in x c
header_elsewhere x at bs (Cell.InMain j) h = refl
header_elsewhere x at bs (Cell.InManagement j) h = go (ltb j at) (leb (at + length bs) j) refl refl
  where
    go : (p q : Bool) → ltb j at ≡ p → leb (at + length bs) j ≡ q → get_or (sets x.management at bs) j 0 ≡ get_or x.management j 0
    go true q e f = stored_below x.management bs at j (ltb-true j at e)
    go false true e f = stored_above x.management bs at j (leb-true _ j f)
    go false false e f =
        let low = ltb-false j at e in
        let high = leb-false (at + length bs) j f in
        let there : at + (j - at) ≡ j = omega arith in
        absurd (h (j - at) (omega arith) (ap Cell.InManagement there))

kept : {k : Machine} {y z : Memories} {s : Step} (c : Cell) → (Stores k y c s → ⊥) → Leaves k y s z → byte_in z c ≡ byte_in y c
unfolding headed
kept c none Leaves.nothing = refl
kept {k} {y} {z} {s} c none (Leaves.bytes a bs st) =
    bytes_elsewhere (window k) y a bs c (λ t l e. none (subst (λ (d : Cell). Stores k y d s) e (st t l)))
kept {k} {y} {z} {s} c none (Leaves.header v st) =
    header_elsewhere y (place_of k) (header_bytes v) c (λ t l e. none (subst (λ (d : Cell). Stores k y d s) e (st t (rw (header_long v) at l))))

pub only_stored : OnlyStored
only_stored k y ss c from to up within none =
    let at : ℕ → Run = λ l. run k y (take l ss) in
    over (λ l. byte_in (at l).memory c) from to up
    (λ l p q.
    ap (λ (z : Memories). byte_in z c) ((steps_in_turn k y ss).1 l (omega arith)).left.1
    ∙ kept c (none l p q) (step_leaves (at l).machine (at l).memory (get_or ss l Wake)))

pub kept_unless_stored : KeptUnlessStored
unfolding run
kept_unless_stored m x s ss place none =
    let e = stepped m x s in
    record {
      place = place;
      bytes = λ i l.
          ap (λ (q : List Step). get_or (serviced m x s q).memory.management (place_of m + i) 0) (sym (take_all (length ss) ss (omega arith)))
          ∙ only_stored e.stepped.machine e.memory ss (Cell.InManagement (place_of m + i)) 0 (length ss) (omega arith) (omega arith)
          (λ q h b. none i q l b);
    }

pub kept_where_quiet : KeptWhereQuiet
kept_where_quiet m x s ss place quiet =
    let at = serviced_to m x s ss in
    kept_unless_stored m x s ss place
    (λ t l h k q.
    let z = quiet l k in
    z.2 (by_other (at l).machine (at l).memory (Cell.InManagement (place_of m + t)) (get_or ss l Wake) z.0 z.1 q))

pub unchanged_unless_stored : UnchangedUnlessStored
unchanged_unless_stored m x s ss n i j a b later saves restores same none =
    let e = stepped m x s in
    let within = in_list ss j restores in
    record {
      saves = saves;
      restores = restores;
      same = same;
      unchanged = λ t h.
          only_stored e.stepped.machine e.memory ss _ (i + 1) j (omega arith) (omega arith) (λ l p q. none t l h (omega arith) q);
    }
