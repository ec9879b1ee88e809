-- The segment registers that a service saves and puts back. Assumes nothing.
use mathlib.Core.Path.{◌≡◌, refl, sym, ap, subst, ◌∙◌}
use mathlib.Core.Bool.{false}
use mathlib.Core.List.{List}
use Prim.Native.Nat.{ℕ, ◌<◌}
use native.Mathlib.Omega.{arith}
use lib.ListN.{length, get_or}
use lib.Seq.{take_all}
use Rattle.memory.specs.declared.Segment.{Segment}
use Rattle.memory.specs.Memory.{Memories, byte_in, byte_at, segment_at}
use Rattle.memory.proofs.Cells.{ten_bytes, ten_long, segment_bytes, bytes_there, segment_read}
use Rattle.steps.specs.declared.Step.{Step}
use Rattle.refusals.proofs.Laws.{all_held}
use Rattle.segments.specs.declared.SegmentName.{SegmentName}
use Rattle.segments.specs.declared.SegmentName.TheVariants.{Es, Ss, Ds, Fs, Gs, Ldtr, Tr}
use Rattle.segments.specs.declared.Segments.{Segments}
use Rattle.segments.specs.Segments.{is_cs, segment_named}
use Rattle.segments.proofs.Names.{by_name, without_cs, named_there}
use Rattle.opcodes.specs.declared.Operation.TheVariants.{Save, Restore}
use Rattle.opcodes.proofs.Bytes.{restored_other}
use Rattle.machine.specs.declared.Machine.{Machine}
use Rattle.machine.specs.Machines.{edition_of, segment_in, with_segment}
use Rattle.machine.specs.Outcomes.{Outcome}
use Rattle.machine.specs.Steps.{window, saved, restored, operated, stepped}
use Rattle.runs.specs.Runs.{Run}
use Rattle.runs.proofs.Turns.{steps_in_turn}
use Rattle.isolation.specs.Widths.{SegmentFits, MachineFits}
use Rattle.isolation.proofs.Service.{resumes_as_stated}
use Rattle.service.specs.NoMark.{serviced, serviced_to, Completes, operand_cell}
use Rattle.service.specs.Back.{SegmentsBack}
use Rattle.service.proofs.Doing.{done, in_list}

-- ---- saving and restoring

-- a save leaves the register's ten bytes in the cells of its operand
pub saved_there : {k : Machine} {y : Memories} {n : SegmentName} {a : ℕ} {s : Step} → Completes k y (Save n) a s → (t : ℕ) → t < 10
    → byte_in (stepped k y s).memory (operand_cell k a t) ≡ get_or (ten_bytes (segment_in k n)) t 0
unfolding operated saved
saved_there {k} {y} {n} {a} c t l =
    let d = done c in
    let g = segment_in k n in
    ap (λ (o : Outcome). byte_in o.memory (operand_cell k a t)) d.outcome
    ∙ ap (λ (z : Memories). byte_in z (operand_cell k a t)) (segment_bytes (window k) y a g)
    ∙ bytes_there (window k) y a (ten_bytes g) (λ i h. all_held (window k) y a 10 d.sizes d.there i (rw (ten_long g) at h)) t (rw (ten_long g) l)

pub restored_named : {k : Machine} {y : Memories} {n : SegmentName} {b : ℕ} {s : Step} → Completes k y (Restore n) b s → is_cs n ≡ false
restored_named {k} {y} {n} (Completes.completes {op} {modrm} {next} d h) = restored_other (edition_of k) op modrm n d

segment_in_lem : (k : Machine) (g : Segment) (n : SegmentName) → is_cs n ≡ false → segment_in (with_segment k n g) n ≡ g
segment_in_lem k g n other = rw other (named_there k.segments k.registers.cs g n other)

-- and a restore loads what is in the cells of its own
loaded : {k : Machine} {y : Memories} {n : SegmentName} {b : ℕ} {s : Step} → Completes k y (Restore n) b s
    → segment_in (stepped k y s).stepped.machine n ≡ segment_at (window k) y b
unfolding operated restored
loaded {k} {y} {n} {b} c =
    let other = restored_named c in
    let g = segment_at (window k) y b in
    ap (λ (o : Outcome). segment_in o.stepped.machine n) (done c).outcome
    ∙ without_cs (with_segment k n g).segments _ (with_segment k n g).registers.cs n other
    ∙ segment_in_lem k g n other

-- ---- registers by name

segment_fits : (m : Machine) → MachineFits m → (n : SegmentName) → SegmentFits (segment_in m n)
segment_fits m f =
    let s = f.segments in
    by_name (λ n. SegmentFits (segment_in m n)) s.es (record { selector = f.registers.selector; descriptor = f.registers.descriptor })
    s.ss s.ds s.fs s.gs s.ldtr s.tr

pub same_segments : (k l : Machine) (n : SegmentName) → is_cs n ≡ false → l.segments ≡ k.segments → segment_in l n ≡ segment_in k n
same_segments k l n other e =
    ap (λ (s : Segments). segment_named s l.registers.cs n) e ∙ without_cs k.segments l.registers.cs k.registers.cs n other

-- the seven
pub seven : (k m : Machine) → ((n : SegmentName) → is_cs n ≡ false → segment_in k n ≡ segment_in m n) → k.segments ≡ m.segments
seven k m h =
    let ds = h Ds refl in
    let es = h Es refl in
    let fs = h Fs refl in
    let gs = h Gs refl in
    let ss = h Ss refl in
    let ldtr = h Ldtr refl in
    let tr = h Tr refl in
    λ i. record { ds = ds i; es = es i; fs = fs i; gs = gs i; ss = ss i; ldtr = ldtr i; tr = tr i }

-- ---- the theorem

pub segments_back : SegmentsBack
unfolding byte_at
segments_back m x s ss rsm n i j a b fits resumed p =
    let e = stepped m x s in
    let at : ℕ → Run = serviced_to m x s ss in
    let r = serviced m x s ss in
    let q = p.bytes in
    let turns = (steps_in_turn e.stepped.machine e.memory ss).1 in
    let save = (turns i (in_list ss i q.saves)).left in
    let restore = (turns j (in_list ss j q.restores)).left in
    let g = segment_in (at i).machine n in
    let f : SegmentFits g = subst SegmentFits (sym p.early) (segment_fits m fits n) in
    let read : segment_at (window (at j).machine) (at j).memory b ≡ g
    = segment_read (window (at j).machine) (at j).memory b g f.selector f.descriptor
    (λ t l.
    let c = operand_cell (at i).machine a t in
    ap (byte_in (at j).memory) (q.same t l) ∙ q.unchanged t l ∙ ap (λ (z : Memories). byte_in z c) save.1 ∙ saved_there q.saves t l) in
    same_segments r.machine (stepped r.machine r.memory rsm).stepped.machine n (restored_named q.restores)
    (resumes_as_stated r.machine r.memory rsm resumed).segments
    ∙ ap (λ (l : List Step). segment_in (serviced m x s l).machine n) (sym (take_all (length ss) ss (omega arith)))
    ∙ p.last
    ∙ ap (λ (k : Machine). segment_in k n) restore.0
    ∙ loaded q.restores
    ∙ read
    ∙ p.early
