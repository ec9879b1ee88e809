-- The examples. Assumes nothing.
use mathlib.Core.Path.{◌≡◌, refl, sym, ap, ◌∙◌}
use mathlib.Core.Bool.{Bool, true, false, not, ◌&&◌, ◌||◌, and-eq-true_iff}
use mathlib.Core.List.{List, [], ◌∷◌, map}
use Prim.Native.Nat.{ℕ, ◌+◌, ◌-◌, ◌≤◌, ◌<◌}
use native.Mathlib.Omega.{arith}
use lib.Dec.{eqb}
use lib.ListN.{length, get_or, take, get_or-replicate}
use borrow.Author.Tests.{eqb-true, eqb-false, eq-eqb, not-true}
use Rattle.region.specs.declared.Region.{Region}
use Rattle.region.specs.Region.{size_of, usable, within}
use Rattle.fields.proofs.Cases.{unlike}
use Rattle.memory.specs.Memory.{Memories, byte_in, cell_of}
use Rattle.steps.specs.declared.Answer.TheVariants.{Done}
use Rattle.steps.specs.declared.Step.{Step}
use Rattle.steps.specs.declared.Step.TheVariants.{Reset, Registers, Read, Write, PortRead, PortWrite, Opcode, Boundary, MalformedBoundary, Halt, Wake}
use Rattle.steps.specs.Answers.{number_of}
use Rattle.steps.specs.Steps.{kind_of}
use Rattle.steps.specs.Widths.{StepFits}
use Rattle.events.specs.Events.{Event, event}
use Rattle.refusals.specs.Refusals.{wrong_sizes}
use Rattle.settings.specs.declared.Edition.{Edition}
use Rattle.settings.specs.declared.Edition.TheVariants.{Mii}
use Rattle.nesting.specs.Nesting.{enhanced}
use Rattle.header.specs.Header.{Word, word_in, with_eip}
use Rattle.header.specs.Header.Word.{NextIp, Dr7, Eflags, Cr0, CsLevel, DescriptorHigh, DescriptorLow, Flags}
use Rattle.segments.specs.declared.SegmentName.{SegmentName}
use Rattle.segments.specs.declared.SegmentName.TheVariants.{Es, Cs, Ss, Ds, Fs, Gs, Ldtr, Tr}
use Rattle.opcodes.specs.declared.Operation.{Operation}
use Rattle.opcodes.specs.declared.Operation.TheVariants.{Save, Restore, Rdshr, Wrshr, Smint, Rsm, Undefined}
use Rattle.opcodes.specs.Decode.{data_segment, grouped, operation_of}
use Rattle.machine.specs.declared.Machine.{Machine}
use Rattle.machine.specs.Machines.{edition_of}
use Rattle.machine.specs.Outcomes.{Outcome}
use Rattle.machine.specs.Steps.{window, stepped}
use Rattle.runs.specs.Runs.{Run, run, InTurn}
use Rattle.runs.proofs.Turns.{steps_in_turn}
use Rattle.runs.proofs.Stretch.{over}
use Rattle.isolation.specs.Widths.{MachineFits}
use Rattle.isolation.specs.Service.{answer_to}
use Rattle.isolation.proofs.Edition.{edition_stays}
use Rattle.isolation.proofs.Examples.{locked_fits}
use Rattle.levels.specs.Levels.{place_of}
use Rattle.service.specs.NoMark.{serviced, serviced_to, answer_after, answer_at, Service, HeaderKept, Completes, operand_cell, Untouched, PutBack}
use Rattle.service.proofs.Asked.{leaves_no_mark, no_mark_determines, matches_one, matching_asked, service_asked, untouched_asked, put_back_asked}
use Rattle.service.proofs.Registers.{words_back, registers_back}
use Rattle.service_example.specs.Example.{before, start, smi, rsm, steps, answers, after, ServiceExample, past_inner, PastInnerExample}
use Rattle.service_example.specs.Needed.{Resumes, elsewhere, rerun, between, HeaderExample, handler, cleared, ModeExample, SegmentsExample}
use Rattle.service_example.proofs.Below.{every, each, agree_each, Each, below, get_d_map}
use Rattle.service_example.proofs.Computed.{at, by_rsm, numbers, insides, kept, first, second, Returns, Serves, Ends, Unmoved, computed}
use Rattle.service_example.proofs.Quick.{quickly, quickly_is, fast_is, then_is}

whole : wrong_sizes start ≡ false
unfolding wrong_sizes
whole = refl

-- ---- from what is computed to the rules

module _ (m : Machine) where
  enters : (n : ℕ) → number_of (quickly m start smi).stepped.answer ≡ n → answer_to m start smi ≡ n
  enters n h = ap (λ (o : Outcome). number_of o.stepped.answer) (quickly_is m start smi whole) ∙ h

  module _ (ss : List Step) where
    run_is : serviced m start smi ss ≡ at m ss
    run_is = fast_is m start smi whole ss

    rsm_is : (let r = serviced m start smi ss in stepped r.machine r.memory rsm) ≡ by_rsm m ss
    rsm_is = then_is m start smi whole ss rsm

    after_is : {A : Type 0} (f : Machine → A) → f (after m ss) ≡ f (by_rsm m ss).stepped.machine
    after_is f = ap (λ (o : Outcome). f o.stepped.machine) rsm_is

    resumes : (expected : List ℕ) → numbers (at m ss) ≡ expected → number_of (by_rsm m ss).stepped.answer ≡ 12 → Resumes m ss expected
    resumes expected a r = (ap numbers run_is ∙ a, ap (λ (o : Outcome). number_of o.stepped.answer) rsm_is ∙ r)

    place_is : (p : ℕ) → place_of (at m ss).machine ≡ p → place_of (serviced m start smi ss).machine ≡ p
    place_is p e = ap (λ (r : Run). place_of r.machine) run_is ∙ e

-- the header is kept
header_kept : (m : Machine) (ss : List Step) (expected : List ℕ) → Returns m ss expected → HeaderKept m start smi (serviced m start smi ss)
header_kept m ss expected c =
    let r = at m ss in
    record {
      place = place_is m ss (place_of m) c.place;
      bytes = λ i l.
          ap (λ (q : Run). get_or q.memory.management (place_of m + i) 0) (run_is m ss)
          ∙ agree_each (λ i. get_or r.memory.management (place_of m + i) 0) (λ i. get_or (quickly m start smi).memory.management (place_of m + i) 0) 48
          c.header i l
          ∙ ap (λ (o : Outcome). get_or o.memory.management (place_of m + i) 0) (sym (quickly_is m start smi whole));
    }

-- ---- a service, by the answers to its steps

module _ (m : Machine) (ss : List Step) (expected : List ℕ) (n : ℕ) (c : Serves m ss expected n) (long : length ss ≡ n) where
  abbrev e : Outcome
  e = stepped m start smi

  abbrev r : Run
  r = serviced m start smi ss

  turn : (k : ℕ) → k < n → InTurn e.stepped.machine e.memory ss k
  turn k l = (steps_in_turn e.stepped.machine e.memory ss).1 k (rw long l)

  answer_at_lem : (k : ℕ) → k < n → answer_at m start smi ss k ≡ get_or expected k 0
  answer_at_lem k l =
      let answers = map (λ (v : Event). v.answer) r.events in
      sym (ap (λ (v : Event). number_of v.answer) (turn k l).noted)
      ∙ sym (ap number_of (get_d_map (λ (v : Event). v.answer) r.events (event Wake false Done) k))
      ∙ sym (get_d_map number_of answers Done k)
      ∙ ap (λ (l : List ℕ). get_or l k 0) (ap numbers (run_is m ss) ∙ c.returns.answers)

  inside_at : (k : ℕ) → k < n → (serviced_to m start smi ss k).machine.inside ≡ true
  inside_at k l =
      sym (ap (λ (v : Event). v.inside) (turn k l).noted)
      ∙ sym (get_d_map (λ (v : Event). v.inside) r.events (event Wake false Done) k)
      ∙ ap (λ (l : List Bool). get_or l k false) (ap insides (run_is m ss) ∙ c.inside)
      ∙ get_or-replicate n k true false l

  -- only step number p is answered so
  only : (v p k : ℕ) → every n (λ k. not (eqb (get_or expected k 0) v) || eqb k p) ≡ true → k < n → answer_at m start smi ss k ≡ v → k ≡ p
  only v p k test l h =
      eqb-true k p (rest (eqb (get_or expected k 0) v) (eqb k p) (eq-eqb _ v (sym (answer_at_lem k l) ∙ h)) (each n _ test k l))
    where
      rest : (a b : Bool) → a ≡ true → (not a || b) ≡ true → b ≡ true
      rest true b e t = t
      rest false b e t = unlike e refl

  -- the entries are at other places, and so is each RSM
  service : answer_to m start smi ≡ 11 → every n (λ k. not (eqb (kind_of (get_or ss k Wake)) 1)) ≡ true
      → ((k : ℕ) → k < n → answer_at m start smi ss k ≡ 11 → place_of (serviced_to m start smi ss k).machine ≡ place_of m → ⊥)
      → ((k : ℕ) → k < n → answer_at m start smi ss k ≡ 12 → place_of (serviced_to m start smi ss k).machine ≡ place_of m → ⊥)
      → Service m start smi ss rsm
  service entered resets entries rsms =
      service_asked m start smi ss rsm entered (λ k l. inside_at k (rw long at l))
      (λ k l h. eqb-false (kind_of (get_or ss k Wake)) 1 (not-true _ (each n _ resets k (rw long at l))) (ap kind_of h))
      (λ k l h. rsms k (rw long at l) h.resumed h.place)
      (matching_asked m start smi ss rsm (resumes m ss expected c.returns.answers c.returns.resumed).1
      (place_is m ss (place_of m) c.returns.place) (λ k l. entries k (rw long at l)))

-- the place of step number p is another, and so is that of any k which is p
elsewhere_at : (m : Machine) (ss : List Step) (p : ℕ) → (place_of (at m (take p ss)).machine ≡ place_of m → ⊥)
    → (k : ℕ) → k ≡ p → place_of (serviced_to m start smi ss k).machine ≡ place_of m → ⊥
elsewhere_at m ss p away k e h =
    away (sym (place_is m (take p ss) _ refl) ∙ ap (λ (k : ℕ). place_of (serviced_to m start smi ss k).machine) (sym e) ∙ h)

-- ---- which steps change a segment register

abbrev asked : Edition → Step → Operation
asked e Reset = Undefined
asked e (Registers eip eflags cr0 dr7 selector descriptor level writable) = Undefined
asked e (Read width a) = Undefined
asked e (Write width a v) = Undefined
asked e (PortRead port) = Undefined
asked e (PortWrite port v) = Undefined
asked e (Opcode op modrm a next) = operation_of e op modrm
asked e (Boundary smi current i) = Undefined
asked e MalformedBoundary = Undefined
asked e Halt = Undefined
asked e Wake = Undefined

asked_of : {k : Machine} {y : Memories} {o : Operation} {c : ℕ} {s : Step} → Completes k y o c s → asked (edition_of k) s ≡ o
asked_of (Completes.completes d h) = d

abbrev is_name : SegmentName → ℕ
is_name Es = 0
is_name Cs = 1
is_name Ss = 2
is_name Ds = 3
is_name Fs = 4
is_name Gs = 5
is_name Ldtr = 6
is_name Tr = 7

-- the register that an operation restores, and 8 for none
abbrev restoring : Operation → ℕ
restoring (Save name) = 8
restoring (Restore name) = is_name name
restoring Rdshr = 8
restoring Wrshr = 8
restoring Smint = 8
restoring Rsm = 8
restoring Undefined = 8

edition_at : (k : ℕ) → k ≤ 28 → edition_of (serviced_to before start smi steps k).machine ≡ Mii
unfolding run
edition_at k h =
    let e = stepped before start smi in
    over (λ l. edition_of (serviced_to before start smi steps l).machine) 0 k (omega arith)
    (λ l p q.
    ap edition_of ((steps_in_turn e.stepped.machine e.memory steps).1 l (omega arith)).left.0
    ∙ edition_stays _ _ (get_or steps l Wake))
    ∙ edition_stays before start smi

-- step number k is no reset, and doesn't restore n
abbrev passes : SegmentName → ℕ → Bool
passes n k = let s = get_or steps k Wake in not (eqb (kind_of s) 1) && not (eqb (restoring (asked Mii s)) (is_name n))

untouched : (n : SegmentName) (from d : ℕ) → from + d ≤ 28 → every d (λ i. passes n (from + i)) ≡ true
    → Untouched (serviced_to before start smi steps) steps n from (from + d)
untouched n from d within test =
    untouched_asked (serviced_to before start smi steps) steps n from (from + d)
    (λ l h k q. eqb-false (kind_of (get_or steps l Wake)) 1 (not-true _ (both l h k).0) (ap kind_of q))
    (λ l c h k q.
    let s = get_or steps l Wake in
    eqb-false (restoring (asked Mii s)) (is_name n) (not-true _ (both l h k).1)
    (ap (λ (v : Edition). restoring (asked v s)) (sym (edition_at l (omega arith))) ∙ ap restoring (asked_of q)))
  where
    both : (l : ℕ) → from ≤ l → l < from + d
        → (not (eqb (kind_of (get_or steps l Wake)) 1) ≡ true) × (not (eqb (restoring (asked Mii (get_or steps l Wake))) (is_name n)) ≡ true)
    both l h k =
        let e : from + (l - from) ≡ l = omega arith in
        (and-eq-true_iff _ _).0 (rw e at (each d (λ i. passes n (from + i)) test (l - from) (omega arith)))

untouched_tests : (every 7 (λ i. passes Ds (21 + i)) ≡ true) × (every 1 (λ i. passes Es (0 + i)) ≡ true) × (every 4 (λ i. passes Es (24 + i)) ≡ true)
unfolding operation_of grouped data_segment
untouched_tests = (refl, refl, refl)

-- ---- the cells of two operands

abbrev SameCells : Region → ℕ → Region → ℕ → Type 0
SameCells v b w a = Each (λ t. cell_of v (b + t) ≡ cell_of w (a + t)) 10

same_cells : SameCells first 0x0ffb first 0x0ffb × SameCells second 0x2080 first 0x1080
unfolding cell_of within usable size_of
same_cells = (
  (refl, (refl, (refl, (refl, (refl, (refl, (refl, (refl, (refl, (refl, tt)))))))))),
  (refl, (refl, (refl, (refl, (refl, (refl, (refl, (refl, (refl, (refl, tt)))))))))),
)

-- a register that is saved by step number i, at a, and restored by step number j, at b
module _ (n : SegmentName) (i j a b : ℕ) (w v : Region)
    (window-i : window (at before (take i steps)).machine ≡ w) (window-j : window (at before (take j steps)).machine ≡ v) where
  cell_i : (t : ℕ) → operand_cell (serviced_to before start smi steps i).machine a t ≡ cell_of w (a + t)
  cell_i t = ap (λ (r : Run). operand_cell r.machine a t) (run_is before (take i steps)) ∙ ap (λ (w : Region). cell_of w (a + t)) window-i

  cell_j : (t : ℕ) → operand_cell (serviced_to before start smi steps j).machine b t ≡ cell_of v (b + t)
  cell_j t = ap (λ (r : Run). operand_cell r.machine b t) (run_is before (take j steps)) ∙ ap (λ (w : Region). cell_of w (b + t)) window-j

  put_back : SameCells v b w a → kept (at before (take j steps)).memory (at before (take (i + 1) steps)).memory w a ≡ true
      → Completes (serviced_to before start smi steps i).machine (serviced_to before start smi steps i).memory (Save n) a (get_or steps i Wake)
      → Completes (serviced_to before start smi steps j).machine (serviced_to before start smi steps j).memory (Restore n) b (get_or steps j Wake)
      → i < j → Untouched (serviced_to before start smi steps) steps n 0 i → Untouched (serviced_to before start smi steps) steps n (j + 1) 28
      → PutBack (serviced_to before start smi steps) steps n i j a b
  put_back cells bytes saves restores later early last =
      put_back_asked (serviced_to before start smi steps) steps n i j a b early saves later restores
      (λ t l. (
        cell_j t ∙ below (λ t. cell_of v (b + t) ≡ cell_of w (a + t)) 10 cells t l ∙ sym (cell_i t),
        ap (byte_in (serviced_to before start smi steps j).memory) (cell_i t)
            ∙ ap (λ (r : Run). byte_in r.memory (cell_of w (a + t))) (run_is before (take j steps))
            ∙ agree_each (λ t. byte_in (at before (take j steps)).memory (cell_of w (a + t)))
            (λ t. byte_in (at before (take (i + 1) steps)).memory (cell_of w (a + t))) 10 bytes t l
            ∙ ap (λ (r : Run). byte_in r.memory (cell_of w (a + t))) (sym (run_is before (take (i + 1) steps)))
            ∙ ap (byte_in (serviced_to before start smi steps (i + 1)).memory) (sym (cell_i t)),
      ))
      last

-- ---- the service

before_fits : MachineFits before
before_fits = record {
  registers = record {
    eip = omega arith;
    eflags = omega arith;
    cr0 = omega arith;
    dr7 = omega arith;
    selector = omega arith;
    descriptor = omega arith;
  };
  segments =
      let f = (locked_fits Mii).segments in
      record {
        ds = record { selector = omega arith; descriptor = omega arith };
        es = f.es;
        fs = f.fs;
        gs = f.gs;
        ss = f.ss;
        ldtr = f.ldtr;
        tr = f.tr;
      };
  settings = record {
    ccr1 = omega arith;
    ccr3 = omega arith;
    high = omega arith;
    middle = omega arith;
    low = omega arith;
    ccr6 = omega arith;
    smhr0 = omega arith;
    smhr1 = omega arith;
    smhr2 = omega arith;
    smhr3 = omega arith;
  };
  index = omega arith;
}

smi_fits : StepFits smi
smi_fits = (omega arith, omega arith, tt)

-- a place that isn't 40h isn't that of the entry
away : (p : ℕ) → p ≡ 0x10 → p ≡ place_of before → ⊥
away p e h = let q = computed.place in omega (arith, e, h, q)

served : Service before start smi steps rsm
served =
    let c = computed in
    service before steps answers 28 c.long refl (enters before 11 c.entered) refl
    (λ k l h. elsewhere_at before steps 18 (away _ c.place_18) k (only before steps answers 28 c.long refl 11 18 k refl l h))
    (λ k l h. elsewhere_at before steps 19 (away _ c.place_19) k (only before steps answers 28 c.long refl 12 19 k refl l h))

-- RSM after a service that keeps the header leaves no mark in the registers of m, where next IP is EIP
registers_same : (m : Machine) (ss : List Step) (expected : List ℕ) → MachineFits m → answer_to m start smi ≡ 11 → Returns m ss expected
    → word_in (quickly m start smi).memory.management (place_of m) NextIp ≡ m.registers.eip
    → (after m ss).registers ≡ m.registers
registers_same m ss expected fits entered c next =
    let mark = (registers_back m start smi ss rsm fits smi_fits entered (resumes m ss expected c.answers c.resumed).1 (header_kept m ss expected c)).0 in
    (no_mark_determines m (stepped m start smi) _ mark).0
    ∙ ap (with_eip m.registers) (ap (λ (o : Outcome). word_in o.memory.management (place_of m) NextIp) (quickly_is m start smi whole) ∙ next)

-- a save and a restore that are done
done_at : (k op modrm a next : ℕ) (o : Operation) → k < 28 → get_or answers k 0 ≡ 0 → operation_of Mii op modrm ≡ o
    → get_or steps k Wake ≡ Opcode op modrm a next
    → Completes (serviced_to before start smi steps k).machine (serviced_to before start smi steps k).memory o a (get_or steps k Wake)
done_at k op modrm a next o l done asks e =
    let r = serviced_to before start smi steps k in
    rw e
    (Completes.completes (ap (λ (v : Edition). operation_of v op modrm) (edition_at k (omega arith)) ∙ asks)
    (ap (answer_after r) (sym e) ∙ answer_at_lem before steps answers 28 computed.long refl k l ∙ done))

asked_for : (operation_of Mii 0x78 0x18 ≡ Save Ds) × (operation_of Mii 0x78 0x00 ≡ Save Es)
    × (operation_of Mii 0x79 0x18 ≡ Restore Ds) × (operation_of Mii 0x79 0x00 ≡ Restore Es)
unfolding operation_of grouped data_segment
asked_for = (refl, refl, refl, refl)

ds_back : PutBack (serviced_to before start smi steps) steps Ds 0 20 0x0ffb 0x0ffb
ds_back =
    let c = computed in
    put_back Ds 0 20 0x0ffb 0x0ffb first first c.window_0 c.window_20 same_cells.0 c.ds
    (done_at 0 0x78 0x18 0x0ffb 0x10 (Save Ds) (omega arith) refl asked_for.0 refl)
    (done_at 20 0x79 0x18 0x0ffb 0x60 (Restore Ds) (omega arith) refl asked_for.2 refl)
    (omega arith) (untouched Ds 0 0 (omega arith) refl) (untouched Ds 21 7 (omega arith) untouched_tests.0)

es_back : PutBack (serviced_to before start smi steps) steps Es 1 23 0x1080 0x2080
es_back =
    let c = computed in
    put_back Es 1 23 0x1080 0x2080 first second c.window_1 c.window_23 same_cells.1 c.es
    (done_at 1 0x78 0x00 0x1080 0x20 (Save Es) (omega arith) refl asked_for.1 refl)
    (done_at 23 0x79 0x00 0x2080 0x70 (Restore Es) (omega arith) refl asked_for.3 refl)
    (omega arith) (untouched Es 0 1 (omega arith) untouched_tests.1) (untouched Es 24 4 (omega arith) untouched_tests.2)

before_next : word_in (quickly before start smi).memory.management (place_of before) NextIp ≡ 0x1002
before_next = ap (λ (p : ℕ). word_in (quickly before start smi).memory.management p NextIp) computed.place ∙ computed.next

pub service_example : ServiceExample
service_example =
    let c = computed in
    let header = header_kept before steps answers c.long.returns in
    let no-mark = leaves_no_mark before start smi steps rsm before_fits smi_fits served in
    let back = registers_back before start smi steps rsm before_fits smi_fits served.entered served.matching.resumed header in
    record {
      machine = before_fits;
      step = smi_fits;
      service = served;
      answered = (resumes before steps answers c.long.returns.answers c.long.returns.resumed).0;
      header = header;
      ds = ds_back;
      es = es_back;
      same = registers_same before steps answers before_fits served.entered c.long.returns before_next;
      same_ds = no-mark.1 Ds 0 20 0x0ffb 0x0ffb ds_back;
      same_es = no-mark.1 Es 1 23 0x1080 0x2080 es_back;
      awake = (no-mark.0 header).halted;
      outside = back.1.from_outside refl;
    }

-- ---- two entries and one RSM

pub past_inner_example : PastInnerExample
past_inner_example =
    let c = computed in
    let expected : List ℕ = 0 ∷ 0 ∷ 0 ∷ 0 ∷ 11 ∷ 0 ∷ 0 ∷ [] in
    let entered = enters before 11 c.entered in
    let header = header_kept before past_inner expected c.past.returns in
    let back = resumes before past_inner expected c.past.returns.answers c.past.returns.resumed in
    let v : Service before start smi past_inner rsm
    = service before past_inner expected 7 c.past refl entered refl
    (λ k l h. elsewhere_at before past_inner 4 (away _ c.past_4) k (only before past_inner expected 7 c.past refl 11 4 k refl l h))
    (λ k l h. let z = only before past_inner expected 7 c.past refl 12 7 k refl l h in absurd (omega arith)) in
    record {
      service = v;
      answered = back.0;
      header = header;
      alone = matches_one before start smi past_inner rsm 4 v.matching (omega arith) (answer_at_lem before past_inner expected 7 c.past refl 4 (omega arith));
      same = registers_same before past_inner expected before_fits entered c.past.returns before_next;
      outside = (registers_back before start smi past_inner rsm before_fits smi_fits entered back.1 header).1.from_outside refl;
    }

-- ---- without each of the conditions

pub header_example : HeaderExample
header_example =
    let c = computed in
    let entered = enters before 11 c.entered in
    let again = resumes before rerun (0 ∷ []) c.rerun_answers c.rerun_resumed in
    let words = words_back before start smi rerun rsm before_fits smi_fits entered again.1 (place_is before rerun (place_of before) c.rerun_place) in
    let kept : (w : Word) → Unmoved w
    → word_in (serviced before start smi rerun).memory.management (place_of before) w ≡ word_in (stepped before start smi).memory.management (place_of before) w
    = λ w u.
    ap (λ (r : Run). word_in r.memory.management (place_of before) w) (run_is before rerun)
    ∙ ap (λ (p : ℕ). word_in (at before rerun).memory.management p w) c.place
    ∙ u
    ∙ ap (λ (p : ℕ). word_in (quickly before start smi).memory.management p w) (sym c.place)
    ∙ ap (λ (o : Outcome). word_in o.memory.management (place_of before) w) (sym (quickly_is before start smi whole)) in
    let u = c.rerun_words in
    let dr7 = words.dr7 (kept Dr7 u.0) in
    let eflags = words.eflags (kept Eflags u.1) in
    let cr0 = words.cr0 (kept Cr0 u.2) in
    let selector = words.selector (kept CsLevel u.3) in
    let level = words.level (kept CsLevel u.3) in
    let descriptor = words.descriptor (kept DescriptorHigh u.4) (kept DescriptorLow u.5) in
    let writable = words.writable (kept Flags u.6) in
    let eip = after_is before rerun (λ m. m.registers.eip) ∙ c.rerun_eip in
    record {
      place = (
        resumes before elsewhere (0 ∷ 0 ∷ []) c.moved_answers c.moved_resumed,
        after_is before elsewhere (λ m. m.registers.eip) ∙ c.moved_eip,
        after_is before elsewhere (λ m. m.registers.dr7) ∙ c.moved_dr7,
      );
      bytes = (
        again,
        λ i. record {
          eip = eip i;
          eflags = eflags i;
          cr0 = cr0 i;
          dr7 = dr7 i;
          cs = record { selector = selector i; descriptor = descriptor i };
          level = level i;
          writable = writable i;
        },
      );
      kept = (
        resumes before between _ c.between.answers c.between.resumed,
        registers_same before between _ before_fits entered c.between before_next,
      );
    }

handler_fits : MachineFits handler
handler_fits =
    let f = before_fits in
    record { registers = f.registers; segments = f.segments; settings = f.settings; index = f.index }

pub mode_example : ModeExample
mode_example =
    let c = computed in
    let entered = enters handler 11 c.handler_entered in
    let next = ap (λ (p : ℕ). word_in (quickly handler start smi).memory.management p NextIp) c.handler_place ∙ c.handler_next in
    let stays = resumes handler [] [] c.stays.answers c.stays.resumed in
    let leaves = resumes handler cleared (0 ∷ 0 ∷ []) c.leaves.returns.answers c.leaves.returns.resumed in
    let nests : (ss : List Step) (b : Bool) → enhanced (at handler ss).machine.config.settings ≡ b
    → enhanced (serviced handler start smi ss).machine.config.settings ≡ b
    = λ ss b h. ap (λ (r : Run). enhanced r.machine.config.settings) (run_is handler ss) ∙ h in
    let back = (registers_back handler start smi [] rsm handler_fits smi_fits entered stays.1 (header_kept handler [] [] c.stays)).1 in
    let out = (registers_back handler start smi cleared rsm handler_fits smi_fits entered leaves.1 (header_kept handler cleared (0 ∷ 0 ∷ []) c.leaves.returns)).1 in
    record {
      machine = handler_fits;
      service =
          service handler cleared (0 ∷ 0 ∷ []) 2 c.leaves refl entered refl
          (λ k l h. let z = only handler cleared (0 ∷ 0 ∷ []) 2 c.leaves refl 11 2 k refl l h in absurd (omega arith))
          (λ k l h. let z = only handler cleared (0 ∷ 0 ∷ []) 2 c.leaves refl 12 2 k refl l h in absurd (omega arith));
      stays = (
        stays,
        back.as_before (nests [] true c.nests ∙ sym (back.from_inside refl).0),
        registers_same handler [] [] handler_fits entered c.stays next,
      );
      leaves = (
        leaves,
        (out.from_inside refl).1 ∙ nests cleared false c.nests_not,
        registers_same handler cleared (0 ∷ 0 ∷ []) handler_fits entered c.leaves.returns next,
      );
    }

ends : (ss : List Step) (expected : List ℕ) (n : ℕ) → Ends ss expected n → Resumes before ss expected × ((after before ss).segments.ds.selector ≡ n)
ends ss expected n c = (resumes before ss expected c.answers c.resumed, after_is before ss (λ m. m.segments.ds.selector) ∙ c.ds)

pub segments_example : SegmentsExample
segments_example =
    let c = computed in
    record {
      early = ends _ _ 0 c.early;
      same = ends _ _ 0 c.same;
      unchanged = ends _ _ 0 c.unchanged;
      last = ends _ _ 0 c.last;
      reset = ends _ _ 0 c.reset;
      kept = ends _ _ 0x23 c.all;
    }
