-- Demand 3. Assumes nothing.
use mathlib.Core.Path.{◌≡◌, refl, sym, ap, ◌∙◌}
use mathlib.Core.Bool.{Bool, true, false, and-false, cond}
use mathlib.Core.List.{List, [], ◌∷◌}
use Prim.Native.Nat.{ℕ, suc, ◌+◌, ◌-◌, ◌≤◌, ◌<◌}
use native.Mathlib.Omega.{arith}
use lib.Dec.{eqb}
use lib.ListN.{length, take}
use lib.Seq.{sets}
use borrow.Author.Tests.{eqb-false}
use Rattle.region.specs.Region.{within}
use Rattle.fields.specs.Fields.{field_at, bytes_of}
use Rattle.memory.specs.Memory.{Memories, Reached, memories, all_there, there, load, store, reads, writes}
use Rattle.memory.proofs.Laws.{load_of, store_all_of}
use Rattle.steps.specs.declared.Answer.{Answer}
use Rattle.steps.specs.declared.Answer.TheVariants.{Done, WrongSize, Malformed, WhileHalted, Invalid, Absent, Value}
use Rattle.steps.specs.declared.Interruption.{Interruption}
use Rattle.steps.specs.declared.Step.{Step}
use Rattle.steps.specs.declared.Step.TheVariants.{Reset, Registers, Read, Write, PortRead, PortWrite, Opcode, Boundary, MalformedBoundary, Halt, Wake}
use Rattle.steps.specs.Answers.{number_of}
use Rattle.events.specs.Events.{Event, event}
use Rattle.refusals.specs.Refusals.{wrong_sizes, first_refusal}
use Rattle.refusals.proofs.Laws.{by_verdict, sizes}
use Rattle.settings.specs.Settings.{smac, smi_lock, enabled, header_place, SameLocked, opcodes_allowed}
use Rattle.settings_laws.specs.Locked.{Fixed, SettingsFit}
use Rattle.settings_laws.proofs.Lock.{locked_refl, locked_trans, same_smac, same_lock, locked_as_listed}
use Rattle.settings_laws.proofs.Place.{same_place, window_shut, enabled_has, place_room}
use Rattle.nesting.specs.Nesting.{entered_settings}
use Rattle.header.specs.Header.{header_length, headed, header_bytes}
use Rattle.header.specs.declared.Saved.{Saved}
use Rattle.opcodes.specs.declared.Operation.{Operation}
use Rattle.opcodes.specs.Decode.{operation_of}
use Rattle.machine.specs.declared.Machine.{Machine}
use Rattle.machine.specs.declared.Stepped.{Stepped}
use Rattle.machine.specs.Outcomes.{Outcome, gives, ends}
use Rattle.machine.specs.Machines.{settings_of, edition_of}
use Rattle.machine.specs.Service.{saved_at_boundary, entered_machine, entry, taken, passed, boundary_step}
use Rattle.machine.specs.Steps.{window, permitted, valid, operation_on, operated, with_operand, port_write_step, opcode_step, performed, decided, stepped}
use Rattle.runs.specs.Runs.{Run, run, answers_of}
use Rattle.runs.proofs.Turns.{preceded}
use Rattle.isolation.specs.Service.{OnlyHeader}
use Rattle.isolation.specs.Isolation.{Start, NoReset, UpToEntry, last_number, SameHeader, Agree, Isolated, through_entry, SameAnswers}
use Rattle.isolation.proofs.Answers.{read_keeps, write_keeps, passes}
use Rattle.fields.proofs.Cases.{both}
use Rattle.isolation.proofs.Nesting.{entered_kept, entered_fixed}
use Rattle.isolation.proofs.Doing.{taken_where}
use Rattle.isolation.proofs.Entering.{only_header}

-- a later machine of a run that began on start: outside the mode, the locked settings as they were, and all stored bytes still bytes
record Held (start m : Machine) : Type 0 where
  pub outside : m.inside ≡ false
  pub settings : SameLocked (settings_of m) (settings_of start)
  pub bytes : SettingsFit (settings_of m)

-- two outcomes of one step, of runs that began on start with management memories g and h
record One (start : Machine) (g h : List ℕ) (o p : Outcome) : Type 0 where
  pub same : o.stepped ≡ p.stepped
  pub main : o.memory.main ≡ p.memory.main
  pub edition : edition_of o.stepped.machine ≡ edition_of start
  pub before : (number_of o.stepped.answer ≡ 11 → ⊥) → (o.memory.management ≡ g) × (p.memory.management ≡ h) × Held start o.stepped.machine
  pub moved : number_of o.stepped.answer ≡ 11 → Fixed (edition_of start) (settings_of o.stepped.machine) (entered_settings (settings_of start))
  pub entered : number_of o.stepped.answer ≡ 11 → SameHeader start g h o.memory.management p.memory.management

alike : (halted : Bool) (main g h : List ℕ) (s : Step) → length g ≡ length h
    → first_refusal halted (memories main g) s ≡ first_refusal halted (memories main h) s
unfolding first_refusal wrong_sizes
alike halted main g h s e = rw e

-- ---- one step

-- the locked settings of such a machine in the papers' words
fixed : (start m : Machine) → Start start → Held start m → Fixed (edition_of start) (settings_of m) (settings_of start)
fixed start m from held =
    (locked_as_listed (settings_of m) (settings_of start) held.bytes from.bytes held.settings.edition).0 held.settings

module _ (start : Machine) (from : Start start) (g h : List ℕ) (main : List ℕ) where
  abbrev P : Outcome → Outcome → Type 0
  P = One start g h

  -- a step that leaves management memory as it was
  quiet : (r : Stepped) (a : List ℕ) → eqb (number_of r.answer) 11 ≡ false → Held start r.machine
      → P (ends r (memories a g)) (ends r (memories a h))
  quiet r a e held =
      let not = eqb-false (number_of r.answer) 11 e in
      record {
        same = refl;
        main = refl;
        edition = held.settings.edition;
        before = λ n. (refl, refl, held);
        moved = λ n. absurd (not n);
        entered = λ n. absurd (not n);
      }

  module _ (m : Machine) (held : Held start m) where
    lock : smi_lock (settings_of m) ≡ true
    lock = same_lock held.settings ∙ from.locked

    closed : smac (settings_of m) ≡ false
    closed = same_smac held.settings ∙ from.closed

    shut : (a : ℕ) → within (window m) a ≡ false
    shut a = rw held.outside (window_shut (settings_of m) a closed)

    -- the same machine
    stays : (a : Answer) → eqb (number_of a) 11 ≡ false → P (ends (gives m a) (memories main g)) (ends (gives m a) (memories main h))
    stays a e = quiet (gives m a) main e held

    -- one that differs in neither mode nor settings
    kept : (n : Machine) → n.inside ≡ m.inside → settings_of n ≡ settings_of m → Held start n
    kept n e k = record { outside = e ∙ held.outside; settings = rw k held.settings; bytes = rw k held.bytes }

    read_one : (width a : ℕ) → P (performed m (memories main g) (Read width a)) (performed m (memories main h) (Read width a))
    unfolding performed reads
    read_one width a =
        let found : (l : List ℕ) → load (window m) (memories main l) a width ≡ field_at main a width
        = λ l. load_of (window m) false main l a width (λ k p q. shut k) in
        both (λ (r q : Answer). P (ends (gives m r) (memories main g)) (ends (gives m q) (memories main h))) (there (window m) (memories main g) a width)
        (λ k. rw (found g, found h) (stays (Value (field_at main a width)) refl))
        (λ k. stays Absent refl)

    write_one : (width a v : ℕ) → P (performed m (memories main g) (Write width a v)) (performed m (memories main h) (Write width a v))
    unfolding performed writes
    write_one width a v =
        let left : (l : List ℕ) → store (window m) (memories main l) a width v ≡ memories (sets main a (bytes_of width v)) l
        = λ l. store_all_of (window m) false main l a width v (λ k p q. shut k) in
        both
        (λ (t u : Reached). P (ends (gives m t.answer) t.memory) (ends (gives m u.answer) u.memory))
        (there (window m) (memories main g) a width)
        (λ k. rw (left g, left h) (quiet (gives m Done) (sets main a (bytes_of width v)) refl held))
        (λ k. stays Absent refl)

    port_write_one : (port v : ℕ) → P (performed m (memories main g) (PortWrite port v)) (performed m (memories main h) (PortWrite port v))
    unfolding performed
    port_write_one port v =
        let k = write_keeps m.config port v m.inside in
        quiet (port_write_step m port v) main k.0.other
        (record { outside = held.outside; settings = locked_trans (k.1 held.outside lock) held.settings; bytes = k.2 held.bytes })

    -- outside the mode with SMAC 0 no operation is valid
    not_valid : (o : Operation) → valid m o ≡ false
    unfolding valid permitted opcodes_allowed
    not_valid o = simp (held.outside, closed, and-false)

    opcode_one : (op modrm a next : ℕ) → P (opcode_step m (memories main g) op modrm a next) (opcode_step m (memories main h) op modrm a next)
    unfolding opcode_step operation_on with_operand operated all_there
    opcode_one op modrm a next = rw (not_valid (operation_of (edition_of m) op modrm)) (stays Invalid refl)

    module _ (long : length g ≡ 65536) (equal : length g ≡ length h) where
      entry_one : (s : Saved) (latched : Bool) → enabled (settings_of m) ≡ true
          → P (entry m (memories main g) s latched) (entry m (memories main h) s latched)
      unfolding entry entered_machine
      entry_one s latched e =
          let at = header_place (settings_of m) in
          let on = enabled_has (settings_of m) e in
          let fits = place_room (settings_of m) on.usable on.fits in
          let moved : (l : List ℕ) → at + header_length ≤ length l → OnlyHeader l (headed l at s) (header_place (settings_of start)) (header_bytes s)
          = λ l f. rw (← same_place (settings_of m) (settings_of start) held.bytes from.bytes held.settings) (only_header l at s f) in
          record {
            same = refl;
            main = refl;
            edition = (entered_kept (settings_of m)).edition ∙ held.settings.edition;
            before = λ n. absurd (n refl);
            moved = λ n. entered_fixed (edition_of start) (settings_of m) (settings_of start) held.settings.edition refl (fixed start m from held);
            entered = λ n. record { saved = s; first = moved g (omega arith); second = moved h (omega arith) };
          }

      boundary_one : (asserted : Bool) (current : ℕ) (i : Interruption)
          → P (boundary_step m (memories main g) asserted current i) (boundary_step m (memories main h) asserted current i)
      unfolding boundary_step
      boundary_one asserted current i =
          let p = passes m asserted in
          both P (taken m asserted)
          (λ k. entry_one (saved_at_boundary m current i) false (taken_where m asserted k).0)
          (λ k. quiet (passed m asserted) main p.0.other (rw (p.1 held.outside) held))

      performed_one : (s : Step) → (s ≡ Reset → ⊥) → P (performed m (memories main g) s) (performed m (memories main h) s)
      unfolding performed
      performed_one Reset n = absurd (n refl)
      performed_one (Registers eip eflags cr0 dr7 selector descriptor level writable) n = quiet _ main refl (kept _ refl refl)
      performed_one (Read width a) n = read_one width a
      performed_one (Write width a v) n = write_one width a v
      performed_one (PortRead port) n = let k = read_keeps m.config port in quiet _ main k.0.other (kept _ refl k.1)
      performed_one (PortWrite port v) n = port_write_one port v
      performed_one (Opcode op modrm a next) n = opcode_one op modrm a next
      performed_one (Boundary smi current i) n = boundary_one (eqb smi 1) current i
      performed_one MalformedBoundary n = stays Malformed refl
      performed_one Halt n = quiet _ main refl (kept _ refl refl)
      performed_one Wake n = quiet _ main refl (kept _ refl refl)

    step_one : (s : Step) → length g ≡ length h → (s ≡ Reset → ⊥) → P (stepped m (memories main g) s) (stepped m (memories main h) s)
    unfolding stepped
    step_one s e n =
        rw (alike m.halted main g h s e)
        (by_verdict m.halted (memories main h) s (λ v. P (decided m (memories main g) s v) (decided m (memories main h) s v))
        (λ k. stays WrongSize refl) (λ k. stays Malformed refl) (λ k. stays WhileHalted refl)
        (λ t. performed_one (e ∙ (sizes (memories main h) t.sizes).management_whole) e s n))

-- ---- a list of steps

last_of_more : (a : Answer) (bs : List Answer) → 0 < length bs → last_number (a ∷ bs) ≡ last_number bs
last_of_more a [] h = absurd (omega arith)
last_of_more a (b ∷ bs) h =
    let e : suc (suc (length bs)) - 1 ≡ suc (length bs) = omega arith in
    let f : suc (length bs) - 1 ≡ length bs = omega arith in
    rw (e, f)

module _ (start : Machine) (from : Start start) (g h : List ℕ) (equal : length g ≡ length h) where
  -- a first step that did not enter, before runs that agree
  before_more : (a b : Event) (r q : Run) → a ≡ b → 0 < length (answers_of r) → Agree start g h r q
      → Agree start g h (preceded a r) (preceded b q)
  before_more a b r q e more c =
      let l = last_of_more a.answer (answers_of r) more in
      record {
        events = cc (e, c.events);
        machine = c.machine;
        main = c.main;
        edition = c.edition;
        kept = λ n. c.kept (λ k. n (l ∙ k));
        before = λ n. c.before (λ k. n (l ∙ k));
        moved = λ n. c.moved (sym l ∙ n);
        entered = λ n. c.entered (sym l ∙ n);
      }

  -- machines and memories that may differ in management memory alone
  record Apart (m n : Machine) (x y : Memories) : Type 0 where
    pub machine : m ≡ n
    pub main : x.main ≡ y.main
    pub first : x.management ≡ g
    pub second : y.management ≡ h

  step_apart : (s : Step) (m n : Machine) (x y : Memories) → Apart m n x y → Held start m → (s ≡ Reset → ⊥)
      → One start g h (stepped m x s) (stepped n y s)
  step_apart s m n x y a held none =
      let e : x ≡ memories x.main g = ap (memories x.main) a.first in
      let f : y ≡ memories x.main h
      = ap (λ (l : List ℕ). memories l y.management) (sym a.main) ∙ ap (memories x.main) a.second in
      rw (← a.machine, f, e) (step_one start from g h x.main m held s equal none)

  -- of which a step then notes the same
  noted_same : {m n : Machine} {r q : Stepped} (s : Step) → m ≡ n → r ≡ q → event s m.inside r.answer ≡ event s n.inside q.answer
  noted_same s e f = λ i. event s (e i).inside (f i).answer

  all : (ss : List Step) (m n : Machine) (x y : Memories) → Apart m n x y → Held start m → NoReset ss → UpToEntry (answers_of (run m x ss))
      → Agree start g h (run m x ss) (run n y ss)
  unfolding run
  all [] m n x y a held none up = record {
    events = refl;
    machine = a.machine;
    main = a.main;
    edition = held.settings.edition;
    kept = λ k. fixed start m from held;
    before = λ k. (a.first, a.second);
    moved = λ k. absurd (omega arith);
    entered = λ k. absurd (omega arith);
  }
  all (s ∷ []) m n x y a held none up =
      let c = step_apart s m n x y a held (none 0 (omega arith)) in
      record {
        events = ap (λ (e : Event). e ∷ []) (noted_same s a.machine c.same);
        machine = ap (λ (r : Stepped). r.machine) c.same;
        main = c.main;
        edition = c.edition;
        kept = λ k. fixed start (stepped m x s).stepped.machine from (c.before k).2;
        before = λ k. let b = c.before k in (b.0, b.1);
        moved = c.moved;
        entered = c.entered;
      }
  all (s ∷ t ∷ ss) m n x y a held none up =
      let o = stepped m x s in
      let p = stepped n y s in
      let c = step_apart s m n x y a held (none 0 (omega arith)) in
      let b = c.before (up 0 (omega arith)) in
      let a' : Apart o.stepped.machine p.stepped.machine o.memory p.memory
      = record { machine = ap (λ (r : Stepped). r.machine) c.same; main = c.main; first = b.0; second = b.1 } in
      before_more (event s m.inside o.stepped.answer) (event s n.inside p.stepped.answer)
      (run o.stepped.machine o.memory (t ∷ ss)) (run p.stepped.machine p.memory (t ∷ ss))
      (noted_same s a.machine c.same) (omega arith)
      (all (t ∷ ss) o.stepped.machine p.stepped.machine o.memory p.memory a'
      b.2 (λ i l. none (suc i) (omega arith)) (λ i l. up (suc i) (omega arith)))

  cut : (b : Bool) (ts us vs : List Answer) → (b ≡ false → us ≡ vs) → cond b ts us ≡ cond b ts vs
  cut true ts us vs f = refl
  cut false ts us vs f = f refl

  through : (ss : List Step) (m n : Machine) (x y : Memories) → Apart m n x y → Held start m → NoReset ss
      → through_entry (answers_of (run m x ss)) ≡ through_entry (answers_of (run n y ss))
  unfolding run through_entry
  through [] m n x y a held none = refl
  through (s ∷ ss) m n x y a held none =
      let o = stepped m x s in
      let p = stepped n y s in
      let c = step_apart s m n x y a held (none 0 (omega arith)) in
      rw (← c.same)
      (cut (eqb (number_of o.stepped.answer) 11) _ _ _
      (λ e. let b = c.before (eqb-false (number_of o.stepped.answer) 11 e) in
      ap (λ (l : List Answer). o.stepped.answer ∷ l)
      (through ss o.stepped.machine o.stepped.machine o.memory p.memory
      (record { machine = refl; main = c.main; first = b.0; second = b.1 }) b.2 (λ i l. none (suc i) (omega arith)))))

at_start : (m : Machine) → Start m → Held m m
at_start m from = record { outside = from.outside; settings = locked_refl; bytes = from.bytes }

pub isolated : Isolated
isolated m main g h ss k from equal none first second =
    all m from g h equal (take k ss) m m (memories main g) (memories main h)
    (record { machine = refl; main = refl; first = refl; second = refl }) (at_start m from) none first

pub same_answers : SameAnswers
same_answers m main g h ss from equal none =
    through m from g h equal ss m m (memories main g) (memories main h)
    (record { machine = refl; main = refl; first = refl; second = refl }) (at_start m from) none
