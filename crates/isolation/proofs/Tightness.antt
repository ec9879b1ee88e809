-- How tight the statements are (01). Assumes nothing.
use mathlib.Core.Path.{◌≡◌, refl, sym, ap, subst, ◌∙◌}
use mathlib.Core.Bool.{Bool, true, false}
use mathlib.Core.List.{List, [], ◌∷◌, ◌++◌}
use Prim.Native.Nat.{ℕ, zero, suc, ◌+◌, ◌-◌, ◌/◌, ◌%◌}
use native.Mathlib.Omega.{arith}
use lib.Dec.{eqb, ltb}
use lib.ListN.{length, get_or, length-append}
use lib.Seq.{sets, length-sets, ext_get_or, take-length, get_or-append_seam}
use borrow.Author.Tests.{ltb-true, ltb-false, eqb-true, eqb-false, eq-eqb, ne_eqb}
use Rattle.fields.proofs.Storing.{stored_below, stored_byte, stored_above}
use Rattle.memory.specs.Memory.{memories}
use Rattle.steps.specs.declared.Answer.{Answer}
use Rattle.steps.specs.declared.Answer.TheVariants.{Done, WrongSize, Malformed, WhileHalted, Invalid, Absent, Value, External, Nothing, Ignored, Latched, Entered, Resumed}
use Rattle.steps.specs.declared.Step.{Step}
use Rattle.steps.specs.declared.Step.TheVariants.{Reset}
use Rattle.steps.specs.Answers.{number_of}
use Rattle.settings.specs.Settings.{header_place}
use Rattle.header.specs.Header.{header_length, headed, header_bytes}
use Rattle.header.specs.Entry.{entry_registers}
use Rattle.machine.specs.declared.Machine.{Machine}
use Rattle.machine.specs.Machines.{machine, settings_of}
use Rattle.machine.specs.Outcomes.{gives, ends}
use Rattle.machine.specs.Service.{entered_machine, entry, passed, resume}
use Rattle.runs.specs.Runs.{Run, run, answers_of}
use Rattle.isolation.specs.Isolation.{NoReset, UpToEntry, Agree, through_entry}
use Rattle.isolation.specs.Tightness.{StartAsked, NoResetAsked, UpToEntryAsked, LastIsLast, NoEntry, ThroughEntryAsked, WholeList, HeaderDetermines, EntryDetermines, ResumptionDetermines, ResumeDetermines, PassingDetermines, second, AgreementDetermines}
use Rattle.isolation.proofs.Isolation.{isolated}

-- ---- the hypotheses ask for no more

pub start_asked : StartAsked
start_asked m o l c f =
    record { outside = o; locked = eq-eqb _ 1 l; closed = ne_eqb (m.config.settings.ccr1 / 4 % 2) 1 (λ e. omega arith); bytes = f.settings }

pub no_reset_asked : NoResetAsked
no_reset_asked = (λ i l. absurd (omega arith), more)
  where
    more : (s : Step) (ss : List Step) → (s ≡ Reset → ⊥) → NoReset ss → NoReset (s ∷ ss)
    more s ss n rest zero l = n
    more s ss n rest (suc i) l = rest i (omega arith)

pub up_to_entry_asked : UpToEntryAsked
up_to_entry_asked = (λ i l. absurd (omega arith), λ a i l. absurd (omega arith), more)
  where
    more : (a b : Answer) (bs : List Answer) → (number_of a ≡ 11 → ⊥) → UpToEntry (b ∷ bs) → UpToEntry (a ∷ b ∷ bs)
    more a b bs n rest zero l = n
    more a b bs n rest (suc i) l = rest i (omega arith)

pub last_is_last : LastIsLast
last_is_last bs a =
    let e : length (bs ++ (a ∷ [])) - 1 ≡ length bs = omega (arith, length-append bs (a ∷ [])) in
    rw e (ap number_of (get_or-append_seam bs a [] Done))

pub through_entry_asked : ThroughEntryAsked
unfolding through_entry
through_entry_asked = (first, all)
  where
    first : (bs cs : List Answer) (a : Answer) → NoEntry bs → number_of a ≡ 11 → through_entry (bs ++ (a ∷ cs)) ≡ bs ++ (a ∷ [])
    first [] cs a none e = rw (eq-eqb _ 11 e)
    first (b ∷ bs) cs a none e =
        rw (ne_eqb (number_of b) 11 (none 0 (omega arith)), first bs cs a (λ i l. none (suc i) (omega arith)) e)

    all : (bs : List Answer) → NoEntry bs → through_entry bs ≡ bs
    all [] none = refl
    all (b ∷ bs) none = rw (ne_eqb (number_of b) 11 (none 0 (omega arith)), all bs (λ i l. none (suc i) (omega arith)))

pub whole_list : WholeList
whole_list m main g h ss from equal none =
    let P : List Step → Type 0
    = λ l. NoReset l → UpToEntry (answers_of (run m (memories main g) l)) → UpToEntry (answers_of (run m (memories main h) l))
    → Agree m g h (run m (memories main g) l) (run m (memories main h) l) in
    subst P (take-length ss) (isolated m main g h ss (length ss) from equal) none

-- ---- the claims leave nothing open

-- the two answers that a claim names by their numbers
numbered : (a : Answer) → (number_of a ≡ 11 → a ≡ Entered) × (number_of a ≡ 12 → a ≡ Resumed)
numbered Done = (λ e. absurd (omega arith), λ e. absurd (omega arith))
numbered WrongSize = (λ e. absurd (omega arith), λ e. absurd (omega arith))
numbered Malformed = (λ e. absurd (omega arith), λ e. absurd (omega arith))
numbered WhileHalted = (λ e. absurd (omega arith), λ e. absurd (omega arith))
numbered Invalid = (λ e. absurd (omega arith), λ e. absurd (omega arith))
numbered Absent = (λ e. absurd (omega arith), λ e. absurd (omega arith))
numbered (Value v) = (λ e. absurd (omega arith), λ e. absurd (omega arith))
numbered External = (λ e. absurd (omega arith), λ e. absurd (omega arith))
numbered Nothing = (λ e. absurd (omega arith), λ e. absurd (omega arith))
numbered Ignored = (λ e. absurd (omega arith), λ e. absurd (omega arith))
numbered Latched = (λ e. absurd (omega arith), λ e. absurd (omega arith))
numbered Entered = (λ e. refl, λ e. absurd (omega arith))
numbered Resumed = (λ e. absurd (omega arith), λ e. refl)

pub header_determines : HeaderDetermines
header_determines g g' at bytes o =
    ext_get_or 0 g' (sets g at bytes) (o.same ∙ sym (length-sets g at bytes)) (λ i l. go i (ltb i at) (ltb i (at + header_length)) refl refl)
  where
    go : (i : ℕ) (b c : Bool) → ltb i at ≡ b → ltb i (at + header_length) ≡ c → get_or g' i 0 ≡ get_or (sets g at bytes) i 0
    go i true c e f = o.below i (ltb-true i at e) ∙ sym (stored_below g bytes at i (ltb-true i at e))
    go i false true e f =
        let l = ltb-false i at e in
        let h = ltb-true i (at + header_length) f in
        let k : i ≡ at + (i - at) = omega arith in
        let n = o.long in
        let fits = o.fits in
        rw k (o.header (i - at) (omega arith) ∙ sym (stored_byte g bytes at (i - at) (omega arith) (omega arith)))
    go i false false e f =
        let l = ltb-false i (at + header_length) f in
        let n = o.long in
        o.above i l ∙ sym (stored_above g bytes at i (omega arith))

pub entry_determines : EntryDetermines
unfolding entry entered_machine entry_registers headed
entry_determines m x s o answer e =
    let a = (numbered o.stepped.answer).0 answer in
    let g = header_determines x.management o.memory.management _ _ e.management in
    λ i. ends
    (gives
    (machine
    (record { eip = e.eip i; eflags = e.eflags i; cr0 = e.cr0 i; dr7 = e.dr7 i; cs = e.cs i; level = e.level i; writable = e.writable i })
    (e.segments i) (e.halted i) (e.inside i) (e.latched i) (e.config i))
    (a i))
    (memories (e.main i) (g i))

pub resumption_determines : ResumptionDetermines
unfolding resume
resumption_determines m x s o answer r =
    let a = (numbered o.stepped.answer).1 answer in
    λ i. ends (gives (machine (r.registers i) (r.segments i) (r.halted i) (r.inside i) (r.latched i) (r.config i)) (a i)) (r.memory i)

pub resume_determines : ResumeDetermines
resume_determines m s by e o r =
    let a = (numbered o.stepped.answer).1 r.answer in
    λ i. ends (gives (machine (r.registers i) (r.segments i) (r.halted i) (r.inside i) (r.latched i) (r.config i)) (a i)) (r.memory i)

pub passing_determines : PassingDetermines
unfolding passed
passing_determines m x smi o p = go (eqb smi 1) m.inside refl refl
  where
    go : (a b : Bool) → eqb smi 1 ≡ a → m.inside ≡ b → o ≡ ends (passed m (eqb smi 1)) x
    go true true e f = p.latched (eqb-true smi 1 e) f ∙ rw (e, f)
    go true false e f = p.ignored (eqb-true smi 1 e) f ∙ rw (e, f)
    go false b e f = p.nothing (eqb-false smi 1 e) ∙ rw e

second_is : {m : Machine} {g h : List ℕ} {a b : Run} → Agree m g h a b → (l : List ℕ) → b.memory.management ≡ l → b ≡ second a l
second_is c l e = λ i. record { machine = sym c.machine i; memory = memories (sym c.main i) (e i); events = sym c.events i }

pub agreement_determines : AgreementDetermines
agreement_determines m g h a b c = record {
  before = λ n. let k = c.before n in (k.0, second_is c h k.1);
  entered = λ e.
      let k = c.entered e in
      let at = header_place (settings_of m) in
      let bytes = header_bytes k.saved in (
        header_determines g a.memory.management at bytes k.first,
        second_is c (sets h at bytes) (header_determines h b.memory.management at bytes k.second),
      );
  editions = (c.edition, rw (← c.machine) c.edition);
  kept = λ n. (c.kept n, rw (← c.machine) (c.kept n));
  moved = λ e. (c.moved e, rw (← c.machine) (c.moved e));
}
