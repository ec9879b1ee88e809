-- The IP words of an entry at a boundary. Assumes nothing.
use mathlib.Core.Path.{◌≡◌, refl, ap, ◌∙◌}
use mathlib.Core.Bool.{Bool, true, false, or-true}
use Prim.Native.Nat.{ℕ}
use native.Mathlib.Omega.{arith}
use Rattle.memory.specs.Memory.{Memories}
use Rattle.steps.specs.declared.Interruption.{Interruption}
use Rattle.steps.specs.declared.Interruption.TheVariants.{None, Input, Output, StringInput, StringOutput, RepInput, RepOutput}
use Rattle.steps.specs.declared.Step.{Step}
use Rattle.steps.specs.declared.Step.TheVariants.{Boundary}
use Rattle.steps.specs.Steps.{malformed, other_than_none}
use Rattle.steps.specs.Widths.{StepFits}
use Rattle.refusals.specs.Refusals.{malformed_on}
use Rattle.refusals.proofs.Laws.{allowed_taken}
use Rattle.settings.specs.Settings.{header_place}
use Rattle.header.specs.Header.{trap_of, Word, word_in, contents}
use Rattle.header.specs.Header.Word.{CurrentIp, NextIp}
use Rattle.header.proofs.ReadBack.{words_back}
use Rattle.machine.specs.declared.Machine.{Machine}
use Rattle.machine.specs.Machines.{settings_of}
use Rattle.machine.specs.Service.{saved_at_boundary, entry}
use Rattle.machine.specs.Steps.{stepped}
use Rattle.isolation.specs.Widths.{MachineFits}
use Rattle.isolation.specs.Service.{answer_to, Entering, recorded, PointersAsStated}
use Rattle.isolation.specs.Service.Entering.{at_boundary}
use Rattle.isolation.specs.Tightness.{PointersDetermine, PointersRecorded}
use Rattle.fields.proofs.Cases.{either, unlike}
use Rattle.isolation.proofs.Entering.{room, enters}
use Rattle.isolation.proofs.Service.{answered_allowed, recorded_fits, one_way, resumes_as_entered}

-- a REP form is an interruption, and a halted machine may meet none
rep_interrupts : (i : Interruption) → (trap_of i).rep ≡ true → other_than_none i ≡ true
rep_interrupts None e = unlike e refl
rep_interrupts Input e = refl
rep_interrupts (Output t) e = refl
rep_interrupts (StringInput x) e = refl
rep_interrupts (StringOutput t x) e = refl
rep_interrupts (RepInput x) e = refl
rep_interrupts (RepOutput t x) e = refl

rep_awake : (halted : Bool) (smi current : ℕ) (i : Interruption) → malformed_on halted (Boundary smi current i) ≡ false → (trap_of i).rep ≡ true
    → halted ≡ false
unfolding malformed_on
rep_awake false smi current i formed e = refl
rep_awake true smi current i formed e = unlike (rw (rep_interrupts i e) (or-true (malformed (Boundary smi current i)))) formed

-- a boundary enters in one way
pub at_one : (m : Machine) {smi current : ℕ} {i : Interruption} (by : Entering m (Boundary smi current i))
    → recorded m by ≡ saved_at_boundary m current i
at_one m (at_boundary on inner asked) = refl

-- each word that an entry writes is found
pub word_there : (m : Machine) (x : Memories) (s : Step) → MachineFits m → StepFits s → answer_to m x s ≡ 11 → (by : Entering m s) (v : Word)
    → word_in (stepped m x s).memory.management (header_place (settings_of m)) v ≡ contents (recorded m by) v
unfolding entry
word_there m x s f w h by v =
    let e = enters m x s h in
    rw e.outcome
    (words_back x.management (header_place (settings_of m)) (recorded m e.by) (room m x e.able) (recorded_fits m e.by f w) v
    ∙ ap (λ r. contents r v) (one_way m e.by by))

pub word_back : (m : Machine) (x : Memories) (smi current : ℕ) (i : Interruption) → MachineFits m → StepFits (Boundary smi current i)
    → answer_to m x (Boundary smi current i) ≡ 11 → (v : Word)
    → word_in (stepped m x (Boundary smi current i)).memory.management (header_place (settings_of m)) v ≡ contents (saved_at_boundary m current i) v
word_back m x smi current i f w h v =
    let s = Boundary smi current i in
    let by = (enters m x s h).by in
    word_there m x s f w h by v ∙ ap (λ r. contents r v) (at_one m by)

pub pointers_as_stated : PointersAsStated
pointers_as_stated m x smi current i modrm a next f w h =
    let s = Boundary smi current i in
    let by = (enters m x s h).by in
    let taken = allowed_taken m.halted x s (answered_allowed m x s (omega (arith, h))) in
    let word = word_back m x smi current i f w h in
    let back = ap (λ r. r.eip) (resumes_as_entered m x s modrm a next f w h by).registers ∙ ap (λ r. r.next) (at_one m by) in
    record {
      rep = λ e.
          let awake = rep_awake m.halted smi current i taken.formed e in
          record { current_ip = word CurrentIp ∙ rw awake; next_ip = word NextIp ∙ rw (e, awake); eip = back ∙ rw (e, awake) };
      other = λ e. record { current_ip = word CurrentIp; next_ip = word NextIp ∙ rw e; eip = back ∙ rw e };
    }

pub pointers_determine : PointersDetermine
pointers_determine m smi current i e o formed p =
    let word = word_in e.memory.management (header_place (settings_of m)) in
    let P : ℕ → Type 0
    = λ n. (word CurrentIp ≡ (saved_at_boundary m current i).current) × (word NextIp ≡ n) × (o.stepped.machine.registers.eip ≡ n) in
    either P (trap_of i).rep
    (λ k. let q = p.rep k in rw (rep_awake m.halted smi current i formed k) (q.current_ip, q.next_ip, q.eip))
    (λ k. let q = p.other k in (q.current_ip, q.next_ip, q.eip))

pub pointers_recorded : PointersRecorded
pointers_recorded m x smi current i modrm a next f w h =
    let s = Boundary smi current i in
    pointers_determine m smi current i _ _ (allowed_taken m.halted x s (answered_allowed m x s (omega (arith, h)))).formed
    (pointers_as_stated m x smi current i modrm a next f w h)
