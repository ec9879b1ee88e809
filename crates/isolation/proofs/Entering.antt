-- The header in a memory, and the steps that enter or resume. Assumes nothing.
use mathlib.Core.Path.{◌≡◌, refl}
use mathlib.Core.List.{List}
use Prim.Native.Nat.{ℕ, ◌+◌, ◌≤◌}
use native.Mathlib.Omega.{arith}
use lib.ListN.{length}
use lib.Seq.{length-sets}
use borrow.Author.Tests.{eqb-false}
use Rattle.fields.proofs.Storing.{stored_below, stored_byte, stored_above}
use Rattle.memory.specs.Memory.{Memories}
use Rattle.steps.specs.declared.Step.{Step}
use Rattle.steps.specs.Answers.{number_of}
use Rattle.refusals.proofs.Laws.{sizes}
use Rattle.settings.specs.Settings.{header_place}
use Rattle.settings_laws.proofs.Place.{place_room}
use Rattle.header.specs.declared.Saved.{Saved}
use Rattle.header.specs.Header.{header_length, header_bytes, headed}
use Rattle.header.proofs.ReadBack.{header_long}
use Rattle.machine.specs.declared.Machine.{Machine}
use Rattle.machine.specs.Outcomes.{Outcome, ends}
use Rattle.machine.specs.Machines.{settings_of}
use Rattle.machine.specs.Service.{entry, resume}
use Rattle.machine.specs.Steps.{stepped}
use Rattle.isolation.specs.Service.{answer_to, OnlyHeader, Entering, recorded, latch_after, Resuming}
use Rattle.fields.proofs.Cases.{unlike}
use Rattle.isolation.proofs.Doing.{Able, Does, step_does}

-- ---- the header in a memory

pub only_header : (g : List ℕ) (at : ℕ) (s : Saved) → at + header_length ≤ length g → OnlyHeader g (headed g at s) at (header_bytes s)
unfolding headed
only_header g at s h =
    let b = header_bytes s in
    let l = header_long s in
    record {
      long = l;
      fits = h;
      same = length-sets g at b;
      below = stored_below g b at;
      header = λ i k. stored_byte g b at i (omega arith) (omega arith);
      above = λ i k. stored_above g b at i (omega arith);
    }

-- ---- the steps that enter

pub room : (m : Machine) (x : Memories) → Able m x → header_place (settings_of m) + header_length ≤ length x.management
room m x able = omega (arith, (sizes x able.sizes).management_whole, place_room (settings_of m) able.usable able.fits)

-- an outcome of the step s from m and x that is an entry
pub record Enters (m : Machine) (x : Memories) (s : Step) (o : Outcome) : Type 0 where
  pub by : Entering m s
  pub able : Able m x
  pub outcome : o ≡ entry m x (recorded m by) (latch_after m by)

-- whatever answers 11 is one
entered_by : {m : Machine} {x : Memories} {s : Step} {o : Outcome} {n : ℕ} → Does m x s o n → number_of o.stepped.answer ≡ 11 → Enters m x s o
unfolding resume
entered_by (Does.refuses a e) h = unlike e (rw h)
entered_by (Does.enters by able) h = record { by = by; able = able; outcome = refl }
entered_by (Does.resumes by) h = absurd (omega arith)
entered_by (Does.neither o p) h = absurd (eqb-false (number_of o.stepped.answer) 11 p.other h)

pub enters : (m : Machine) (x : Memories) (s : Step) → answer_to m x s ≡ 11 → Enters m x s (stepped m x s)
enters m x s = entered_by (step_does m x s)

-- ---- the steps that resume

-- an outcome of the step s from m and x that is a resumption
pub record Resumes (m : Machine) (x : Memories) (s : Step) (o : Outcome) : Type 0 where
  pub by : Resuming m s
  pub outcome : o ≡ ends (resume m x.management) x

-- whatever answers 12 is one
resumed_by : {m : Machine} {x : Memories} {s : Step} {o : Outcome} {n : ℕ} → Does m x s o n → number_of o.stepped.answer ≡ 12 → Resumes m x s o
unfolding entry
resumed_by (Does.refuses a e) h = unlike e (rw h)
resumed_by (Does.enters by able) h = absurd (omega arith)
resumed_by (Does.resumes by) h = record { by = by; outcome = refl }
resumed_by (Does.neither o p) h = absurd (eqb-false (number_of o.stepped.answer) 12 p.stays h)

pub resumes : (m : Machine) (x : Memories) (s : Step) → answer_to m x s ≡ 12 → Resumes m x s (stepped m x s)
resumes m x s = resumed_by (step_does m x s)
