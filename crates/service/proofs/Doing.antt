-- Steps that are done. Assumes nothing.
use mathlib.Core.Path.{◌≡◌, refl, sym, ap, subst, ◌∙◌}
use mathlib.Core.Bool.{Bool, true, false}
use mathlib.Core.List.{List}
use Prim.Native.Nat.{ℕ, ◌<◌}
use native.Mathlib.Omega.{arith}
use lib.Dec.{ltb}
use lib.ListN.{length, get_or, get_or-eq_default}
use borrow.Author.Tests.{ltb-true, ltb-false}
use Rattle.fields.proofs.Cases.{either}
use Rattle.memory.specs.Memory.{Memories, Reached, all_there, there, store, writes}
use Rattle.steps.specs.declared.Step.{Step}
use Rattle.steps.specs.declared.Step.TheVariants.{Write, Opcode, Wake}
use Rattle.steps.specs.Answers.{number_of}
use Rattle.steps.specs.Steps.{kind_of}
use Rattle.refusals.specs.Refusals.{wrong_sizes}
use Rattle.refusals.proofs.Laws.{by_verdict}
use Rattle.opcodes.specs.declared.Operation.{Operation}
use Rattle.opcodes.specs.Decode.{operation_of, operand_size}
use Rattle.machine.specs.declared.Machine.{Machine}
use Rattle.machine.specs.Machines.{edition_of}
use Rattle.machine.specs.Outcomes.{Outcome, gives, ends}
use Rattle.machine.specs.Steps.{window, valid, operation_on, operated, with_operand, opcode_step, performed, decided, stepped}
use Rattle.service.specs.NoMark.{Completes}

-- ---- an opcode

-- an outcome of the operation o with its operand at a, and some next address
pub record Done (k : Machine) (y : Memories) (o : Operation) (a : ℕ) (out : Outcome) : Type 0 where
  pub sizes : wrong_sizes y ≡ false
  pub there : there (window k) y a (operand_size o) ≡ true
  pub next : ℕ
  pub outcome : out ≡ operated k y o a next

module _ (k : Machine) (y : Memories) (op modrm a next : ℕ) where
  abbrev o : Operation
  o = operation_of (edition_of k) op modrm

  abbrev IfDone : Outcome → Type 0
  IfDone out = number_of out.stepped.answer ≡ 0 → Done k y o a out

  did_opcode : wrong_sizes y ≡ false → IfDone (opcode_step k y op modrm a next)
  unfolding opcode_step operation_on with_operand operated all_there
  did_opcode z =
      either (λ (q : Operation). IfDone (with_operand k y q a next)) (valid k o)
      (λ v. either IfDone (there (window k) y a (operand_size o)) (λ t h. record { sizes = z; there = t; next = next; outcome = refl }) (λ t h. absurd (omega arith)))
      (λ v h. absurd (omega arith))

  did : IfDone (stepped k y (Opcode op modrm a next))
  unfolding stepped performed
  did =
      by_verdict k.halted y (Opcode op modrm a next) (λ v. IfDone (decided k y (Opcode op modrm a next) v))
      (λ r h. absurd (omega arith)) (λ r h. absurd (omega arith)) (λ r h. absurd (omega arith)) (λ t. did_opcode t.sizes)

pub done : {k : Machine} {y : Memories} {o : Operation} {a : ℕ} {s : Step} → Completes k y o a s → Done k y o a (stepped k y s)
done {k} {y} {o} {a} (Completes.completes {op} {modrm} {next} d h) =
    subst (λ (q : Operation). Done k y q a (stepped k y (Opcode op modrm a next))) d (did k y op modrm a next h)

-- it is a step of its list, past which Wake stands
pub opcode_kind : {k : Machine} {y : Memories} {o : Operation} {a : ℕ} {s : Step} → Completes k y o a s → kind_of s ≡ 7
opcode_kind (Completes.completes d h) = refl

pub in_list : (ss : List Step) (i : ℕ) {k : Machine} {y : Memories} {o : Operation} {a : ℕ} → Completes k y o a (get_or ss i Wake) → i < length ss
in_list ss i c = go (ltb i (length ss)) refl
  where
    go : (b : Bool) → ltb i (length ss) ≡ b → i < length ss
    go true e = ltb-true i (length ss) e
    go false e =
        let z : ◌≡◌ {A = ℕ} 10 7 = sym (ap kind_of (get_or-eq_default ss Wake (ltb-false i (length ss) e))) ∙ opcode_kind c in
        absurd (omega (arith, z))

-- ---- a data write

pub record Wrote (k : Machine) (y : Memories) (width a v : ℕ) (out : Outcome) : Type 0 where
  pub sizes : wrong_sizes y ≡ false
  pub there : there (window k) y a width ≡ true
  pub memory : out.memory ≡ store (window k) y a width v

pub wrote : (k : Machine) (y : Memories) (width a v : ℕ) → number_of (stepped k y (Write width a v)).stepped.answer ≡ 0
    → Wrote k y width a v (stepped k y (Write width a v))
unfolding stepped performed writes
wrote k y width a v =
    let s = Write width a v in
    by_verdict k.halted y s (λ q. number_of (decided k y s q).stepped.answer ≡ 0 → Wrote k y width a v (decided k y s q))
    (λ r h. absurd (omega arith)) (λ r h. absurd (omega arith)) (λ r h. absurd (omega arith))
    (λ t. either (λ (r : Reached). number_of r.answer ≡ 0 → Wrote k y width a v (ends (gives k r.answer) r.memory))
    (there (window k) y a width) (λ l h. record { sizes = t.sizes; there = l; memory = refl }) (λ l h. absurd (omega arith)))
