-- Demand 1: what is refused, by which number, and that a refused step changes nothing.
use Rattle.std.specs.Prelude.{ℕ, ◌≡◌, Bool, true, false, cond, not}
use Rattle.memory.specs.Memory.{Memories, there}
use Rattle.steps.specs.declared.Step.{Step}
use Rattle.steps.specs.Answers.{number_of, refusal}
use Rattle.steps.specs.Steps.{by_step}
use Rattle.refusals.specs.Refusals.{wrong_sizes, malformed_on, program_while_halted}
use Rattle.opcodes.specs.Decode.{operation_of, operand_size}
use Rattle.machine.specs.declared.Machine.{Machine}
use Rattle.machine.specs.Machines.{edition_of}
use Rattle.machine.specs.Steps.{valid, window, stepped}

-- 4: an opcode step whose operation is not valid
abbrev pub invalid_opcode : Machine → Step → Bool
invalid_opcode m =
    by_step (λ width a. false) (λ width a v. false) (λ op modrm a next. not (valid m (operation_of (edition_of m) op modrm)))
    (λ smi current i. false) false

-- 5: a data or an operand byte that no memory answers; an operation without an operand has none
abbrev pub absent_byte : Machine → Memories → Step → Bool
absent_byte m x =
    by_step (λ width a. not (there (window m) x a width)) (λ width a v. not (there (window m) x a width))
    (λ op modrm a next. not (there (window m) x a (operand_size (operation_of (edition_of m) op modrm)))) (λ smi current i. false) false

-- the first of the five that is called for, in the order of their numbers, and 0 where none is
unfoldable pub called_for : Machine → Memories → Step → ℕ
called_for m x s =
    cond (wrong_sizes x) 1
    (cond (malformed_on m.halted s) 2
    (cond (program_while_halted m.halted s) 3
    (cond (invalid_opcode m s) 4
    (cond (absent_byte m x s) 5 0))))

-- every step is refused by the number that is called for, and by no other; where none is called for it is not refused
abbrev pub RefusedAsCalledFor : Type 0
RefusedAsCalledFor =
    (m : Machine) (x : Memories) (s : Step)
    → let a = (stepped m x s).stepped.answer in cond (refusal a) (number_of a) 0 ≡ called_for m x s

-- a refused step changes neither the machine nor a byte of either memory
abbrev pub RefusalChangesNothing : Type 0
RefusalChangesNothing =
    (m : Machine) (x : Memories) (s : Step) → refusal (stepped m x s).stepped.answer ≡ true
    → ((stepped m x s).stepped.machine ≡ m) × ((stepped m x s).memory ≡ x)
