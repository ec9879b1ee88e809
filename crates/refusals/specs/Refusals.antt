-- 01, "Numbers the bench sees": the refusals 1 to 3, which are tested before a step is tried.
use Rattle.std.specs.Prelude.{ℕ, Bool, cond, not, ◌&&◌, ◌||◌, eqb, leb, length, Option, Some, None}
use Rattle.memory.specs.Memory.{Memories}
use Rattle.steps.specs.declared.Answer.{Answer}
use Rattle.steps.specs.declared.Answer.TheVariants.{WrongSize, Malformed, WhileHalted}
use Rattle.steps.specs.declared.Step.{Step}
use Rattle.steps.specs.Steps.{malformed, interrupts, program}

-- 01, "What the machine holds": the bytes of main memory at most, and of management memory exactly
abbrev pub largest_main : ℕ
largest_main = 1048576

abbrev pub management_size : ℕ
management_size = 65536

-- 1: a memory has a wrong size
unfoldable pub wrong_sizes : Memories → Bool
wrong_sizes x = not (leb (length x.main) largest_main && eqb (length x.management) management_size)

-- 2: malformed in itself, or an interruption on a halted machine
unfoldable pub malformed_on : Bool → Step → Bool
malformed_on halted s = malformed s || (halted && interrupts s)

-- 3: a program step on a halted machine
unfoldable pub program_while_halted : Bool → Step → Bool
program_while_halted halted s = halted && program s

-- the first of them that is called for, or none
unfoldable pub first_refusal : Bool → Memories → Step → Option Answer
first_refusal halted x s =
    cond (wrong_sizes x) (Some WrongSize)
    (cond (malformed_on halted s) (Some Malformed)
    (cond (program_while_halted halted s) (Some WhileHalted) None))
