use Rattle.programs.specs.Programs.{Shown}
use Rattle.programs.proofs.show_cases.Given as goal

abbrev pub invariant-loop-i : goal.invariant-loop-i
invariant-loop-i g l = Shown l.edition l.initial.out l.out
