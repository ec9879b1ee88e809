-- What a step leaves: the next machine with its answer, and the two memories.
use Rattle.steps.specs.declared.Answer.{Answer}
use Rattle.memory.specs.Memory.{Memories}
use Rattle.machine.specs.declared.Machine.{Machine}
use Rattle.machine.specs.declared.Stepped.{Stepped}

pub record Outcome : Type 0 where
  pub stepped : Stepped
  pub memory : Memories

abbrev pub gives : Machine → Answer → Stepped
gives m a = record { machine = m; answer = a }

abbrev pub ends : Stepped → Memories → Outcome
ends r x = record { stepped = r; memory = x }

-- a refusal leaves the machine and the memories as they were
abbrev pub refused : Machine → Memories → Answer → Outcome
refused m x a = ends (gives m a) x
