-- What is read alike is played alike. Assumes nothing.
use mathlib.Core.Path.{ap}
use mathlib.Core.List.{List, ◌∷◌, [], ◌++◌}
use Prim.Native.Nat.{ℕ, ◌<◌}
use native.Mathlib.Omega.{arith}
use Rattle.memory.specs.Memory.{Memories}
use Rattle.machine.specs.declared.Machine.{Machine}
use Rattle.runs.specs.Runs.{Run, run, answers_of}
use Rattle.lines.specs.Lines.{text_of}
use Rattle.scripts.specs.Scripts.{Script, record_limit, limited}
use Rattle.scripts.specs.Former.{one_wake}
use Rattle.scripts.specs.Written.{copies, grouping}
use Rattle.scripts.proofs.Writing.{written_out, Sound, wakes_sound, grouping_sound}
use Rattle.replays.specs.Written.{PlaysWritten, Played, WrittenExamples}

pub plays_written : PlaysWritten
plays_written m x count p l q some few held small before inside =
    let w = written_out count p l q some few held small before inside in (
      ap (λ (s : Script). let t = limited record_limit s in text_of (answers_of (run m x t.steps)) t.reason) w,
      ap (λ (s : Script). run m x (limited record_limit s).steps) w,
    )

-- the law is used here, so that it can't ask for more or say less
pub written_examples : (m : Machine) (x : Memories) → WrittenExamples m x
written_examples m x = record {
  counts = λ count n h k some few. by count (copies n one_wake) h k (wakes_sound n some few);
  groups = by 5 grouping (omega arith) (omega arith) grouping_sound;
}
  where
    by : (count : ℕ) (l : List ℕ) → 0 < count → count < 65536 → Sound l → Played m x count l
    by count l h k s =
        let w = plays_written m x count l l (l ++ (2 ∷ [])) h k s.some s.small s.before s.inside in
        record { text = w.0; machine = ap (λ (r : Run). r.machine) w.1; memory = ap (λ (r : Run). r.memory) w.1 }
