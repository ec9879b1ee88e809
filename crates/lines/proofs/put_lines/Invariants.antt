use Rattle.std.proofs.Common.{◌*◌, ◌≤◌, take}
use Rattle.lines.specs.Stores.{lines_for, Stored}
use Rattle.lines.proofs.put_lines.Given as goal

abbrev pub invariant-loop-event : goal.invariant-loop-event
invariant-loop-event l = (l.at ≤ 13 * l.event-index) × Stored (lines_for (take l.event-index l.events)) 0 l.at l.initial.out l.out
