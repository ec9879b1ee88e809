-- The text of what the list holds after a play is the text of the run's answers. Assumes nothing.
use mathlib.Core.Path.{◌≡◌, sym, ap, ◌∙◌}
use mathlib.Core.List.{List, map}
use Prim.Native.Nat.{ℕ, ◌<◌, ◌≤◌}
use native.Mathlib.Nat.{min-eq_left}
use native.Mathlib.Omega.{arith}
use borrow.Author.Tests.{le-leb, lt-leb}
use lib.ListN.{length, take, length-map}
use Rattle.fields.proofs.Storing.{stored_front}
use Rattle.memory.specs.Memory.{Memories}
use Rattle.events.specs.Events.{noted}
use Rattle.settings.specs.declared.Edition.{Edition}
use Rattle.machine.specs.declared.Machine.{Machine}
use Rattle.machine.specs.Machines.{reset_machine}
use Rattle.runs.proofs.Turns.{one_event_each}
use Rattle.scripts.specs.Scripts.{record_limit, whole, script_of}
use Rattle.scripts.proofs.Limits.{limited_within}
use Rattle.lines.specs.Lines.{long_text}
use Rattle.lines.specs.Stores.{text_for, Printed}
use Rattle.lines.proofs.Storing.{lines_noted}
use Rattle.player.specs.declared.Played.{Played}
use Rattle.player.specs.Output.{replay_text, zero_memories, output_of}
use Rattle.player.specs.Player.{playing, Plays}

-- the text that the code writes, by what playing left in the list
pub writes_text : (l : List ℕ) (m : Machine) (x : Memories) {x' : Memories} {p : Played} {size : ℕ} {events₀ events out₀ out : List ℕ}
    → length events₀ ≡ record_limit → Plays (script_of l) (playing m x l) p x' events₀ events
    → Printed (text_for events p.count p.reason) size out₀ out → Printed (replay_text m x l) size out₀ out
writes_text l m x {p = p} {events₀ = events₀} {events = events} i w t =
    let es = (playing m x l).events in
    let e = w.leaves in
    let h : p.count ≤ record_limit = omega (arith, e.count_is, limited_within record_limit (whole l)) in
    let k : p.count ≡ length (map noted es) = e.count_is ∙ sym (length-map es noted ∙ one_event_each m x (script_of l).steps) in
    let stored : take p.count events ≡ map noted es =
    ap (take p.count) e.events_are ∙ stored_front events₀ (map noted es) p.count k (omega arith) in
    let same : text_for events p.count p.reason ≡ replay_text m x l = rw (min-eq_left h, stored, lines_noted es, w.reason_is) in
    rw same at t

-- the program's output, from the test that the code makes
module _ (d : Edition) (l : List ℕ) {size : ℕ} {out₀ out : List ℕ} where
  pub prints_long : 65536 < length l → Printed long_text size out₀ out → Printed (output_of d l) size out₀ out
  unfolding output_of
  prints_long h w = rw (lt-leb _ _ h) w

  pub prints_text : {m : Machine} → length l ≤ 65536 → m ≡ reset_machine d → Printed (replay_text m zero_memories l) size out₀ out
      → Printed (output_of d l) size out₀ out
  unfolding output_of
  prints_text h e w = rw (le-leb _ _ h, ← e) w
