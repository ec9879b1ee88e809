-- What a step leaves of the memories: both as they were, some bytes stored from an address on, or a header. Assumes nothing.
use native.Mathlib.Omega.{arith}
use mathlib.Core.Path.{◌≡◌, refl, sym, subst}
use mathlib.Core.Bool.{Bool}
use mathlib.Core.List.{List}
use Prim.Native.Nat.{ℕ, ◌+◌, ◌<◌}
use lib.Dec.{eqb}
use lib.ListN.{length}
use lib.Seq.{length-sets}
use Rattle.fields.specs.Fields.{bytes_of}
use Rattle.fields.proofs.Laws.{length_bytes_of}
use Rattle.fields.proofs.Cases.{either}
use Rattle.memory.specs.Memory.{Memories, memories, Cell, all_there, store_bytes, there, Reached, reads, writes}
use Rattle.memory.proofs.Cells.{SameLengths, bytes_lengths, ten_bytes, ten_long, segment_bytes}
use Rattle.steps.specs.declared.Step.{Step}
use Rattle.steps.specs.declared.Step.TheVariants.{Reset, Registers, Read, Write, PortRead, PortWrite, Opcode, Boundary, MalformedBoundary, Halt, Wake}
use Rattle.steps.specs.Answers.{number_of}
use Rattle.refusals.specs.Refusals.{wrong_sizes}
use Rattle.refusals.proofs.Laws.{by_verdict}
use Rattle.settings.specs.Settings.{smhr}
use Rattle.header.specs.declared.Saved.{Saved}
use Rattle.header.specs.Header.{header_length, header_bytes, headed}
use Rattle.opcodes.specs.declared.Operation.{Operation}
use Rattle.opcodes.specs.declared.Operation.TheVariants.{Save, Restore, Rdshr, Wrshr, Smint, Rsm, Undefined}
use Rattle.opcodes.specs.Decode.{operation_of, operand_size}
use Rattle.machine.specs.declared.Machine.{Machine}
use Rattle.machine.specs.Machines.{settings_of, edition_of, segment_in}
use Rattle.machine.specs.Outcomes.{Outcome, gives, ends}
use Rattle.machine.specs.Service.{entry, taken, boundary_step}
use Rattle.machine.specs.Steps.{window, valid, operation_on, saved, smhr_stored, operated, with_operand, opcode_step, performed, decided, stepped}
use Rattle.isolation.specs.Service.{answer_to}
use Rattle.isolation.proofs.Service.{enters_as_stated}
use Rattle.levels.specs.Levels.{place_of}
use Rattle.service.specs.NoMark.{Completes, operand_cell}
use Rattle.service.specs.Stored.{Stores}

-- each of the last two with the way in which the step stores there
pub data Leaves (k : Machine) (y : Memories) (s : Step) : Memories → Type 0 where
  nothing : Leaves k y s y
  bytes : (a : ℕ) (bs : List ℕ) → ((t : ℕ) → t < length bs → Stores k y (operand_cell k a t) s) → Leaves k y s (store_bytes (window k) y a bs)
  header : (v : Saved) → ((t : ℕ) → t < header_length → Stores k y (Cell.InManagement (place_of k + t)) s)
      → Leaves k y s (memories y.main (headed y.management (place_of k) v))

module _ (k : Machine) (y : Memories) where
  -- an outcome of the step s, where it has the answer that s is given
  abbrev If : Step → Outcome → Type 0
  If s out = answer_to k y s ≡ number_of out.stepped.answer → Leaves k y s out.memory

  entry_leaves : (s : Step) (v : Saved) (latched : Bool) → If s (entry k y v latched)
  unfolding entry
  entry_leaves s v latched h = Leaves.header v (λ t l. Stores.by_entry (record { byte = t; below = l; cell = refl }) (enters_as_stated k y s h).by h)

  operated_leaves : (op modrm a next : ℕ) (o : Operation) → operation_of (edition_of k) op modrm ≡ o
      → If (Opcode op modrm a next) (operated k y o a next)
  unfolding operated saved smhr_stored
  operated_leaves op modrm a next (Save n) d h =
      subst (Leaves k y (Opcode op modrm a next)) (sym (segment_bytes (window k) y a (segment_in k n)))
      (Leaves.bytes a (ten_bytes (segment_in k n)) (λ t l. Stores.by_save (record { byte = t; below = rw (ten_long (segment_in k n)) at l; cell = refl }) (Completes.completes d h)))
  operated_leaves op modrm a next (Restore n) d h = Leaves.nothing
  operated_leaves op modrm a next Rdshr d h =
      let v = smhr (settings_of k) in
      Leaves.bytes a (bytes_of 4 v) (λ t l. Stores.by_rdshr (record { byte = t; below = rw (length_bytes_of 4 v) at l; cell = refl }) (Completes.completes d h))
  operated_leaves op modrm a next Wrshr d h = Leaves.nothing
  operated_leaves op modrm a next Smint d h = entry_leaves (Opcode op modrm a next) _ _ h
  operated_leaves op modrm a next Rsm d h = Leaves.nothing
  operated_leaves op modrm a next Undefined d h = Leaves.nothing

  opcode_leaves : (op modrm a next : ℕ) → If (Opcode op modrm a next) (opcode_step k y op modrm a next)
  unfolding opcode_step operation_on with_operand operated all_there
  opcode_leaves op modrm a next =
      let o = operation_of (edition_of k) op modrm in
      let s = Opcode op modrm a next in
      either (λ (q : Operation). If s (with_operand k y q a next)) (valid k o)
      (λ v. either (If s) (there (window k) y a (operand_size o)) (λ t. operated_leaves op modrm a next o refl) (λ t h. Leaves.nothing))
      (λ v h. Leaves.nothing)

  performed_leaves : (s : Step) → If s (performed k y s)
  unfolding performed reads writes boundary_step
  performed_leaves Reset h = Leaves.nothing
  performed_leaves (Registers eip eflags cr0 dr7 selector descriptor level writable) h = Leaves.nothing
  performed_leaves (Read width a) h = Leaves.nothing
  performed_leaves (Write width a v) h =
      let s = Write width a v in
      either (λ (r : Reached). If s (ends (gives k r.answer) r.memory)) (there (window k) y a width)
      (λ t q. Leaves.bytes a (bytes_of width v) (λ t l. Stores.by_write (record { byte = t; below = omega (arith, rw (length_bytes_of width v) at l); cell = refl }) q)) (λ t q. Leaves.nothing) h
  performed_leaves (PortRead port) h = Leaves.nothing
  performed_leaves (PortWrite port v) h = Leaves.nothing
  performed_leaves (Opcode op modrm a next) h = opcode_leaves op modrm a next h
  performed_leaves (Boundary smi current i) h =
      let s = Boundary smi current i in
      either (If s) (taken k (eqb smi 1)) (λ t. entry_leaves s _ _) (λ t q. Leaves.nothing) h
  performed_leaves MalformedBoundary h = Leaves.nothing
  performed_leaves Halt h = Leaves.nothing
  performed_leaves Wake h = Leaves.nothing

  pub step_leaves : (s : Step) → Leaves k y s (stepped k y s).memory
  unfolding stepped
  step_leaves s =
      by_verdict k.halted y s (λ v. If s (decided k y s v)) (λ r h. Leaves.nothing) (λ r h. Leaves.nothing) (λ r h. Leaves.nothing)
      (λ t. performed_leaves s) refl

-- ---- no step makes a memory longer or shorter

lengths : {k : Machine} {y z : Memories} {s : Step} → Leaves k y s z → SameLengths y z
unfolding headed
lengths Leaves.nothing = record { main = refl; management = refl }
lengths {k} {y} (Leaves.bytes a bs st) = bytes_lengths (window k) y a bs
lengths {k} {y} (Leaves.header v st) = record { main = refl; management = length-sets y.management (place_of k) (header_bytes v) }

pub sizes_stay : (k : Machine) (y : Memories) (s : Step) → wrong_sizes (stepped k y s).memory ≡ wrong_sizes y
unfolding wrong_sizes
sizes_stay k y s = let l = lengths (step_leaves k y s) in rw (l.main, l.management)
