-- The later core without its news does what the 486 one does. Assumes nothing.
use mathlib.Core.Path.{◌≡◌, refl}
use mathlib.Core.Bool.{Bool, true, false, ◌&&◌, and-false, or-false}
use Prim.Native.Nat.{ℕ, ◌+◌}
use lib.Dec.{eqb}
use borrow.Author.Tests.{eqb-true, ne_eqb}
use Rattle.std.proofs.Common.{Option, Some, None}
use Rattle.region.specs.Region.{size_of}
use Rattle.memory.specs.declared.Segment.{Segment}
use Rattle.memory.specs.Memory.{Memories, there, reads, writes}
use Rattle.steps.specs.declared.Answer.{Answer}
use Rattle.steps.specs.declared.Step.{Step}
use Rattle.steps.specs.declared.Step.TheVariants.{Reset, Registers, Read, Write, PortRead, PortWrite, Opcode, Boundary, MalformedBoundary, Halt, Wake}
use Rattle.steps.specs.declared.Interruption.{Interruption}
use Rattle.refusals.specs.Refusals.{first_refusal}
use Rattle.settings.specs.declared.Edition.TheVariants.{Cx486, Mii}
use Rattle.settings.specs.declared.Settings.{Settings}
use Rattle.nesting.specs.Nesting.{smm_mode, enhanced, entered_settings, resumed_settings, nestable, takes, stays_inside}
use Rattle.settings.specs.Settings.{is_mii, mapen, smhr, region_in, window_of, header_end, header_fits, header_place, enabled, opcodes_allowed, byte_of, with_byte, later_bits, locked_bits, kept_bits, written, with_smhr}
use Rattle.nesting.proofs.Moving.{nothing_moves}
use Rattle.config.specs.declared.Config.{Config}
use Rattle.config.specs.declared.Accessed.{Accessed}
use Rattle.config.specs.Ports.{always_internal, internal, answering, indexed, port_read, port_write}
use Rattle.header.specs.declared.Saved.{Saved}
use Rattle.header.specs.Header.{nested_in}
use Rattle.segments.specs.declared.SegmentName.{SegmentName}
use Rattle.opcodes.specs.declared.Operation.{Operation}
use Rattle.opcodes.specs.declared.Operation.TheVariants.{Save, Restore, Rdshr, Wrshr, Smint, Rsm, Undefined}
use Rattle.opcodes.specs.Decode.{grouped, operation_of, operand_size, allowed}
use Rattle.machine.specs.declared.Machine.{Machine}
use Rattle.machine.specs.declared.Stepped.{Stepped}
use Rattle.machine.specs.Machines.{settings_of, edition_of, segment_in, with_segment, reset_machine}
use Rattle.machine.specs.Outcomes.{Outcome, ends}
use Rattle.machine.specs.Service.{entered_machine, entry, taken, passed, boundary_step, resume}
use Rattle.machine.specs.Steps.{window, permitted, valid, operation_on, saved, restored, smhr_stored, smhr_loaded, operated, with_operand, opcode_step, performed, decided, stepped}
use Rattle.isolation.specs.Editions.{settings486, as486, outcome486, common, SameWithoutNews, CommonAsked}
use Rattle.fields.proofs.Cases.{both, unlike}
use Rattle.segments.proofs.Names.{by_name}

-- ---- what is the same of the settings

-- numbers that a test tells apart
apart : (f : ℕ → Bool) (i : ℕ) → f i ≡ true → (k : ℕ) → f k ≡ false → eqb i k ≡ false
apart f i t k e = go (eqb i k) refl
  where
    go : (b : Bool) → eqb i k ≡ b → b ≡ false
    go true h = unlike t (rw (eqb-true i k h) e)
    go false h = refl

-- which indexes are internal in the 486 edition, and in the later one without MAPEN
internal_486 : (s : Settings) (i : ℕ) → internal (settings486 s) i ≡ always_internal i
unfolding internal
internal_486 s i = or-false (always_internal i)

module _ (s : Settings) (later : s.edition ≡ Mii) where
  internal_without : mapen s ≡ false → (i : ℕ) → internal s i ≡ always_internal i
  unfolding internal
  internal_without off i = rw (later, off) (or-false (always_internal i))

  same_written : (i v : ℕ) (inside : Bool) → always_internal i ≡ true → written (settings486 s) i v inside ≡ settings486 (written s i v inside)
  unfolding written byte_of with_byte kept_bits locked_bits later_bits always_internal
  same_written i v inside t =
      let other = apart always_internal i t in
      rw (later, other 0xea refl, other 0xb0 refl, other 0xb1 refl, other 0xb2 refl, other 0xb3 refl)

  module _ (end : smhr s ≡ (region_in s).base + size_of (region_in s).code) where
    same_end : header_end (settings486 s) ≡ header_end s
    unfolding header_end
    same_end = rw (later, end)

    same_fits : header_fits (settings486 s) ≡ header_fits s
    unfolding header_fits
    same_fits = rw same_end

    same_place : header_place (settings486 s) ≡ header_place s
    unfolding header_place
    same_place = rw same_end

    same_enabled : enabled (settings486 s) ≡ enabled s
    unfolding enabled
    same_enabled = rw same_fits

    same_allowed : (inside : Bool) (o : Operation) → allowed (settings486 s) inside o ≡ allowed s inside o
    same_allowed inside (Save name) = refl
    same_allowed inside (Restore name) = refl
    same_allowed inside Rdshr = refl
    same_allowed inside Wrshr = refl
    same_allowed inside Smint = rw same_fits
    same_allowed inside Rsm = rw same_fits
    same_allowed inside Undefined = refl

-- ---- the ports

abbrev config486 : Config → Config
config486 c = indexed (settings486 c.settings) c.index c.armed

abbrev Port : Accessed → Accessed → Type 0
Port p q = p ≡ answering (config486 q.config) q.answer

module _ (c : Config) (later : c.settings.edition ≡ Mii) (off : mapen c.settings ≡ false) where
  same_read : (port : ℕ) → Port (port_read (config486 c) port) (port_read c port)
  unfolding port_read byte_of
  same_read port =
      rw (internal_486 c.settings c.index, internal_without c.settings later off c.index)
      (both Port (eqb port 0x23 && c.armed) (λ h. refl) (λ h. refl))

  same_write : (port v : ℕ) (inside : Bool) → Port (port_write (config486 c) port v inside) (port_write c port v inside)
  unfolding port_write
  same_write port v inside =
      let i = c.index in
      rw (internal_486 c.settings i, internal_without c.settings later off i)
      (both Port (eqb port 0x22) (λ h. refl)
      (λ h. both Port (eqb port 0x23 && c.armed)
      (λ k. both Port (always_internal i) (λ t. rw (same_written c.settings later i v inside t)) (λ t. refl))
      (λ k. refl)))

-- ---- what opcodes name

same_operation : (op modrm a next : ℕ) → common (Opcode op modrm a next) ≡ true → operation_of Cx486 op modrm ≡ operation_of Mii op modrm
unfolding operation_of grouped
same_operation op modrm a next h =
    let other = apart (λ o. common (Opcode o modrm a next)) op h in
    rw (other 0x36 refl, other 0x37 refl, other 0x38 refl, other 0x7e refl)

-- ---- the steps

abbrev Same : Outcome → Outcome → Type 0
Same o p = o ≡ outcome486 p

same_segment : (m : Machine) (name : SegmentName) → segment_in (as486 m) name ≡ segment_in m name
same_segment m = by_name (λ n. segment_in (as486 m) n ≡ segment_in m n) refl refl refl refl refl refl refl refl

with_segment_lem : (m : Machine) (x : Segment) (name : SegmentName) → with_segment (as486 m) name x ≡ as486 (with_segment m name x)
with_segment_lem m x = by_name (λ n. with_segment (as486 m) n x ≡ as486 (with_segment m n x)) refl refl refl refl refl refl refl refl

-- with SMM_MODE 0 nothing nests
not_enhanced : (s : Settings) → smm_mode s ≡ false → enhanced s ≡ false
unfolding enhanced
not_enhanced s zero = rw zero (and-false (is_mii s.edition))

module _ (s : Settings) (zero : smm_mode s ≡ false) where
  abbrev t : Settings
  t = settings486 s

  same_entered : entered_settings t ≡ settings486 (entered_settings s)
  same_entered = rw ((nothing_moves s (not_enhanced s zero)).0, (nothing_moves t (not_enhanced t zero)).0)

  same_resumed : resumed_settings t ≡ settings486 (resumed_settings s)
  same_resumed = rw ((nothing_moves s (not_enhanced s zero)).1, (nothing_moves t (not_enhanced t zero)).1)

  same_stays : (n : Bool) → stays_inside t n ≡ stays_inside s n
  unfolding stays_inside
  same_stays n = rw (not_enhanced s zero, not_enhanced t zero)

  same_takes : enabled t ≡ enabled s → (inside : Bool) → takes t inside ≡ takes s inside
  unfolding takes nestable
  same_takes e inside = rw (e, not_enhanced s zero, not_enhanced t zero)

module _ (m : Machine) (x : Memories) (later : edition_of m ≡ Mii) (zero : smm_mode (settings_of m) ≡ false)
    (end : smhr (settings_of m) ≡ (region_in (settings_of m)).base + size_of (region_in (settings_of m)).code) where
  same_window : window (as486 m) ≡ window m
  unfolding window_of
  same_window = refl

  same_entry : (s : Saved) (latched : Bool) → Same (entry (as486 m) x s latched) (entry m x s latched)
  unfolding entry entered_machine
  same_entry s latched = rw (same_place (settings_of m) later end, same_entered (settings_of m) zero)

  same_operated : (o : Operation) (a next : ℕ) → Same (operated (as486 m) x o a next) (operated m x o a next)
  unfolding operated saved restored smhr_stored smhr_loaded with_smhr resume
  same_operated (Save name) a next = rw (same_window, same_segment m name)
  same_operated (Restore name) a next = rw (same_window, with_segment_lem m _ name)
  same_operated Rdshr a next = rw same_window
  same_operated Wrshr a next = rw same_window
  same_operated Smint a next = same_entry _ _
  same_operated Rsm a next =
      rw (same_place (settings_of m) later end, same_resumed (settings_of m) zero, same_stays (settings_of m) zero (nested_in x.management (header_place (settings_of m))))
  same_operated Undefined a next = refl

  same_valid : (o : Operation) → valid (as486 m) o ≡ valid m o
  unfolding valid permitted opcodes_allowed
  same_valid o = rw (same_allowed (settings_of m) later end m.inside o)

  same_on : (op modrm a next : ℕ) → common (Opcode op modrm a next) ≡ true → operation_on (as486 m) op modrm ≡ operation_on m op modrm
  unfolding operation_on
  same_on op modrm a next h =
      let o = operation_of (edition_of m) op modrm in
      let e : operation_of Cx486 op modrm ≡ o = rw later (same_operation op modrm a next h) in
      rw (e, same_valid o)

  same_operand : (o : Operation) (a next : ℕ) → Same (with_operand (as486 m) x o a next) (with_operand m x o a next)
  unfolding with_operand
  same_operand o a next =
      rw same_window (both Same (there (window m) x a (operand_size o)) (λ k. same_operated o a next) (λ k. refl))

  same_boundary : (asserted : Bool) (current : ℕ) (i : Interruption)
      → Same (boundary_step (as486 m) x asserted current i) (boundary_step m x asserted current i)
  unfolding boundary_step taken passed
  same_boundary asserted current i =
      let Turn : Stepped → Stepped → Type 0 = λ r t. Same (ends r x) (ends t x) in
      rw (same_takes (settings_of m) zero (same_enabled (settings_of m) later end) m.inside)
      (both Same (taken m asserted) {v = ends (passed m asserted) x} (λ h. same_entry _ _)
      (λ h. both Turn asserted (λ k. both Turn m.inside (λ n. refl) (λ n. refl)) (λ k. refl)))

  module _ (off : mapen (settings_of m) ≡ false) where
    same_performed : (s : Step) → common s ≡ true → Same (performed (as486 m) x s) (performed m x s)
    unfolding performed reset_machine reads writes opcode_step
    same_performed Reset h = refl
    same_performed (Registers eip eflags cr0 dr7 selector descriptor level writable) h = refl
    same_performed (Read width a) h = rw same_window
    same_performed (Write width a v) h = rw same_window
    same_performed (PortRead port) h = rw (same_read m.config later off port)
    same_performed (PortWrite port v) h = rw (same_write m.config later off port v m.inside)
    same_performed (Opcode op modrm a next) h = rw (same_on op modrm a next h) (same_operand (operation_on m op modrm) a next)
    same_performed (Boundary smi current i) h = same_boundary (eqb smi 1) current i
    same_performed MalformedBoundary h = refl
    same_performed Halt h = refl
    same_performed Wake h = refl

    same_decided : (s : Step) (v : Option Answer) → common s ≡ true → Same (decided (as486 m) x s v) (decided m x s v)
    same_decided s (Some a) h = refl
    same_decided s None h = same_performed s h

pub same_without_news : SameWithoutNews
unfolding stepped
same_without_news m x s later off zero end h = same_decided m x later zero end off s (first_refusal m.halted x s) h

-- ---- the steps that it speaks of

pub common_asked : CommonAsked
common_asked = (other, λ op modrm a next p q r t. rw (ne_eqb op 0x36 p, ne_eqb op 0x37 q, ne_eqb op 0x38 r, ne_eqb op 0x7e t))
  where
    other : (s : Step) → ((op modrm a next : ℕ) → s ≡ Opcode op modrm a next → ⊥) → common s ≡ true
    other Reset n = refl
    other (Registers eip eflags cr0 dr7 selector descriptor level writable) n = refl
    other (Read width a) n = refl
    other (Write width a v) n = refl
    other (PortRead port) n = refl
    other (PortWrite port v) n = refl
    other (Opcode op modrm a next) n = absurd (n op modrm a next refl)
    other (Boundary smi current i) n = refl
    other MalformedBoundary n = refl
    other Halt n = refl
    other Wake n = refl
