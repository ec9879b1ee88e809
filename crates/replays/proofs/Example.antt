-- The example. The two memories are taken as any lists of the right lengths: neither is written out. Assumes nothing.
use Prim.Native.Nat.{ℕ, zero, suc, ◌+◌, ◌-◌, ◌%◌, ◌<◌}
use mathlib.Core.Path.{◌≡◌, refl, sym, ap, ◌∙◌}
use mathlib.Core.Bool.{Bool, true, false, cond}
use mathlib.Core.List.{List, [], ◌∷◌, ◌++◌}
use native.Mathlib.Omega.{arith}
use lib.Dec.{lit<}
use lib.ListN.{length, get_or, replicate, set, length-replicate, length-set}
use Rattle.std.proofs.Common.{Option}
use Rattle.fields.specs.Fields.{number_by, bytes_of}
use Rattle.region.specs.Region.{region_of, size_of, usable, within}
use Rattle.steps.specs.declared.Step.{Step}
use Rattle.steps.specs.declared.Step.TheVariants.{Read, Write, PortWrite, Boundary, Wake}
use Rattle.steps.specs.declared.Interruption.TheVariants.{None}
use Rattle.steps.specs.Steps.{is_width, kind_of}
use Rattle.boundaries.specs.Boundaries.{interruption_of, unused_zero, boundary_of}
use Rattle.memory.specs.Memory.{Memories, memories, cell_of, byte_at, store_byte, store_bytes, absent, all_there, reads, writes}
use Rattle.steps.specs.declared.Answer.TheVariants.{Done, Malformed, WhileHalted, Value, Ignored, Entered}
use Rattle.steps.specs.declared.Answer.{Answer}
use Rattle.refusals.specs.Refusals.{wrong_sizes, malformed_on, program_while_halted, first_refusal}
use Rattle.settings.specs.declared.Settings.{Settings}
use Rattle.settings.specs.declared.Edition.{Edition}
use Rattle.settings.specs.declared.Edition.TheVariants.{Cx486, Mii}
use Rattle.settings.specs.Settings.{window_of, header_end, header_fits, enabled, byte_of, with_byte, kept_bits, written}
use Rattle.config.specs.Ports.{always_internal, internal, port_write}
use Rattle.machine.specs.Machines.{reset_machine}
use Rattle.machine.specs.declared.Machine.{Machine}
use Rattle.machine.specs.Outcomes.{Outcome, gives, ends}
use Rattle.machine.specs.Service.{saved_at_boundary, taken, passed, entry, boundary_step}
use Rattle.nesting.specs.Nesting.{takes}
use Rattle.machine.specs.Steps.{performed, decided, stepped}
use Rattle.runs.specs.Runs.{Run, run, answers_of}
use Rattle.runs.proofs.Turns.{run_step}
use Rattle.trace.specs.Trace.{record_of, record_by, group_of, frame_at, framed, found_at}
use Rattle.lines.specs.declared.Reason.TheVariants as why
use Rattle.scripts.specs.Scripts.{Script, record_limit, repeated, read_from, within as reading-within, limited, whole, script_of}
use Rattle.lines.specs.Lines.{digit_of, decimal_of, hex_of, line_of, lines_of, text_of}
use Rattle.player.specs.Output.{zero_memories}
use Rattle.isolation.specs.Isolation.{Start, NoReset}
use Rattle.isolation.specs.Tightness.{NoEntry}
use Rattle.replays.specs.Texts.{entered_line, begins, through_line, through_entered, text_within, Leads}
use Rattle.replays.proofs.Texts.{through_entered_asked}
use Rattle.replays.proofs.After.{led, same_after}
use Rattle.replays.specs.Example.{firmware, settings, machine_with, loaded, trying, line_with, holding, printed, FirmwareExample, FirmwareTexts}

-- ---- the steps

abbrev loading : ℕ → List Step
loading v =
    PortWrite 0x22 0xcf ∷ PortWrite 0x23 0x01 ∷ PortWrite 0x22 0xc1 ∷ PortWrite 0x23 0x06 ∷ Write 1 0 v
    ∷ PortWrite 0x22 0xc1 ∷ PortWrite 0x23 0x02 ∷ PortWrite 0x22 0xc3 ∷ PortWrite 0x23 0x01 ∷ []

firmware_steps : (secret : ℕ) → script_of (firmware secret) ≡ record { steps = loading (secret + 0); reason = why.End }
unfolding firmware repeated read_from reading-within limited found_at frame_at framed group_of record_of record_by number_by
firmware_steps secret = refl

abbrev tried : List Step
tried = Read 1 0 ∷ Boundary 1 0 None ∷ Read 1 0 ∷ []

trying_steps : whole trying ≡ record { steps = tried; reason = why.End }
unfolding trying repeated read_from reading-within found_at frame_at framed group_of record_of record_by number_by boundary_of unused_zero interruption_of
trying_steps = refl

-- ---- a step without the test of the sizes

abbrev judged : Bool → Step → Option Answer
judged halted s = cond (malformed_on halted s) (Option.Some Malformed) (cond (program_while_halted halted s) (Option.Some WhileHalted) Option.None)

quickly : (m : Machine) (x : Memories) (s : Step) → wrong_sizes x ≡ false → stepped m x s ≡ decided m x s (judged m.halted s)
unfolding stepped first_refusal
quickly m x s z = rw z

-- ---- the load, step by step, on any memories of the right sizes

record Ends (m : Machine) (x : Memories) (ss : List Step) (m' : Machine) (x' : Memories) : Type 0 where
  pub machine_is : (run m x ss).machine ≡ m'
  pub memory_is : (run m x ss).memory ≡ x'

-- a step that is done leads to machine m₁ and memories x₁
abbrev Does : Machine → Memories → Step → Machine → Memories → Type 0
Does m x s m₁ x₁ = stepped m x s ≡ ends (gives m₁ Done) x₁

then : {m m₁ m' : Machine} {x x₁ x' : Memories} {ss : List Step} {s : Step} → Does m x s m₁ x₁ → Ends m₁ x₁ ss m' x' → Ends m x (s ∷ ss) m' x'
then {m} {m₁} {m'} {x} {x₁} {x'} {ss} {s} e h =
    let r = run_step m x x₁ s ss (gives m₁ Done) (sym e) in
    record { machine_is = ap (λ (a : Run). a.machine) r ∙ h.machine_is; memory_is = ap (λ (a : Run). a.memory) r ∙ h.memory_is }

module _ (x : Memories) (z : wrong_sizes x ≡ false) (s : Settings) where
  indexes : (j : ℕ) (r : Bool) (i : ℕ) → Does (machine_with s j r) x (PortWrite 0x22 i) (machine_with s i true) x
  unfolding performed malformed_on program_while_halted port_write
  indexes j r i = quickly (machine_with s j r) x (PortWrite 0x22 i) z

  stores : (i v : ℕ) → always_internal i ≡ true → Does (machine_with s i true) x (PortWrite 0x23 v) (machine_with (written s i v false) i false) x
  unfolding performed malformed_on program_while_halted port_write internal
  stores i v a = quickly (machine_with s i true) x (PortWrite 0x23 v) z ∙ rw a

  -- the index, and then the byte
  pair : {ss : List Step} {m' : Machine} {x' : Memories} (j : ℕ) (r : Bool) (i v : ℕ) (t : Settings) → always_internal i ≡ true → written s i v false ≡ t
      → Ends (machine_with t i false) x ss m' x' → Ends (machine_with s j r) x (PortWrite 0x22 i ∷ PortWrite 0x23 v ∷ ss) m' x'
  pair j r i v t a e h = then (indexes j r i) (then (stores i v a ∙ ap (λ (u : Settings). ends (gives (machine_with u i false) Done) x) e) h)

module _ (e : Edition) (main g : List ℕ) (long : length g ≡ 65536) (short : length main ≡ 65536) where
  sized : wrong_sizes (memories main g) ≡ false
  unfolding wrong_sizes
  sized = rw (long, short)

  module _ (v : ℕ) where
    held : List ℕ
    held = set g 0 (v % 256)

    sized_held : wrong_sizes (memories main held) ≡ false
    unfolding wrong_sizes held
    sized_held = rw (length-set, long, short)

    writing : Does (machine_with (settings e 0x06 0 0x01) 0xc1 false) (memories main g) (Write 1 0 v) (machine_with (settings e 0x06 0 0x01) 0xc1 false) (memories main held)
    unfolding performed malformed_on program_while_halted is_width writes all_there absent store_bytes store_byte cell_of bytes_of window_of within usable size_of region_of held
    writing = quickly _ (memories main g) (Write 1 0 v) sized

    load_ends : Ends (reset_machine e) (memories main g) (loading v) (loaded e) (memories main held)
    unfolding always_internal written kept_bits with_byte byte_of reset_machine run
    load_ends =
        pair (memories main g) sized (settings e 0 0 0) 0 false 0xcf 0x01 (settings e 0 0 0x01) refl refl
        (pair (memories main g) sized (settings e 0 0 0x01) 0xcf false 0xc1 0x06 (settings e 0x06 0 0x01) refl refl
        (then writing
        (pair (memories main held) sized_held (settings e 0x06 0 0x01) 0xc1 false 0xc1 0x02 (settings e 0x02 0 0x01) refl refl
        (pair (memories main held) sized_held (settings e 0x02 0 0x01) 0xc1 false 0xc3 0x01 (settings e 0x02 0x01 0x01) refl refl
        (record { machine_is = refl; memory_is = refl })))))

-- ---- what is tried then: the byte at 0 is main memory's

module _ (main h : List ℕ) (short : length main ≡ 65536) (z : wrong_sizes (memories main h) ≡ false) where
  abbrev lent : Memories
  lent = memories main h

  byte : ℕ
  byte = get_or main 0 0 + 0

  reads_byte : (e : Edition) → stepped (loaded e) lent (Read 1 0) ≡ ends (gives (loaded e) (Value byte)) lent
  unfolding performed malformed_on program_while_halted is_width reads all_there absent byte_at cell_of number_by window_of within usable size_of region_of byte
  reads_byte e = quickly (loaded e) lent (Read 1 0) z ∙ rw short

  -- the 486 edition enters, and reads something
  at_entry : Outcome
  at_entry = entry (loaded Cx486) lent (saved_at_boundary (loaded Cx486) 0 None) false

  enters_then : stepped (loaded Cx486) lent (Boundary 1 0 None) ≡ at_entry
  unfolding performed malformed_on program_while_halted boundary_step taken takes enabled header_fits header_end usable size_of region_of at_entry
  enters_then = quickly (loaded Cx486) lent (Boundary 1 0 None) z

  inside : Answer
  inside = (stepped at_entry.stepped.machine at_entry.memory (Read 1 0)).stepped.answer

  answers_486 : answers_of (run (loaded Cx486) lent tried) ≡ Value byte ∷ Entered ∷ inside ∷ []
  unfolding run entry at_entry inside
  answers_486 = rw (reads_byte Cx486, enters_then)

  -- the later one passes it by
  passes_then : stepped (loaded Mii) lent (Boundary 1 0 None) ≡ ends (gives (loaded Mii) Ignored) lent
  unfolding performed malformed_on program_while_halted boundary_step taken takes enabled header_fits header_end usable size_of region_of passed
  passes_then = quickly (loaded Mii) lent (Boundary 1 0 None) z

  answers_mii : answers_of (run (loaded Mii) lent tried) ≡ Value byte ∷ Ignored ∷ Value byte ∷ []
  unfolding run
  answers_mii = rw (reads_byte Mii, passes_then, reads_byte Mii)

-- ---- on the memories of the programs

abbrev zeros : List ℕ
zeros = replicate 65536 0

zeros_long : length zeros ≡ 65536
zeros_long = length-replicate {A = ℕ} 65536 0

module _ (e : Edition) where
  leads : (secret : ℕ) → Leads (reset_machine e) zero_memories (firmware secret) (loaded e) zeros (set zeros 0 ((secret + 0) % 256))
  unfolding held
  leads secret =
      let f = firmware_steps secret in
      let h = load_ends e zeros zeros zeros_long zeros_long (secret + 0) in
      record {
        ends = ap (λ (u : Script). u.reason) f;
        machine_is = ap (λ (u : Script). (run (reset_machine e) zero_memories u.steps).machine) f ∙ h.machine_is;
        memory_is = ap (λ (u : Script). (run (reset_machine e) zero_memories u.steps).memory) f ∙ h.memory_is;
      }

  starts : Start (loaded e)
  starts = record {
    outside = refl;
    locked = refl;
    closed = refl;
    bytes = record {
      ccr1 = lit< tt;
      ccr3 = lit< tt;
      high = lit< tt;
      middle = lit< tt;
      low = lit< tt;
      ccr6 = lit< tt;
      smhr0 = lit< tt;
      smhr1 = lit< tt;
      smhr2 = lit< tt;
      smhr3 = lit< tt;
    };
  }

tried_none : NoReset tried
tried_none i l w = by i l (ap kind_of w)
  where
    by : (i : ℕ) → i < 3 → kind_of (get_or tried i Wake) ≡ 1 → ⊥
    by zero l k = omega arith
    by (suc zero) l k = omega arith
    by (suc (suc zero)) l k = omega arith
    by (suc (suc (suc i))) l k = omega arith

no_reset : NoReset (script_of trying).steps
unfolding limited
no_reset = rw trying_steps tried_none

pub firmware_example : (e : Edition) → FirmwareExample e
firmware_example e =
    let a = leads e 0x41 in
    let b = leads e 0x42 in
    let r = ap (λ (u : Script). length u.steps) (firmware_steps 0x41) ∙ sym (ap (λ (u : Script). length u.steps) (firmware_steps 0x42)) in
    let l = length-set zeros 0 0x41 ∙ sym (length-set zeros 0 0x42) in
    record {
      first = a;
      second = b;
      records = r;
      start = starts e;
      sizes = l;
      none = no_reset;
      alike = same_after (reset_machine e) zero_memories zero_memories (firmware 0x41) (firmware 0x42) trying (loaded e) zeros (holding 0x41) (holding 0x42) a b r (starts e) l no_reset;
    }

printed_is : (e : Edition) → printed e 0x41 ≡ text_of (answers_of (run (loaded e) (memories zeros (holding 0x41)) tried)) why.End
unfolding limited
printed_is e =
    led (reset_machine e) zero_memories (firmware 0x41) trying (loaded e) zeros (holding 0x41) (leads e 0x41)
    ∙ ap (λ (u : Script). text_within (record_limit - length u.steps) (loaded e) (memories zeros (holding 0x41)) trying) (firmware_steps 0x41)
    ∙ ap (λ (u : Script). let t = limited 9991 u in text_of (answers_of (run (loaded e) (memories zeros (holding 0x41)) t.steps)) t.reason) trying_steps

sized_zeros : wrong_sizes (memories zeros (holding 0x41)) ≡ false
unfolding held
sized_zeros = sized_held Cx486 zeros zeros zeros_long zeros_long 0x41

none_entered : (v : ℕ) → NoEntry (Value v ∷ [])
none_entered v zero l k = omega arith
none_entered v (suc i) l k = omega arith

texts_are : (through_entered (printed Cx486 0x41) ≡ line_with 0x36 ++ entered_line)
    × (printed Mii 0x41 ≡ line_with 0x36 ++ (line_with 0x39 ++ (line_with 0x36 ++ (0x65 ∷ 0x6e ∷ 0x64 ∷ 0x0a ∷ []))))
unfolding byte lines_of line_of decimal_of hex_of digit_of
texts_are =
    let h = holding 0x41 in
    let text : List Answer → List ℕ = λ l. text_of l why.End in (
      ap through_entered (printed_is Cx486 ∙ ap text (answers_486 zeros h zeros_long sized_zeros))
          ∙ through_entered_asked.1 (Value 0 ∷ []) (inside zeros h zeros_long sized_zeros ∷ []) Entered why.End (none_entered 0) refl,
      printed_is Mii ∙ ap text (answers_mii zeros h zeros_long sized_zeros),
    )

-- and so with the other secret
pub firmware_texts : FirmwareTexts
unfolding through_line begins
firmware_texts = record {
  enters = texts_are.0;
  enters_too = sym (firmware_example Cx486).alike.lines ∙ texts_are.0;
  passes = texts_are.1;
  passes_too = sym ((firmware_example Mii).alike.texts (ap through_entered texts_are.1 ∙ sym texts_are.1));
}
