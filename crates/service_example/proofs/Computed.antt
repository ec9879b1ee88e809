-- All that is computed of the examples, without the test of the sizes. Assumes nothing.
use mathlib.Core.Path.{◌≡◌, refl}
use mathlib.Core.Bool.{Bool, true, false}
use mathlib.Core.List.{List, [], ◌∷◌, map, flat_map}
use Prim.Native.Nat.{ℕ, ◌+◌}
use lib.ListN.{get_or, replicate, take}
use Rattle.region.specs.declared.Region.{Region}
use Rattle.region.specs.Region.{region_of, size_of, usable, within}
use Rattle.fields.specs.Fields.{number_by, bytes_of}
use Rattle.memory.specs.Memory.{Memories, byte_in, cell_of, byte_at, store_byte, absent, all_there, store_bytes, segment_at, store_segment, reads, writes}
use Rattle.steps.specs.declared.Step.{Step}
use Rattle.steps.specs.declared.Step.TheVariants.{Write}
use Rattle.steps.specs.Steps.{is_width}
use Rattle.steps.specs.Answers.{number_of}
use Rattle.events.specs.Events.{Event}
use Rattle.refusals.specs.Refusals.{malformed_on, program_while_halted}
use Rattle.settings.specs.Settings.{window_of, header_end, header_fits, header_place, enabled, opcodes_allowed, byte_of, with_byte, with_smhr, later_bits, locked_bits, sticky_bits, kept_bits, written}
use Rattle.config.specs.Ports.{internal, always_internal, port_read, port_write}
use Rattle.nesting.specs.Nesting.{with_n, enhanced, entered_settings, resumed_settings, nestable, takes, stays_inside}
use Rattle.header.specs.Header.{Word, word_in, size_bits, cut, header_bytes, headed, resumed}
use Rattle.header.specs.Header.Word.{NextIp, Dr7, Eflags, Cr0, CsLevel, DescriptorHigh, DescriptorLow, Flags}
use Rattle.header.specs.Entry.{entry_cr0, entry_cs, entry_registers}
use Rattle.opcodes.specs.Decode.{data_segment, grouped, operation_of}
use Rattle.machine.specs.declared.Machine.{Machine}
use Rattle.machine.specs.Machines.{reset_machine}
use Rattle.machine.specs.Outcomes.{Outcome}
use Rattle.machine.specs.Service.{entered_machine, entry, taken, passed, boundary_step, resume}
use Rattle.machine.specs.Steps.{window, permitted, valid, operation_on, saved, restored, smhr_stored, smhr_loaded, operated, with_operand, opcode_step, performed}
use Rattle.runs.specs.Runs.{Run, answers_of}
use Rattle.levels.specs.Levels.{place_of}
use Rattle.service_example.specs.Example.{before, start, smi, rsm, steps, answers, past_inner}
use Rattle.service_example.specs.Needed.{elsewhere, rerun, between, handler, cleared, save, restore, change, anew}
use Rattle.service_example.proofs.Below.{agree}
use Rattle.service_example.proofs.Quick.{quickly, quick, fast}

-- what is left of a service of a machine, and by RSM after it
abbrev pub at : Machine → List Step → Run
at m ss = fast m start smi ss

abbrev pub by_rsm : Machine → List Step → Outcome
by_rsm m ss = let r = at m ss in quickly r.machine r.memory rsm

-- the 48 bytes at a place, and the bytes in the ten cells of an operand, of two memories
abbrev pub alike : List ℕ → List ℕ → ℕ → Bool
alike g h p = agree (λ i. get_or g (p + i) 0) (λ i. get_or h (p + i) 0) 48

abbrev pub kept : Memories → Memories → Region → ℕ → Bool
kept y z w a = agree (λ t. byte_in y (cell_of w (a + t))) (λ t. byte_in z (cell_of w (a + t))) 10

abbrev pub numbers : Run → List ℕ
numbers r = map number_of (answers_of r)

abbrev pub insides : Run → List Bool
insides r = map (λ (e : Event). e.inside) r.events

-- where management memory answers: 4 KiB at 1000h, and at 2000h
abbrev pub first : Region
first = record { base = 0x1000; code = 1 }

abbrev pub second : Region
second = record { base = 0x2000; code = 1 }

-- ---- what is computed

-- of a run after entry whose RSM reads at the entry's place: the answers, and that the header is kept
pub record Returns (m : Machine) (ss : List Step) (expected : List ℕ) : Type 0 where
  pub answers : numbers (at m ss) ≡ expected
  pub resumed : number_of (by_rsm m ss).stepped.answer ≡ 12
  pub place : place_of (at m ss).machine ≡ place_of m
  pub header : alike (at m ss).memory.management (quickly m start smi).memory.management (place_of m) ≡ true

-- where all n steps begin inside
pub record Serves (m : Machine) (ss : List Step) (expected : List ℕ) (n : ℕ) : Type 0 where
  pub returns : Returns m ss expected
  pub inside : insides (at m ss) ≡ replicate n true

-- of one whose DS is looked at
pub record Ends (ss : List Step) (expected : List ℕ) (selector : ℕ) : Type 0 where
  pub answers : numbers (at before ss) ≡ expected
  pub resumed : number_of (by_rsm before ss).stepped.answer ≡ 12
  pub ds : (by_rsm before ss).stepped.machine.segments.ds.selector ≡ selector

-- a word of the header that the handler leaves which changes next IP
abbrev pub Unmoved : Word → Type 0
Unmoved w = word_in (at before rerun).memory.management 0x40 w ≡ word_in (quickly before start smi).memory.management 0x40 w

pub record Computed : Type 0 where
  pub entered : number_of (quickly before start smi).stepped.answer ≡ 11
  pub handler_entered : number_of (quickly handler start smi).stepped.answer ≡ 11
  -- the service, and the one with another in it
  pub long : Serves before steps answers 28
  pub past : Serves before past_inner (0 ∷ 0 ∷ 0 ∷ 0 ∷ 11 ∷ 0 ∷ 0 ∷ []) 7
  -- the places of entries and RSMs
  pub place : place_of before ≡ 0x40
  pub place_18 : place_of (at before (take 18 steps)).machine ≡ 0x10
  pub place_19 : place_of (at before (take 19 steps)).machine ≡ 0x10
  pub past_4 : place_of (at before (take 4 past_inner)).machine ≡ 0x10
  -- DS and ES
  pub window_0 : window (at before (take 0 steps)).machine ≡ first
  pub window_1 : window (at before (take 1 steps)).machine ≡ first
  pub window_20 : window (at before (take 20 steps)).machine ≡ first
  pub window_23 : window (at before (take 23 steps)).machine ≡ second
  pub ds : kept (at before (take 20 steps)).memory (at before (take 1 steps)).memory first 0x0ffb ≡ true
  pub es : kept (at before (take 23 steps)).memory (at before (take 2 steps)).memory first 0x1080 ≡ true
  -- the next IP that is recorded
  pub next : word_in (quickly before start smi).memory.management 0x40 NextIp ≡ 0x1002
  pub handler_next : word_in (quickly handler start smi).memory.management 0x40 NextIp ≡ 0x1002
  -- the header elsewhere, and with another next IP
  pub moved_answers : numbers (at before elsewhere) ≡ 0 ∷ 0 ∷ []
  pub moved_resumed : number_of (by_rsm before elsewhere).stepped.answer ≡ 12
  pub moved_eip : (by_rsm before elsewhere).stepped.machine.registers.eip ≡ 0
  pub moved_dr7 : (by_rsm before elsewhere).stepped.machine.registers.dr7 ≡ 0
  pub rerun_answers : numbers (at before rerun) ≡ 0 ∷ []
  pub rerun_resumed : number_of (by_rsm before rerun).stepped.answer ≡ 12
  pub rerun_place : place_of (at before rerun).machine ≡ place_of before
  pub rerun_eip : (by_rsm before rerun).stepped.machine.registers.eip ≡ 0x1000
  pub rerun_words : Unmoved Dr7 × Unmoved Eflags × Unmoved Cr0 × Unmoved CsLevel × Unmoved DescriptorHigh × Unmoved DescriptorLow × Unmoved Flags
  pub between : Returns before between (0 ∷ 0 ∷ 0 ∷ 0 ∷ 0 ∷ 0 ∷ 0 ∷ 0 ∷ 0 ∷ 0 ∷ 0 ∷ 11 ∷ 0 ∷ 0 ∷ [])
  -- the mode
  pub handler_place : place_of handler ≡ 0x40
  pub stays : Returns handler [] []
  pub leaves : Serves handler cleared (0 ∷ 0 ∷ []) 2
  pub nests : enhanced (at handler []).machine.config.settings ≡ true
  pub nests_not : enhanced (at handler cleared).machine.config.settings ≡ false
  -- DS without each of the conditions, and with them
  pub early : Ends (change ∷ save ∷ restore ∷ []) (0 ∷ 0 ∷ 0 ∷ []) 0
  pub same : Ends (save ∷ change ∷ []) (0 ∷ 0 ∷ []) 0
  pub unchanged : Ends (save ∷ Write 1 0x1088 0 ∷ restore ∷ []) (0 ∷ 0 ∷ 0 ∷ []) 0
  pub last : Ends (save ∷ restore ∷ change ∷ []) (0 ∷ 0 ∷ 0 ∷ []) 0
  pub reset : Ends (save ∷ restore ∷ anew 0x70) (0 ∷ 0 ∷ 0 ∷ 0 ∷ 0 ∷ 0 ∷ 0 ∷ 0 ∷ 0 ∷ 0 ∷ 0 ∷ 0 ∷ 0 ∷ 11 ∷ []) 0
  pub all : Ends (save ∷ change ∷ restore ∷ []) (0 ∷ 0 ∷ 0 ∷ []) 0x23

pub computed : Computed
unfolding quickly quick performed opcode_step with_operand operated smhr_loaded smhr_stored restored saved operation_on valid permitted resume boundary_step passed taken entry entered_machine operation_of grouped data_segment entry_registers entry_cs entry_cr0 resumed headed header_bytes cut size_bits stays_inside takes nestable resumed_settings entered_settings enhanced with_n port_write port_read always_internal internal written kept_bits sticky_bits locked_bits later_bits with_smhr with_byte byte_of opcodes_allowed enabled header_place header_fits header_end window_of malformed_on program_while_halted is_width writes reads store_segment segment_at store_bytes all_there absent store_byte byte_at cell_of bytes_of number_by within usable size_of region_of flat_map reset_machine
computed =
    record {
      entered = refl;
      handler_entered = refl;
      long = record { returns = record { answers = refl; resumed = refl; place = refl; header = refl }; inside = refl };
      past = record { returns = record { answers = refl; resumed = refl; place = refl; header = refl }; inside = refl };
      place = refl;
      place_18 = refl;
      place_19 = refl;
      past_4 = refl;
      window_0 = refl;
      window_1 = refl;
      window_20 = refl;
      window_23 = refl;
      ds = refl;
      es = refl;
      next = refl;
      handler_next = refl;
      moved_answers = refl;
      moved_resumed = refl;
      moved_eip = refl;
      moved_dr7 = refl;
      rerun_answers = refl;
      rerun_resumed = refl;
      rerun_place = refl;
      rerun_eip = refl;
      rerun_words = (refl, refl, refl, refl, refl, refl, refl);
      between = record { answers = refl; resumed = refl; place = refl; header = refl };
      handler_place = refl;
      stays = record { answers = refl; resumed = refl; place = refl; header = refl };
      leaves = record { returns = record { answers = refl; resumed = refl; place = refl; header = refl }; inside = refl };
      nests = refl;
      nests_not = refl;
      early = record { answers = refl; resumed = refl; ds = refl };
      same = record { answers = refl; resumed = refl; ds = refl };
      unchanged = record { answers = refl; resumed = refl; ds = refl };
      last = record { answers = refl; resumed = refl; ds = refl };
      reset = record { answers = refl; resumed = refl; ds = refl };
      all = record { answers = refl; resumed = refl; ds = refl };
    }
