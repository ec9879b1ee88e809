-- Examples of what the theorems of this crate ask for, so that none of them speaks of nothing, and what each says of its example.
use Rattle.std.specs.Prelude.{ℕ, ◌≡◌, true, false, []}
use Rattle.memory.specs.Memory.{Memories, memories}
use Rattle.steps.specs.declared.Step.{Step}
use Rattle.steps.specs.declared.Step.TheVariants.{Boundary}
use Rattle.steps.specs.declared.Interruption.TheVariants.{None}
use Rattle.settings.specs.declared.Edition.TheVariants.{Cx486, Mii}
use Rattle.settings.specs.Settings.{with_byte, with_smhr}
use Rattle.header.specs.Header.{word_in, nested_in, with_eip}
use Rattle.header.specs.Header.Word.{Flags}
use Rattle.segments.specs.Segments.{reset_segments}
use Rattle.machine.specs.declared.Machine.{Machine}
use Rattle.machine.specs.Machines.{machine, settings_of, with_settings, reset_registers}
use Rattle.machine.specs.Outcomes.{Outcome}
use Rattle.machine.specs.Steps.{stepped}
use Rattle.isolation.specs.Service.{answer_to, OnlyHeader, Entering}
use Rattle.isolation.specs.Examples.{sample_settings, locked, filled, rsm, EntryExample}
use Rattle.levels.specs.Levels.{place_of, header_of, Stands, Moved}

-- A machine inside the mode, as a handler of the later edition's `locked` machine might be, which enters from EIP FFF0h with SMHR at 6A001h: at
-- EIP 20h, with SMM_MODE and N set, and with SMHR as given.
abbrev pub handler : ℕ → Machine
handler shr =
    machine (with_eip reset_registers 0x20) reset_segments false true false
    (record { settings = with_smhr (sample_settings Mii 0x02 0x01) shr; index = 0; armed = false })

-- a boundary with an SMI asserted
abbrev pub met : Step
met = Boundary 1 0x1000 None

-- the memories after the outer entry, and after the inner one with SMHR as given
abbrev pub after_outer : Memories
after_outer = memories [] (stepped (locked Mii) (filled 0) met).memory.management

abbrev pub after_inner : ℕ → Memories
after_inner shr = memories [] (stepped (handler shr) after_outer met).memory.management

-- what RSM leaves after a step's outcome
abbrev pub then_rsm : Outcome → Outcome
then_rsm o = stepped o.stepped.machine o.memory rsm

-- the handler with SMM_MODE 0, and SMHR where it was
abbrev pub plain : Machine
plain = with_settings (handler 0x6a001) (with_byte (settings_of (handler 0x6a001)) 0xea 0x40)

-- Two entries at one place: the second comes from inside, and after it every RSM leads to where the first has led. Its flags word has C and N.
pub record NestedExample : Type 0 where
  pub entry : EntryExample (handler 0x6a001) met
  pub origin : nested_in (stepped (handler 0x6a001) (filled 0) met).memory.management (place_of (handler 0x6a001)) ≡ true
  pub flags : word_in (stepped (handler 0x6a001) (filled 0) met).memory.management (place_of (handler 0x6a001)) Flags ≡ 0x8001
  pub outer : answer_to (locked Mii) (filled 0) met ≡ 11
  pub inner : answer_to (handler 0x6a001) after_outer met ≡ 11
  pub by : Entering (handler 0x6a001) met
  pub over : OnlyHeader (filled 0).management (after_inner 0x6a001).management (place_of (locked Mii)) (header_of (handler 0x6a001) by)
  pub first : (then_rsm (stepped (handler 0x6a001) after_outer met)).stepped.machine.inside ≡ true
  pub again : let o = then_rsm (stepped (handler 0x6a001) after_outer met) in then_rsm o ≡ o
  -- nothing nests in the 486 edition, and with SMM_MODE 0, where RSM pays no heed to N
  pub none : (stepped (locked Cx486) (filled 0) met).stepped.machine.config ≡ (locked Cx486).config
  pub leaves : let n = (stepped plain (after_inner 0x6a001) rsm).stepped.machine in (n.inside ≡ false) × (n.config ≡ plain.config)

-- Two entries with SMHR moved to the place given: RSM right after the inner one is back in the handler, and RSM with SMHR back where it was is
-- outside, where the outer one came from.
pub record MovedExample (shr : ℕ) (outer : Entering (locked Mii) met) : Type 0 where
  pub second : answer_to (handler shr) after_outer met ≡ 11
  pub moved : Moved (locked Mii) (handler shr)
  pub by : Entering (handler shr) met
  pub both : let g = (after_inner shr).management in
      Stands g (place_of (locked Mii)) (header_of (locked Mii) outer) × Stands g (place_of (handler shr)) (header_of (handler shr) by)
  pub back : let n = (then_rsm (stepped (handler shr) after_outer met)).stepped.machine in (n.inside ≡ true) × (n.registers.eip ≡ 0x20)
  pub out : let n = (stepped (handler 0x6a001) (after_inner shr) rsm).stepped.machine in (n.inside ≡ false) × (n.registers.eip ≡ 0xfff0)

-- it is moved down by just 48, to 69FD1h, or up by as much, to 6A031h
pub record LevelsExample : Type 0 where
  pub first : answer_to (locked Mii) (filled 0) met ≡ 11
  pub outer : Entering (locked Mii) met
  pub down : MovedExample 0x69fd1 outer
  pub up : MovedExample 0x6a031 outer
