-- What happens without each of the conditions on the header and on the saved bytes, and what is then still so. (The others of specs/NoMark of service
-- are not needed: specs/Back there.)
use Rattle.std.specs.Prelude.{ℕ, ◌≡◌, true, false, List, [], ◌∷◌, ◌++◌, map}
use Rattle.steps.specs.declared.Step.{Step}
use Rattle.steps.specs.declared.Step.TheVariants.{Reset, Write, PortWrite, Opcode}
use Rattle.steps.specs.Answers.{number_of}
use Rattle.header.specs.Header.{with_eip}
use Rattle.machine.specs.declared.Machine.{Machine}
use Rattle.machine.specs.Machines.{machine}
use Rattle.runs.specs.Runs.{answers_of}
use Rattle.isolation.specs.Widths.{MachineFits}
use Rattle.service.specs.NoMark.{serviced, answer_after, Service}
use Rattle.service_example.specs.Example.{before, start, smi, rsm, after}

-- all steps are answered as said, and RSM after them is "resumed"
abbrev pub Resumes : Machine → List Step → List ℕ → Type 0
Resumes m ss answers =
    (map number_of (answers_of (serviced m start smi ss)) ≡ answers) × (answer_after (serviced m start smi ss) rsm ≡ 12)

-- ---- the header

-- SMHR is moved down, and all stands where it stood
abbrev pub elsewhere : List Step
elsewhere = PortWrite 0x22 0xb0 ∷ PortWrite 0x23 0x40 ∷ []

-- next IP in the header is set to the address of the instruction that was met, so that it runs again
abbrev pub rerun : List Step
rerun = Write 4 0x105c 0x1000 ∷ []

-- a reset, the settings again with the given low byte of SMHR, and an entry
abbrev pub anew : ℕ → List Step
anew smhr0 =
    Reset
    ∷ PortWrite 0x22 0xcf
    ∷ PortWrite 0x23 0x11
    ∷ PortWrite 0x22 0xc3
    ∷ PortWrite 0x23 0x10
    ∷ PortWrite 0x22 0xb0
    ∷ PortWrite 0x23 smhr0
    ∷ PortWrite 0x22 0xb1
    ∷ PortWrite 0x23 0x10
    ∷ PortWrite 0x22 0xc1
    ∷ PortWrite 0x23 0x02
    ∷ smi
    ∷ []

-- an entry at another place after a reset, whose handler moves SMHR to 1070h
abbrev pub between : List Step
between = anew 0x40 ++ (PortWrite 0x22 0xb0 ∷ PortWrite 0x23 0x70 ∷ [])

pub record HeaderExample : Type 0 where
  -- at another place RSM finds zeros: EIP is 0, and not 1002h, and DR7 is 0
  pub place : Resumes before elsewhere (0 ∷ 0 ∷ []) × ((after before elsewhere).registers.eip ≡ 0) × ((after before elsewhere).registers.dr7 ≡ 0)
  -- with next IP changed EIP is that, and all else that RSM loads from the header is as before entry
  pub bytes : Resumes before rerun (0 ∷ []) × ((after before rerun).registers ≡ with_eip before.registers 0x1000)
  -- with the header kept it makes no difference that there was a reset, that steps began outside, and that another service is left unfinished
  pub kept : Resumes before between (0 ∷ 0 ∷ 0 ∷ 0 ∷ 0 ∷ 0 ∷ 0 ∷ 0 ∷ 0 ∷ 0 ∷ 0 ∷ 11 ∷ 0 ∷ 0 ∷ []) × ((after before between).registers ≡ before.registers)

-- ---- the mode

-- a handler that may be interrupted, at level 3
abbrev pub handler : Machine
handler = machine before.registers before.segments false true false before.config

-- SMM_MODE is cleared
abbrev pub cleared : List Step
cleared = PortWrite 0x22 0xea ∷ PortWrite 0x23 0x40 ∷ []

-- RSM of an entry from inside is back inside, and with SMM_MODE cleared it is outside, with the registers of the handler
pub record ModeExample : Type 0 where
  pub machine : MachineFits handler
  pub service : Service handler start smi cleared rsm
  pub stays : Resumes handler [] [] × ((after handler []).inside ≡ true) × ((after handler []).registers ≡ handler.registers)
  pub leaves : Resumes handler cleared (0 ∷ 0 ∷ []) × ((after handler cleared).inside ≡ false) × ((after handler cleared).registers ≡ handler.registers)

-- ---- the segment registers

abbrev pub save : Step
save = Opcode 0x78 0x18 0x1080 0

abbrev pub restore : Step
restore = Opcode 0x79 0x18 0x1080 0

-- DS from ten bytes that are zero
abbrev pub change : Step
change = Opcode 0x79 0x18 0x1100 0

-- DS has selector 0 after RSM, and not 23h
abbrev pub Lost : List Step → List ℕ → Type 0
Lost ss answers = Resumes before ss answers × ((after before ss).segments.ds.selector ≡ 0)

pub record SegmentsExample : Type 0 where
  -- it is saved after it was changed
  pub early : Lost (change ∷ save ∷ restore ∷ []) (0 ∷ 0 ∷ 0 ∷ [])
  -- it is restored from other bytes than those that it was saved to
  pub same : Lost (save ∷ change ∷ []) (0 ∷ 0 ∷ [])
  -- one of these is changed between
  pub unchanged : Lost (save ∷ Write 1 0x1088 0 ∷ restore ∷ []) (0 ∷ 0 ∷ 0 ∷ [])
  -- it is changed after it was restored, by another restore, or by a reset
  pub last : Lost (save ∷ restore ∷ change ∷ []) (0 ∷ 0 ∷ 0 ∷ [])
  pub reset : Lost (save ∷ restore ∷ anew 0x70) (0 ∷ 0 ∷ 0 ∷ 0 ∷ 0 ∷ 0 ∷ 0 ∷ 0 ∷ 0 ∷ 0 ∷ 0 ∷ 0 ∷ 0 ∷ 11 ∷ [])
  -- and with none of that it is 23h
  pub kept : Resumes before (save ∷ change ∷ restore ∷ []) (0 ∷ 0 ∷ 0 ∷ []) × ((after before (save ∷ change ∷ restore ∷ [])).segments.ds.selector ≡ 0x23)
