-- Two loads of firmware that differ in one secret byte, from reset in either edition, and a trace that goes on after them: what `SameAfter` asks for,
-- and what it says of the two texts.
use Rattle.std.specs.Prelude.{ℕ, ◌≡◌, Bool, false, List, [], ◌∷◌, ◌++◌, length, replicate, set}
use Rattle.settings.specs.declared.Settings.{Settings}
use Rattle.settings.specs.declared.Edition.{Edition}
use Rattle.settings.specs.declared.Edition.TheVariants.{Cx486, Mii}
use Rattle.segments.specs.Segments.{reset_segments}
use Rattle.machine.specs.declared.Machine.{Machine}
use Rattle.machine.specs.Machines.{machine, reset_registers, reset_machine}
use Rattle.scripts.specs.Scripts.{script_of}
use Rattle.player.specs.Output.{zero_memories}
use Rattle.isolation.specs.Isolation.{Start, NoReset}
use Rattle.replays.specs.Texts.{entered_line, through_entered, Alike, text_after, Leads}

-- two records: the index to port 22h, and the byte to port 23h
abbrev pub configures : ℕ → ℕ → List ℕ
configures index v = 5 ∷ 0 ∷ 6 ∷ 0 ∷ 0x22 ∷ 0 ∷ index ∷ 5 ∷ 0 ∷ 6 ∷ 0 ∷ 0x23 ∷ 0 ∷ v ∷ []

-- SMAR 000001h, which is 4 KiB at 0; USE_SMI and SMAC; the secret at 0, in management memory; SMAC off again; the lock
unfoldable pub firmware : ℕ → List ℕ
firmware secret =
    configures 0xcf 0x01 ++ (configures 0xc1 0x06
    ++ (11 ∷ 0 ∷ 4 ∷ 0 ∷ 1 ∷ 0 ∷ 0 ∷ 0 ∷ 0 ∷ secret ∷ 0 ∷ 0 ∷ 0 ∷ (configures 0xc1 0x02 ++ configures 0xc3 0x01)))

-- the machine that it leaves
abbrev pub settings : Edition → ℕ → ℕ → ℕ → Settings
settings e ccr1 ccr3 low = record {
  edition = e;
  ccr1 = ccr1;
  ccr3 = ccr3;
  high = 0;
  middle = 0;
  low = low;
  ccr6 = 0;
  smhr0 = 0;
  smhr1 = 0;
  smhr2 = 0;
  smhr3 = 0;
}

abbrev pub machine_with : Settings → ℕ → Bool → Machine
machine_with s index armed =
    machine reset_registers reset_segments false false false (record { settings = s; index = index; armed = armed })

abbrev pub loaded : Edition → Machine
loaded e = machine_with (settings e 0x02 0x01 0x01) 0xc3 false

-- then a read of the byte at 0, an SMI, and the same read
abbrev pub reading : List ℕ
reading = 7 ∷ 0 ∷ 3 ∷ 0 ∷ 1 ∷ 0 ∷ 0 ∷ 0 ∷ 0 ∷ []

unfoldable pub trying : List ℕ
trying = reading ++ (19 ∷ 0 ∷ 8 ∷ 0 ∷ 1 ∷ 0 ∷ 0 ∷ 0 ∷ 0 ∷ 0 ∷ 0 ∷ 0 ∷ 0 ∷ 0 ∷ 0 ∷ 0 ∷ 0 ∷ 0 ∷ 0 ∷ 0 ∷ 0 ∷ reading)

-- the line of an answer's digit, with no value
abbrev pub line_with : ℕ → List ℕ
line_with digit = digit ∷ 0x20 ∷ 0x30 ∷ 0x30 ∷ 0x30 ∷ 0x30 ∷ 0x30 ∷ 0x30 ∷ 0x30 ∷ 0x30 ∷ 0x0a ∷ []

-- management memory with the secret, and what is printed after the load
abbrev pub holding : ℕ → List ℕ
holding secret = set (replicate 65536 0) 0 secret

abbrev pub printed : Edition → ℕ → List ℕ
printed e secret = text_after (reset_machine e) zero_memories (firmware secret) trying

pub record FirmwareExample (e : Edition) : Type 0 where
  pub first : Leads (reset_machine e) zero_memories (firmware 0x41) (loaded e) (replicate 65536 0) (holding 0x41)
  pub second : Leads (reset_machine e) zero_memories (firmware 0x42) (loaded e) (replicate 65536 0) (holding 0x42)
  pub records : length (script_of (firmware 0x41)).steps ≡ length (script_of (firmware 0x42)).steps
  pub start : Start (loaded e)
  pub sizes : length (holding 0x41) ≡ length (holding 0x42)
  pub none : NoReset (script_of trying).steps
  -- so the two texts are alike
  pub alike : Alike (printed e 0x41) (printed e 0x42)

-- The first read is main memory's byte, "6 00000000". The 486 edition then enters, with either secret. The later one has no header place, so it
-- ignores the SMI, "9 00000000", and its two texts are the same.
pub record FirmwareTexts : Type 0 where
  pub enters : through_entered (printed Cx486 0x41) ≡ line_with 0x36 ++ entered_line
  pub enters_too : through_entered (printed Cx486 0x42) ≡ line_with 0x36 ++ entered_line
  pub passes : printed Mii 0x41 ≡ line_with 0x36 ++ (line_with 0x39 ++ (line_with 0x36 ++ (0x65 ∷ 0x6e ∷ 0x64 ∷ 0x0a ∷ [])))
  pub passes_too : printed Mii 0x42 ≡ printed Mii 0x41
