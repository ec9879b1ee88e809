-- 01, "Boundary" and "Trace player", and 02, request 5: what the record of a boundary says, kind 8.
use Rattle.std.specs.Prelude.{ℕ, ◌≡◌, Bool, true, false, cond, ◌&&◌, ◌||◌, List, [], ◌∷◌, ◌++◌, length, slice_get, eqb, Option, option_map, unwrap_or}
use Rattle.fields.specs.Fields.{field_at, bytes_of}
use Rattle.steps.specs.declared.Transfer.{Transfer}
use Rattle.steps.specs.declared.Interruption.{Interruption}
use Rattle.steps.specs.declared.Interruption.TheVariants.{None, Input, Output, StringInput, StringOutput, RepInput, RepOutput}
use Rattle.steps.specs.declared.Step.{Step}
use Rattle.steps.specs.declared.Step.TheVariants.{Boundary, MalformedBoundary}
use Rattle.steps.specs.Widths.{StepFits}

-- The fields of a body: SMI 1 byte, current address 4, interruption 1, port 2, size 1, data 4, index 4; 17 bytes in all. Each is given by its first
-- byte's place and its number of bytes.
abbrev pub boundary_size : ℕ
boundary_size = 17

abbrev pub smi_in : List ℕ → ℕ
smi_in b = field_at b 0 1

abbrev pub current_in : List ℕ → ℕ
current_in b = field_at b 1 4

abbrev pub code_in : List ℕ → ℕ
code_in b = field_at b 5 1

abbrev pub transfer : ℕ → ℕ → ℕ → Transfer
transfer port size value = record { port = port; size = size; value = value }

abbrev pub transfer_in : List ℕ → Transfer
transfer_in b = transfer (field_at b 6 2) (field_at b 8 1) (field_at b 9 4)

abbrev pub index_in : List ℕ → ℕ
index_in b = field_at b 13 4

-- the seven interruptions in the order of their codes, from an output's fields and from ESI or EDI
abbrev pub interruptions : Transfer → ℕ → List Interruption
interruptions t i = None ∷ Input ∷ Output t ∷ StringInput i ∷ StringOutput t i ∷ RepInput i ∷ RepOutput t i ∷ []

-- the one of a code, if it has one: the codes are 0 to 6
unfoldable pub interruption_of : ℕ → Transfer → ℕ → Option Interruption
interruption_of code t i = slice_get (interruptions t i) code

-- an output, which uses port, size and data
abbrev pub is_output : Interruption → Bool
is_output None = false
is_output Input = false
is_output (Output t) = true
is_output (StringInput i) = false
is_output (StringOutput t i) = true
is_output (RepInput i) = false
is_output (RepOutput t i) = true

-- a string form, REP or not, which uses the index
abbrev pub is_string : Interruption → Bool
is_string None = false
is_string Input = false
is_string (Output t) = false
is_string (StringInput i) = true
is_string (StringOutput t i) = true
is_string (RepInput i) = true
is_string (RepOutput t i) = true

-- 02, request 5: port, size and data are zero without an output, and the index without a string form
unfoldable pub unused_zero : Interruption → Transfer → ℕ → Bool
unused_zero x t index = (is_output x || (eqb t.port 0 && eqb t.size 0 && eqb t.value 0)) && (is_string x || eqb index 0)

-- What a body says. It is malformed if its code names none of the seven, or if a field that its interruption doesn't use is not zero; 01 has such
-- fields ignored, and 02 replaces that. The current address may be any. SMI and an output's size are judged of the step (steps/specs/Steps,
-- `malformed`).
unfoldable pub boundary_of : List ℕ → Step
boundary_of b =
    unwrap_or
    (option_map
    (λ x. cond (unused_zero x (transfer_in b) (index_in b)) (Boundary (smi_in b) (current_in b) x) MalformedBoundary)
    (interruption_of (code_in b) (transfer_in b) (index_in b)))
    MalformedBoundary

-- The other way, the body of a boundary: its seven fields one after the other. Those that its interruption doesn't use are zero.
abbrev pub body_with : ℕ → ℕ → ℕ → Transfer → ℕ → List ℕ
body_with smi current code t index =
    bytes_of 1 smi ++ (bytes_of 4 current ++ (bytes_of 1 code
    ++ (bytes_of 2 t.port ++ (bytes_of 1 t.size ++ (bytes_of 4 t.value ++ bytes_of 4 index)))))

unfoldable pub body_of : ℕ → ℕ → Interruption → List ℕ
body_of smi current None = body_with smi current 0 (transfer 0 0 0) 0
body_of smi current Input = body_with smi current 1 (transfer 0 0 0) 0
body_of smi current (Output t) = body_with smi current 2 t 0
body_of smi current (StringInput i) = body_with smi current 3 (transfer 0 0 0) i
body_of smi current (StringOutput t i) = body_with smi current 4 t i
body_of smi current (RepInput i) = body_with smi current 5 (transfer 0 0 0) i
body_of smi current (RepOutput t i) = body_with smi current 6 t i

-- Every boundary whose numbers have their widths has a record, which says it.
abbrev pub Recordable : Type 0
Recordable = (smi current : ℕ) (x : Interruption) → StepFits (Boundary smi current x) → boundary_of (body_of smi current x) ≡ Boundary smi current x

-- It has no other: a body that says a boundary is that boundary's, byte for byte, and so holds no junk.
abbrev pub Canonical : List ℕ → Type 0
Canonical b = (smi current : ℕ) (x : Interruption) → length b ≡ boundary_size → boundary_of b ≡ Boundary smi current x → b ≡ body_of smi current x
