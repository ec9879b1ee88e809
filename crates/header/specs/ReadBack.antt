-- What holds of the header's table (01, "Forty-eight bytes below the top"): where its words lie, and that RSM finds there what entry wrote.
use Rattle.std.specs.Prelude.{ℕ, ◌+◌, ◌*◌, ◌≤◌, ◌<◌, ◌^◌, ◌≡◌, List, length, get_or}
use Rattle.header.specs.declared.Registers.{Registers}
use Rattle.header.specs.declared.Saved.{Saved}
use Rattle.header.specs.Header.{header_length, Word, depth, contents, upward, headed, word_in, resumed, nested_in, with_eip}
use Rattle.header.specs.Header.Word.{Dr7}

-- The words fill the 48 bytes below the end: the k-th upward begins 4 k above the first. (Said by an addition, since a subtraction stops at 0.)
abbrev pub TableFills : Type 0
TableFills = (length upward ≡ 12) × ((k : ℕ) → k < 12 → depth (get_or upward k Dr7) + 4 * k ≡ header_length)

-- numbers of the widths that 01 gives the registers, as those of every value of the code's own types are
pub record RegistersFit (r : Registers) : Type 0 where
  pub eip : r.eip < 2 ^ 32
  pub eflags : r.eflags < 2 ^ 32
  pub cr0 : r.cr0 < 2 ^ 32
  pub dr7 : r.dr7 < 2 ^ 32
  pub selector : r.cs.selector < 2 ^ 16
  pub descriptor : r.cs.descriptor < 2 ^ 64

pub record SavedFits (s : Saved) : Type 0 where
  pub registers : RegistersFit s.registers
  pub current : s.current < 2 ^ 32
  pub next : s.next < 2 ^ 32
  pub transfer : s.trap.transfer < 2 ^ 32
  pub value : s.trap.value < 2 ^ 32
  pub index : s.trap.index < 2 ^ 32

-- every word of the table is found at its place with what it was written to hold
abbrev pub WordsReadBack : Type 0
WordsReadBack =
    (g : List ℕ) (at : ℕ) (s : Saved) → at + header_length ≤ length g → SavedFits s → (w : Word) → word_in (headed g at s) at w ≡ contents s w

-- so RSM loads the registers that entry saved, with next IP as EIP
abbrev pub RegistersReadBack : Type 0
RegistersReadBack =
    (g : List ℕ) (at : ℕ) (s : Saved) → at + header_length ≤ length g → SavedFits s
    → resumed (headed g at s) at ≡ with_eip s.registers s.next

-- and finds whether entry came from inside the mode (02, request 7)
abbrev pub NestedReadBack : Type 0
NestedReadBack =
    (g : List ℕ) (at : ℕ) (s : Saved) → at + header_length ≤ length g → SavedFits s → nested_in (headed g at s) at ≡ s.nested
