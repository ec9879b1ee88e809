-- 01, "What the machine holds" and "Routing": the two memories, which byte of which of them an address names, and what is read and stored.
-- A window is the region whose bytes management memory answers. One of code 0 has no address, so that every byte is main memory's.
use Rattle.std.specs.Prelude.{ℕ, zero, suc, ◌+◌, ◌-◌, Bool, true, cond, not, ◌&&◌, ◌||◌, List, [], ◌∷◌, length, get_or, set, leb, ltb}
use Rattle.region.specs.Region.{within}
use Rattle.region.specs.declared.Region.{Region}
use Rattle.memory.specs.declared.Segment.{Segment}
use Rattle.fields.specs.Fields.{number_by, bytes_of}
use Rattle.steps.specs.declared.Answer.{Answer}
use Rattle.steps.specs.declared.Answer.TheVariants.{Done, Value, Absent}

abbrev pub segment : ℕ → ℕ → Segment
segment selector descriptor = record { selector = selector; descriptor = descriptor }

pub record Memories : Type 0 where
  pub main : List ℕ
  pub management : List ℕ

abbrev pub memories : List ℕ → List ℕ → Memories
memories a b = record { main = a; management = b }

-- a byte of one of the two, by its number there
pub data Cell : Type 0 where
  InMain InManagement : ℕ → Cell

-- The cell that an address names: in management memory by its distance from the region's base, in main memory by the address itself.
unfoldable pub cell_of : Region → ℕ → Cell
cell_of w a = cond (within w a) (Cell.InManagement (a - w.base)) (Cell.InMain a)

-- Past a memory's end a byte reads 0, and a store is dropped.
abbrev pub byte_in : Memories → Cell → ℕ
byte_in x (Cell.InMain k) = get_or x.main k 0
byte_in x (Cell.InManagement k) = get_or x.management k 0

abbrev pub store_in : Memories → Cell → ℕ → Memories
store_in x (Cell.InMain k) b = memories (set x.main k b) x.management
store_in x (Cell.InManagement k) b = memories x.main (set x.management k b)

unfoldable pub byte_at : Region → Memories → ℕ → ℕ
byte_at w x a = byte_in x (cell_of w a)

unfoldable pub store_byte : Region → Memories → ℕ → ℕ → Memories
store_byte w x a b = store_in x (cell_of w a) b

-- Answer 5, of one byte: its address is above FFFFFFFFh, or outside the window and not below end, which is main memory's length.
unfoldable pub absent : Region → ℕ → ℕ → Bool
absent w end a = ltb 0xffffffff a || (not (within w a) && leb end a)

-- none of count bytes from a on is absent
unfoldable pub all_there : Region → ℕ → ℕ → ℕ → Bool
all_there w end a zero = true
all_there w end a (suc count) = not (absent w end a) && all_there w end (a + 1) count

-- the little-endian number in count bytes from a on
abbrev pub load : Region → Memories → ℕ → ℕ → ℕ
load w x a count = number_by (byte_at w x) a count

-- the memories with some bytes stored from a on
unfoldable pub store_bytes : Region → Memories → ℕ → List ℕ → Memories
store_bytes w x a [] = x
store_bytes w x a (b ∷ bs) = store_bytes w (store_byte w x a b) (a + 1) bs

-- with the count low bytes of v
abbrev pub store : Region → Memories → ℕ → ℕ → ℕ → Memories
store w x a count v = store_bytes w x a (bytes_of count v)

-- 01, "Opcode": a segment's ten bytes, a descriptor's eight and then a selector's two
unfoldable pub segment_at : Region → Memories → ℕ → Segment
segment_at w x a = segment (load w x (a + 8) 2) (load w x a 8)

unfoldable pub store_segment : Region → Memories → ℕ → Segment → Memories
store_segment w x a s = store w (store w x a 8 s.descriptor) (a + 8) 2 s.selector

-- 01, "Data read or write": an access is made where all its bytes are there, and else nothing is read or written

abbrev pub there : Region → Memories → ℕ → ℕ → Bool
there w x a count = all_there w (length x.main) a count

unfoldable pub reads : Region → Memories → ℕ → ℕ → Answer
reads w x a count = cond (there w x a count) (Value (load w x a count)) Absent

-- what a write leaves: its answer, and the memories
pub record Reached : Type 0 where
  pub answer : Answer
  pub memory : Memories

abbrev pub reaches : Answer → Memories → Reached
reaches a x = record { answer = a; memory = x }

unfoldable pub writes : Region → Memories → ℕ → ℕ → ℕ → Reached
writes w x a count v = cond (there w x a count) (reaches Done (store w x a count v)) (reaches Absent x)
