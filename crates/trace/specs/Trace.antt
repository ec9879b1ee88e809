-- 01, "Trace player", and 02, request 6: the records of a trace, and what stands at a place of it.
use Rattle.std.specs.Prelude.{ℕ, ◌+◌, ◌-◌, ◌≡◌, Bool, true, false, cond, not, ◌&&◌, ◌||◌, List, [], ◌∷◌, length, get_or, take, drop, leb, ltb, eqb, Result, Ok, Err, MatchResult}
use Rattle.fields.specs.Fields.{field_at}
use Rattle.steps.specs.declared.Step.{Step}
use Rattle.steps.specs.declared.Step.TheVariants.{Reset, Registers, Read, Write, PortRead, PortWrite, Opcode, Halt, Wake}
use Rattle.steps.specs.Steps.{kind_of}
use Rattle.boundaries.specs.Boundaries.{boundary_size, boundary_of}
use Rattle.trace.specs.declared.Found.{Found}
use Rattle.trace.specs.declared.Found.TheVariants.{Record, Group}
use Rattle.trace.specs.declared.Group as declared
use Rattle.trace.specs.declared.Ending.{Ending}
use Rattle.trace.specs.declared.Ending.TheVariants.{End, Torn, Bad}
use Rattle.trace.specs.declared.Frame.{Frame}
use Rattle.trace.specs.declared.RecordKind.{RecordKind}
use Rattle.trace.specs.declared.RecordKind.TheVariants as code

-- A record: its length in two bytes, which counts what follows, its kind in two bytes, and its body.
abbrev pub length_at : List ℕ → ℕ → ℕ
length_at l at = field_at l at 2

abbrev pub kind_at : List ℕ → ℕ → ℕ
kind_at l at = field_at l (at + 2) 2

-- the place past it
abbrev pub past_at : List ℕ → ℕ → ℕ
past_at l at = at + 2 + length_at l at

-- the bytes from a place up to another
abbrev pub part : List ℕ → ℕ → ℕ → List ℕ
part l start next = take (next - start) (drop start l)

-- The steps of the kinds, from their bodies. A field is given by its first byte's place in the body and its number of bytes.
-- kind 2
abbrev pub registers_of : List ℕ → Step
registers_of b =
    Registers (field_at b 0 4) (field_at b 4 4) (field_at b 8 4) (field_at b 12 4)
    (field_at b 16 2) (field_at b 18 8) (field_at b 26 1) (field_at b 27 1)

-- a kind of record: its number, the length of its body, and the step that a body of that length says
pub record Kind : Type 0 where
  pub number : ℕ
  pub size : ℕ
  pub step : List ℕ → Step

abbrev pub kind : ℕ → ℕ → (List ℕ → Step) → Kind
kind number size step = record { number = number; size = size; step = step }

-- the ten kinds
abbrev pub kinds : List Kind
kinds =
    kind 1 0 (λ b. Reset)
    ∷ kind 2 28 registers_of
    ∷ kind 3 5 (λ b. Read (field_at b 0 1) (field_at b 1 4))
    ∷ kind 4 9 (λ b. Write (field_at b 0 1) (field_at b 1 4) (field_at b 5 4))
    ∷ kind 5 2 (λ b. PortRead (field_at b 0 2))
    ∷ kind 6 3 (λ b. PortWrite (field_at b 0 2) (field_at b 2 1))
    ∷ kind 7 10 (λ b. Opcode (field_at b 0 1) (field_at b 1 1) (field_at b 2 4) (field_at b 6 4))
    ∷ kind 8 boundary_size boundary_of
    ∷ kind 9 0 (λ b. Halt)
    ∷ kind 10 0 (λ b. Wake)
    ∷ []

-- the record of a kind and a body; it is bad where no kind has that number, or its body another length
unfoldable pub record_by : List Kind → ℕ → List ℕ → ℕ → Result (Found Step) Ending
record_by [] number b next = Err Bad
record_by (k ∷ ks) number b next =
    cond (eqb number k.number)
    (cond (eqb (length b) k.size) (Ok (Record (k.step b) next)) (Err Bad))
    (record_by ks number b next)

unfoldable pub record_of : ℕ → List ℕ → ℕ → Result (Found Step) Ending
record_of number b next = record_by kinds number b next

-- whether a kind has this number, and its body this size
unfoldable pub is_kind_by : List Kind → ℕ → ℕ → Bool
is_kind_by [] number size = false
is_kind_by (k ∷ ks) number size = cond (eqb number k.number) (eqb size k.size) (is_kind_by ks number size)

unfoldable pub is_kind : ℕ → ℕ → Bool
is_kind number size = is_kind_by kinds number size

-- the kinds as the code names them, by their numbers in that list
abbrev pub number_of : RecordKind → ℕ
number_of code.Reset = 1
number_of code.Registers = 2
number_of code.Read = 3
number_of code.Write = 4
number_of code.PortRead = 5
number_of code.PortWrite = 6
number_of code.Opcode = 7
number_of code.Boundary = 8
number_of code.Halt = 9
number_of code.Wake = 10

-- and what the list says of them
abbrev pub kind_by : List Kind → ℕ → Kind
kind_by [] number = kind 0 0 (λ b. Reset)
kind_by (k ∷ ks) number = cond (eqb number k.number) k (kind_by ks number)

abbrev pub said : RecordKind → Kind
said k = kind_by kinds (number_of k)

-- the kind with a number, where its body has this size
abbrev pub Sized : ℕ → ℕ → Result RecordKind Ending → Type 0
Sized number size r = MatchResult r (λ k. (number_of k ≡ number) × ((said k).size ≡ size)) (λ e. (e ≡ Bad) × (is_kind number size ≡ false))

-- Request 6: kind 16 is a group. Its body is a count in two bytes and a list of records, which takes the rest. It is bad where the count is
-- missing or 0, or the list is empty.
abbrev pub group_kind : ℕ
group_kind = 16

abbrev pub group : ℕ → ℕ → ℕ → declared.Group
group count start next = record { count = count; start = start; next = next }

unfoldable pub group_of : {S : Type 0} → List ℕ → ℕ → ℕ → Result (Found S) Ending
group_of l start next =
    cond (leb (next - start) 2 || eqb (field_at l start 2) 0) (Err Bad) (Ok (Group (group (field_at l start 2) (start + 2) next)))

-- no bytes are left
abbrev pub ended : List ℕ → ℕ → Bool
ended l at = leb (length l) at

-- too few bytes are left for the length, or for what it counts
abbrev pub torn : List ℕ → ℕ → Bool
torn l at = ltb (length l) (at + 2) || ltb (length l) (past_at l at)

-- the length has no room for the kind
abbrev pub short : List ℕ → ℕ → Bool
short l at = ltb (length_at l at) 2

-- a record's or a group's kind, the place of its body and the place past it
abbrev pub frame : ℕ → ℕ → ℕ → Frame
frame kind start next = record { kind = kind; start = start; next = next }

-- by the first of these tests that holds
unfoldable pub frame_at : List ℕ → ℕ → Result Frame Ending
frame_at l at = cond (ended l at) (Err End) (cond (torn l at) (Err Torn) (cond (short l at) (Err Bad) (Ok (frame (kind_at l at) (at + 4) (past_at l at)))))

-- what stands at a place
unfoldable pub framed : List ℕ → Result Frame Ending → Result (Found Step) Ending
framed l (Ok f) = cond (eqb f.kind group_kind) (group_of l f.start f.next) (record_of f.kind (part l f.start f.next) f.next)
framed l (Err e) = Err e

unfoldable pub found_at : List ℕ → ℕ → Result (Found Step) Ending
found_at l at = framed l (frame_at l at)

-- the same for those who only pass over it
unfoldable pub passed : Result (Found Step) Ending → Result (Found Unit) Ending
passed (Ok (Record step next)) = Ok (Record tt next)
passed (Ok (Group g)) = Ok (Group g)
passed (Err e) = Err e

-- a record's kind is the one that `kind_of` gives its step
abbrev pub KindsAgree : Type 0
KindsAgree = (number next past : ℕ) (b : List ℕ) (s : Step) → record_of number b next ≡ Ok (Record s past) → kind_of s ≡ number

-- 01's list of the kinds a second time, by numbers alone: the sizes of the bodies of kinds 1 to 10, in their order
abbrev pub body_sizes : List ℕ
body_sizes = 0 ∷ 28 ∷ 5 ∷ 9 ∷ 2 ∷ 3 ∷ 10 ∷ 17 ∷ 0 ∷ 0 ∷ []

-- whether it has a kind of this number and size
unfoldable pub listed : ℕ → ℕ → Bool
listed number size = leb 1 number && leb number 10 && eqb size (get_or body_sizes (number - 1) 0)

-- the kind of a record that was found, by its step; 0, which is no kind, where no record was
unfoldable pub found_kind : Result (Found Step) Ending → ℕ
found_kind (Ok (Record step next)) = kind_of step
found_kind (Ok (Group g)) = 0
found_kind (Err e) = 0

-- Request 6 a second time, by numbers alone: a group stands where all that its length counts is there, with five bytes at the least, kind 16, and
-- a count other than 0; and nowhere else
unfoldable pub group_stands : List ℕ → ℕ → Bool
group_stands l at =
    let n = field_at l at 2 in
    leb (at + 2 + n) (length l) && (leb 5 n && eqb (field_at l (at + 2) 2) 16 && not (eqb (field_at l (at + 4) 2) 0))

-- whether a group was found
unfoldable pub is_group : Result (Found Step) Ending → Bool
is_group (Ok (Record step next)) = false
is_group (Ok (Group g)) = true
is_group (Err e) = false
