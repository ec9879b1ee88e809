-- 02, request 4: what each call answers and leaves, on any area that is lent, of any length.
use Rattle.std.specs.Prelude.{ℕ, ◌+◌, Bool, cond, not, ◌&&◌, ◌||◌, List, take, eqb, leb, ltb, Result, Ok, Err}
use Rattle.slots.specs.Area.{slot_count, well_formed, first_free, ceiling}
use Rattle.journal.specs.declared.Counter.{Counter}
use Rattle.journal.specs.declared.Refused.{Refused}
use Rattle.journal.specs.Stores.{stores, made}

abbrev pub counter : ℕ → Counter
counter n = record { next = n }

abbrev pub refused : Refused
refused = record {}

-- what a restart answers, a call for the next number, with the number handed out and the counter for the next call, and a raise
abbrev pub Started : Type 0
Started = Result Counter Refused

abbrev pub Handed : Type 0
Handed = Result (ℕ × Counter) Refused

abbrev pub Raised : Type 0
Raised = Result (Unit {0}) Refused

-- "Restart .. refuses any other area, and only that"; "After a restart numbers begin at that ceiling, or at 0 with none"
unfoldable pub restart_of : List ℕ → Started
restart_of a = cond (well_formed a) (Ok (counter (ceiling a))) (Err refused)

-- "handed out, one higher each time, exactly if the area is well formed and it is below the last ceiling there"
unfoldable pub next_of : Counter → List ℕ → Handed
next_of c a = cond (well_formed a && ltb c.next (ceiling a)) (Ok (c.next, counter (c.next + 1))) (Err refused)

-- "a value not above the present ceiling .. refused, as is a raise when all 341 slots are taken or when the area isn't well formed"
unfoldable pub refuses_raise : List ℕ → ℕ → Bool
refuses_raise a v = not (well_formed a) || eqb (first_free a) slot_count || leb v (ceiling a)

-- an answer, and the area that it leaves
pub record Left : Type 0 where
  pub answer : Raised
  pub area : List ℕ

abbrev pub left : Raised → List ℕ → Left
left r a = record { answer = r; area = a }

-- a raise; "a refusal stores nothing"
unfoldable pub raise_of : List ℕ → ℕ → Left
raise_of a v = cond (refuses_raise a v) (left (Err refused) a) (left (Ok tt) (made (stores (first_free a) v) a))

-- a raise that stops after n of its stores, as at a power cut, and answers as the whole one would; with n above eleven nothing stops it
unfoldable pub raise_part_of : List ℕ → ℕ → ℕ → Left
raise_part_of a v n = cond (refuses_raise a v) (left (Err refused) a) (left (Ok tt) (made (take n (stores (first_free a) v)) a))
