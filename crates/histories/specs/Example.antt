-- A history with a call of each kind.
use Rattle.std.specs.Prelude.{List, [], ◌∷◌, ◌++◌, ℕ, replicate}
use Rattle.fields.specs.Fields.{bytes_of}
use Rattle.histories.specs.Histories.{off, History}

-- the bytes of a slot with a ceiling
abbrev pub slot_bytes : ℕ → List ℕ
slot_bytes v = 10 ∷ 0 ∷ 1 ∷ 0 ∷ bytes_of 8 v

-- a free slot with what seven stores of a raise to 9 leave in it, and the free slots after it
abbrev pub torn_bytes : ℕ → List ℕ
torn_bytes rest = 0 ∷ 0 ∷ 1 ∷ 0 ∷ 9 ∷ 0 ∷ 0 ∷ 0 ∷ 0 ∷ 0 ∷ 0 ∷ 0 ∷ replicate rest 0

-- two runs: a raise to 2, two numbers, and a raise to 9 that is cut after seven stores; a raise to 3 in the same slot, a number, a raise to 6,
-- two numbers, and a raise to 9 that is cut in the same way
abbrev pub ExampleHistory : Type 0
ExampleHistory = History (slot_bytes 2 ++ (slot_bytes 3 ++ (slot_bytes 6 ++ torn_bytes 4048))) off (0 ∷ 1 ∷ 2 ∷ 3 ∷ 4 ∷ [])
