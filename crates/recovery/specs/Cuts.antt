-- 02, request 4: what a raise leaves to a restart, whole or cut by the loss of power, on any well-formed area, whoever wrote it.
use Rattle.std.specs.Prelude.{◌≡◌, cond, List, ℕ, ltb, Ok, Err}
use Rattle.slots.specs.Area.{ceiling}
use Rattle.journal.specs.Stores.{store_count}
use Rattle.journal.specs.Answers.{Raised, counter, restart_of, raise_of, raise_part_of}

-- a restart is accepted on an area, and numbers begin at this ceiling
abbrev pub Finds : List ℕ → ℕ → Type 0
Finds a v = restart_of a ≡ Ok (counter v)

-- "the ceiling found is the old or the new one, and the new one once the raise is done": by what the raise answers and how many of its stores
-- are made, the old one before the eleventh, and then the new one; the old one where it is refused
abbrev pub found_after : Raised → ℕ → ℕ → ℕ → ℕ
found_after (Ok d) old new n = cond (ltb n store_count) old new
found_after (Err r) old new n = old

-- a raise to v on area a, cut after any number of stores, and whole
pub record SurvivesCuts (a : List ℕ) (v : ℕ) : Type 0 where
  pub cut : (n : ℕ) → Finds (raise_part_of a v n).area (found_after (raise_part_of a v n).answer (ceiling a) v n)
  pub whole : Finds (raise_of a v).area (found_after (raise_of a v).answer (ceiling a) v store_count)
