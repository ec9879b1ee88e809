-- 02, request 4, for callers in C: the results of the calls, and what stands behind each pointer afterwards. A refusal leaves that as it was.
use Rattle.std.specs.Prelude.{ℕ, Ok, Err}
use Rattle.journal.specs.Answers.{Started, Handed, Raised}

-- the two results
abbrev pub done : ℕ
done = 0

abbrev pub refused : ℕ
refused = 1

-- a restart (02, request 4): its result, and the next number, which a refusal leaves as it was
abbrev pub started_result : Started → ℕ
started_result (Ok c) = done
started_result (Err e) = refused

abbrev pub started_next : Started → ℕ → ℕ
started_next (Ok c) next = c.next
started_next (Err e) next = next

-- the next number (02, request 4): the result, the number after it, and the number handed out; a refusal leaves both as they were
abbrev pub handed_result : Handed → ℕ
handed_result (Ok (n, c)) = done
handed_result (Err e) = refused

abbrev pub handed_next : Handed → ℕ → ℕ
handed_next (Ok (n, c)) next = c.next
handed_next (Err e) next = next

abbrev pub handed_number : Handed → ℕ → ℕ
handed_number (Ok (n, c)) number = n
handed_number (Err e) number = number

-- a raise (02, request 4), whole or in part; the area is that of `raise_of` and `raise_part_of`
abbrev pub raised_result : Raised → ℕ
raised_result (Ok d) = done
raised_result (Err e) = refused
