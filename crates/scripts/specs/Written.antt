-- 02, request 6: a group reads as its list written out in full.
use Rattle.std.specs.Prelude.{◌≡◌, ℕ, zero, suc, ◌+◌, ◌<◌, true, List, [], ◌∷◌, ◌++◌, length}
use Rattle.fields.specs.Fields.{bytes_of}
use Rattle.steps.specs.declared.Step.TheVariants.{Wake}
use Rattle.trace.specs.Trace.{group_kind}
use Rattle.lines.specs.declared.Reason.TheVariants as why
use Rattle.scripts.specs.Scripts.{group_levels, is_end, stops, joins, rest, within, whole}
use Rattle.scripts.specs.Former.{one_wake}

-- the bytes of a list, as often as a count says
unfoldable pub copies : ℕ → List ℕ → List ℕ
copies zero l = []
copies (suc n) l = l ++ copies n l

-- the bytes of a group: its length, its kind, its count, and its list
unfoldable pub group_bytes : ℕ → List ℕ → List ℕ
group_bytes count l = bytes_of 2 (length l + 4) ++ bytes_of 2 group_kind ++ bytes_of 2 count ++ l

-- a list that reads to its end, and then another: the steps of both
abbrev pub Concatenates : Type 0
Concatenates = (d : ℕ) (p q : List ℕ) → is_end (rest (within d) p 0).reason ≡ true
    → rest (within d) (p ++ q) 0 ≡ joins (rest (within d) p 0).steps (rest (within d) q 0)

-- A sound group, after what reads to its end and before anything else, reads as its list written out.
abbrev pub WrittenOut : Type 0
WrittenOut = (count : ℕ) (p l q : List ℕ) → 0 < count → count < 65536 → 0 < length l → length l + 4 < 65536
    → is_end (whole p).reason ≡ true → is_end (within group_levels l).reason ≡ true
    → whole (p ++ group_bytes count l ++ q) ≡ whole (p ++ copies count l ++ q)

-- a list in as many groups, one in the other, each of them run once
unfoldable pub nested : ℕ → List ℕ → List ℕ
nested zero l = l
nested (suc n) l = group_bytes 1 (nested n l)

-- eight levels are read, and a ninth is bad
abbrev pub EightLevels : Type 0
EightLevels =
    (whole (nested 8 one_wake) ≡ record { steps = Wake ∷ []; reason = why.End })
    × (whole (nested 9 one_wake) ≡ stops why.Bad)

-- bytes that may be such a p and such an l: they read to their end, as a trace and as a group's list
abbrev pub Writable : List ℕ → Type 0
Writable l = (is_end (whole l).reason ≡ true) × (is_end (within group_levels l).reason ≡ true)

-- between two wakes, a group that has a wake is it written out: for the smallest count and the largest
abbrev pub Written : ℕ → Type 0
Written count = whole (one_wake ++ group_bytes count one_wake ++ one_wake) ≡ whole (one_wake ++ copies count one_wake ++ one_wake)

abbrev pub CountsWritten : Type 0
CountsWritten = Written 1 × Written 65535

-- ---- the same for every count, for longer lists, and for a list with groups in it

-- a group of a list, after that list, and before it once more and a byte that is torn; and the same written out
abbrev pub by_group : ℕ → List ℕ → List ℕ
by_group count l = l ++ group_bytes count l ++ (l ++ (2 ∷ []))

abbrev pub in_full : ℕ → List ℕ → List ℕ
in_full count l = l ++ copies count l ++ (l ++ (2 ∷ []))

abbrev pub ReadAlike : ℕ → List ℕ → Type 0
ReadAlike count l = whole (by_group count l) ≡ whole (in_full count l)

-- every count, and as many wakes as a group has room for
abbrev pub EveryCountWritten : Type 0
EveryCountWritten = (count n : ℕ) → 0 < count → count < 65536 → 0 < n → n < 16383 → ReadAlike count (copies n one_wake)

-- a list with groups in it: a wake, and three times a wake and a group that has it twice
abbrev pub grouping : List ℕ
grouping = one_wake ++ group_bytes 3 (one_wake ++ group_bytes 2 one_wake)

abbrev pub GroupsWritten : Type 0
GroupsWritten = ReadAlike 5 grouping × (length (whole (grouping ++ group_bytes 5 grouping)).steps ≡ 60)
