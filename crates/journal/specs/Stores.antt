-- 02, request 4: the stores of a raise, byte by byte and in order.
use Rattle.std.specs.Prelude.{ℕ, ◌+◌, List, [], ◌∷◌, ◌++◌, set}
use Rattle.fields.specs.Fields.{bytes_of}
use Rattle.slots.specs.Area.{length_field, kind_field, ceiling_field, width, place_of, taken_length, taken_kind}
use Rattle.journal.specs.declared.Store.{Store}

-- a byte at a place
abbrev pub store : ℕ → ℕ → Store
store p b = record { at = p; byte = b }

-- bytes stored upward from a place on
unfoldable pub upward : ℕ → List ℕ → List Store
upward p [] = []
upward p (b ∷ bs) = store p b ∷ upward (p + 1) bs

-- "eleven byte stores .. kind and ceiling upward, then the length's low byte", of a raise to v in a slot; the length's high byte, which is
-- zero in a free slot, is not stored
unfoldable pub stores : ℕ → ℕ → List Store
stores slot v =
    upward (place_of slot kind_field) (bytes_of (width kind_field) taken_kind ++ bytes_of (width ceiling_field) v)
    ++ (store (place_of slot length_field) taken_length ∷ [])

abbrev pub store_count : ℕ
store_count = 11

-- an area after stores, the first of the list made first
unfoldable pub made : List Store → List ℕ → List ℕ
made [] a = a
made (s ∷ ss) a = made ss (set a s.at s.byte)
