-- The record counter's journal, 02 request 4: an area, its slots, and when it is well formed.
use Rattle.std.specs.Prelude.{ℕ, zero, suc, ◌+◌, ◌-◌, ◌*◌, Bool, true, cond, not, ◌&&◌, ◌||◌, List, length, eqb, ltb}
use Rattle.fields.specs.Fields.{field_at}

-- an area has 4,096 bytes: 341 slots of 12, and four bytes behind them that no rule speaks of
abbrev pub area_size : ℕ
area_size = 4096

abbrev pub slot_count : ℕ
slot_count = 341

abbrev pub slot_size : ℕ
slot_size = 12

-- the fields of a slot: where each begins in it, and how many bytes it has
pub data Field : Type 0 where
  length_field : Field
  kind_field : Field
  ceiling_field : Field

abbrev pub offset : Field → ℕ
offset length_field = 0
offset kind_field = 2
offset ceiling_field = 4

abbrev pub width : Field → ℕ
width length_field = 2
width kind_field = 2
width ceiling_field = 8

-- where a field of slot k begins in the area
abbrev pub place_of : ℕ → Field → ℕ
place_of k f = slot_size * k + offset f

-- what it holds, a little-endian number
abbrev pub held_in : List ℕ → ℕ → Field → ℕ
held_in a k f = field_at a (place_of k f) (width f)

abbrev pub length_of : List ℕ → ℕ → ℕ
length_of a k = held_in a k length_field

abbrev pub kind_of : List ℕ → ℕ → ℕ
kind_of a k = held_in a k kind_field

abbrev pub ceiling_of : List ℕ → ℕ → ℕ
ceiling_of a k = held_in a k ceiling_field

-- the length and the kind of a slot that holds a ceiling
abbrev pub taken_length : ℕ
taken_length = 10

abbrev pub taken_kind : ℕ
taken_kind = 1

-- "A slot with length 0 is free whatever follows it"; one with length 10 is taken
abbrev pub free : List ℕ → ℕ → Bool
free a k = eqb (length_of a k) 0

abbrev pub taken : List ℕ → ℕ → Bool
taken a k = eqb (length_of a k) taken_length

-- the four rules for slots, of slot k, or of slot k and the one after it:
-- "each slot's length is 0 or 10"
abbrev pub length_rule : List ℕ → ℕ → Bool
length_rule a k = free a k || taken a k

-- "no taken slot follows a free one"
abbrev pub order_rule : List ℕ → ℕ → Bool
order_rule a k = not (free a k && taken a (k + 1))

-- "every taken slot has kind 1"
abbrev pub kind_rule : List ℕ → ℕ → Bool
kind_rule a k = not (taken a k) || eqb (kind_of a k) taken_kind

-- "ceilings rise strictly"
abbrev pub ceiling_rule : List ℕ → ℕ → Bool
ceiling_rule a k = not (taken a k && taken a (k + 1)) || ltb (ceiling_of a k) (ceiling_of a (k + 1))

-- whether p holds of every number below n
unfoldable pub every : ℕ → (ℕ → Bool) → Bool
every zero p = true
every (suc n) p = every n p && p n

-- of every slot, and of every slot but the last with the one after it
unfoldable pub well_formed : List ℕ → Bool
well_formed a =
    eqb (length a) area_size
    && every slot_count (length_rule a)
    && every (slot_count - 1) (order_rule a)
    && every slot_count (kind_rule a)
    && every (slot_count - 1) (ceiling_rule a)

-- the first number below n of which p holds; n with none
unfoldable pub first : ℕ → (ℕ → Bool) → ℕ
first zero p = 0
first (suc n) p = cond (p 0) 0 (suc (first n (λ k. p (suc k))))

-- the first free slot; 341 if all are taken
abbrev pub first_free : List ℕ → ℕ
first_free a = first slot_count (free a)

-- the ceiling in the slot before slot k; 0 with none
unfoldable pub ceiling_before : List ℕ → ℕ → ℕ
ceiling_before a zero = 0
ceiling_before a (suc k) = ceiling_of a k

-- "the present ceiling (0 with none)", the last one: that in the slot before the first free one
abbrev pub ceiling : List ℕ → ℕ
ceiling a = ceiling_before a (first_free a)
