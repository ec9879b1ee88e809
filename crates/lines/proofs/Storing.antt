-- Storing a text piece by piece. Assumes nothing.
use mathlib.Core.Path.{◌≡◌, refl, sym, ap, ◌∙◌}
use mathlib.Core.List.{List, [], ◌∷◌, ◌++◌, map, append-nil, append_assoc}
use Prim.Native.Nat.{ℕ, zero, suc, ◌+◌, ◌-◌, ◌≤◌, ◌<◌}
use native.Mathlib.Nat.{not-suc-le-zero}
use native.Mathlib.Numerals.{add-one}
use native.Mathlib.Omega.{arith}
use lib.ListN.{length, get_or, take, drop, length-append}
use lib.Seq.{length-sets}
use Rattle.std.proofs.lemmas.List.Edits.{sets-eq}
use Rattle.fields.proofs.Storing.{sets_append, stored_front}
use Rattle.events.specs.Events.{Event, noted}
use Rattle.events.proofs.Packing.{taken_apart}
use Rattle.lines.specs.Lines.{space, newline, decimal_of, hex_of, line_of, lines_of}
use Rattle.lines.specs.Stores.{line_for, lines_for, Stored, Printed}
use borrow.Rule.Slice.PartMut.{put_mid, Post-is}

-- one text after another
pub both : {xs ys a b c : List ℕ} {p q r : ℕ} → Stored xs p q a b → Stored ys q r b c → Stored (xs ++ ys) p r a c
both {xs} {ys} {a} {b} {c} {p} {q} {r} s t = record {
  ends = omega (arith, s.ends, t.ends, length-append xs ys);
  fits = omega (arith, t.fits, ap length s.stands, length-sets a p xs);
  stands = t.stands ∙ rw (s.stands, s.ends) (sym (sets_append a p xs ys));
}

-- a text that was copied over the part from a place to its end
pub copied : (l text part : List ℕ) (at : ℕ) → at + length text ≤ length l → part ≡ text → Stored text at (at + length text) l (put_mid at (at + length text - at) l part)
copied l text part at h e = record {
  ends = refl;
  fits = h;
  stands = rw (e, Post-is at (at + length text) l (omega arith), sets-eq text l at h) (sym (append_assoc (take at l) text (drop (at + length text) l)));
}

-- a line, by its four parts
pub line_stored : {a b c d e : List ℕ} {p q r s t : ℕ} (n v : ℕ) → Stored (decimal_of 3 n) p q a b → Stored (space ∷ []) q r b c → Stored (hex_of 8 v) r s c d
    → Stored (newline ∷ []) s t d e → Stored (line_of n v) p t a e
unfolding line_of
line_stored n v w x y z = both (both w (both x y)) z

-- one line more
lines_more : (es : List ℕ) (i : ℕ) → i < length es → lines_for (take (suc i) es) ≡ lines_for (take i es) ++ line_for (get_or es i 0)
unfolding lines_for
lines_more [] i h = absurd (not-suc-le-zero h)
lines_more (e ∷ es) zero h = append-nil (line_for e)
lines_more (e ∷ es) (suc i) h =
    let k : i < length es = omega arith in
    rw (lines_more es i k) (sym (append_assoc (line_for e) (lines_for (take i es)) (line_for (get_or es i 0))))

pub line_turn : {a b c : List ℕ} {p q : ℕ} (es : List ℕ) (i : ℕ) → i < length es → Stored (lines_for (take i es)) 0 p a b
    → Stored (line_for (get_or es i 0)) p q b c → Stored (lines_for (take (i + 1) es)) 0 q a c
line_turn es i h s t = rw (add-one, lines_more es i h) (both s t)

pub no_line : (a : List ℕ) → Stored (lines_for []) 0 0 a a
unfolding lines_for
no_line a = record { ends = refl; fits = omega arith; stands = refl }

-- a text that was printed is what the buffer's first bytes say
pub printed_first : {text a b : List ℕ} {size : ℕ} → Printed text size a b → take size b ≡ text
printed_first {text} {a} {b} {size} s = ap (take size) s.stands ∙ stored_front a text size (omega (arith, s.ends)) s.fits

-- its size is within the buffer, and that of the bytes themselves
pub printed_within : {text a b : List ℕ} {size : ℕ} → Printed text size a b → size ≤ length b
printed_within {text} {a} s = omega (arith, s.fits, ap length s.stands, length-sets a 0 text)

pub printed_size : {text a b : List ℕ} {size : ℕ} → Printed text size a b → size ≡ length (take size b)
printed_size s = omega (arith, s.ends, ap length (printed_first s))

-- the lines of a log are those of the answers that it noted
pub lines_noted : (es : List Event) → lines_for (map noted es) ≡ lines_of (map (λ (e : Event). e.answer) es)
unfolding lines_for lines_of
lines_noted [] = refl
lines_noted (e ∷ es) = rw ((taken_apart e).number, (taken_apart e).value, lines_noted es)
