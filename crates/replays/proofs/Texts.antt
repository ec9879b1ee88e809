-- The line of an entry, and a text up to it. Assumes nothing.
use Prim.Native.Nat.{ℕ, zero, suc, ◌+◌, ◌-◌, ◌/◌, ◌%◌, ◌<◌}
use mathlib.Core.Path.{◌≡◌, refl, sym, ap, ◌∙◌}
use mathlib.Core.Bool.{Bool, true, false, cond}
use mathlib.Core.List.{List, [], ◌∷◌, ◌++◌, append_assoc}
use native.Mathlib.Omega.{arith}
use borrow.Author.Tests.{ne_eqb, eq-eqb, eqb-true}
use lib.Dec.{eqb, ltb}
use lib.ListN.{length, drop, length-append}
use lib.Seq.{drop-append_seam}
use Rattle.steps.specs.declared.Answer.{Answer}
use Rattle.steps.specs.declared.Answer.TheVariants.{Done, WrongSize, Malformed, WhileHalted, Invalid, Absent, Value, External, Nothing, Ignored, Latched, Entered, Resumed}
use Rattle.steps.specs.Answers.{number_of, value_of}
use Rattle.lines.specs.declared.Reason.{Reason}
use Rattle.lines.specs.declared.Reason.TheVariants as why
use Rattle.lines.specs.Lines.{space, newline, digit_of, decimal_of, hex_of, line_of, lines_of, word_of, text_of}
use Rattle.isolation.specs.Isolation.{through_entry}
use Rattle.isolation.specs.Tightness.{NoEntry}
use Rattle.replays.specs.Texts.{entered_line, begins, through_line, through_entered, ThroughEnteredAsked, Alike}

-- ---- a line has one newline, its last byte

abbrev Plain : List ℕ → Type 0
Plain [] = Unit
Plain (b ∷ bs) = (newline < b) × Plain bs

plain_append : (a b : List ℕ) → Plain a → Plain b → Plain (a ++ b)
plain_append [] b p q = q
plain_append (x ∷ a) b p q = (p.0, plain_append a b p.1 q)

plain_digit : (d : ℕ) → newline < digit_of d
unfolding digit_of
plain_digit d = by (ltb d 10)
  where
    by : (b : Bool) → newline < cond b (0x30 + d) (0x61 + (d - 10))
    by true = omega arith
    by false = omega arith

plain_hex : (count v : ℕ) → Plain (hex_of count v)
unfolding hex_of
plain_hex zero v = tt
plain_hex (suc count) v = plain_append (hex_of count (v / 16)) _ (plain_hex count (v / 16)) (plain_digit (v % 16), tt)

plain_decimal : (count n : ℕ) → Plain (decimal_of count n)
unfolding decimal_of
plain_decimal zero n = tt
plain_decimal (suc count) n = by (plain_decimal count (n / 10)) (ltb n 10)
  where
    by : Plain (decimal_of count (n / 10)) → (b : Bool) → Plain (cond b (digit_of n ∷ []) (decimal_of count (n / 10) ++ digit_of (n % 10) ∷ []))
    by h true = (plain_digit n, tt)
    by h false = plain_append (decimal_of count (n / 10)) _ h (plain_digit (n % 10), tt)

skips : (bs text : List ℕ) → Plain bs → through_line false (bs ++ (newline ∷ text)) ≡ bs ++ (newline ∷ through_entered text)
unfolding through_line
skips [] text p = refl
skips (b ∷ bs) text p = rw (ne_eqb b newline (λ e. omega (arith, p.0)), skips bs text p.1)

-- a line that isn't that of an entry is passed
passes : (bs text : List ℕ) → Plain bs → begins (bs ++ (newline ∷ text)) entered_line ≡ false
    → through_entered (bs ++ (newline ∷ text)) ≡ bs ++ (newline ∷ through_entered text)
unfolding through_line
passes [] text p e = rw e
passes (b ∷ bs) text p e = rw (e, ne_eqb b newline (λ f. omega (arith, p.0)), skips bs text p.1)

module _ (number value : ℕ) where
  front : List ℕ
  front = decimal_of 3 number ++ (space ∷ hex_of 8 value)

  line_is : (text : List ℕ) → line_of number value ++ text ≡ front ++ (newline ∷ text)
  unfolding line_of front
  line_is text = simp append_assoc

  passes_line : (text : List ℕ) → begins (line_of number value ++ text) entered_line ≡ false
      → through_entered (line_of number value ++ text) ≡ line_of number value ++ through_entered text
  unfolding front
  passes_line text e =
      ap through_entered (line_is text)
      ∙ passes front text (plain_append (decimal_of 3 number) _ (plain_decimal 3 number) (omega arith, plain_hex 8 value)) (sym (ap (λ (t : List ℕ). begins t entered_line) (line_is text)) ∙ e)
      ∙ sym (line_is (through_entered text))

-- ---- by its answer

abbrev pub line_for : Answer → List ℕ
line_for a = line_of (number_of a) (value_of a)

data Line (a : Answer) : Type 0 where
  entered : number_of a ≡ 11 → line_for a ≡ entered_line → Line a
  other : (number_of a ≡ 11 → ⊥) → ((text : List ℕ) → begins (line_for a ++ text) entered_line ≡ false) → Line a

line_by : (a : Answer) → Line a
unfolding line_of decimal_of hex_of digit_of begins
line_by Done = other (λ e. omega arith) (λ text. refl)
line_by WrongSize = other (λ e. omega arith) (λ text. refl)
line_by Malformed = other (λ e. omega arith) (λ text. refl)
line_by WhileHalted = other (λ e. omega arith) (λ text. refl)
line_by Invalid = other (λ e. omega arith) (λ text. refl)
line_by Absent = other (λ e. omega arith) (λ text. refl)
line_by (Value v) = other (λ e. omega arith) (λ text. refl)
line_by External = other (λ e. omega arith) (λ text. refl)
line_by Nothing = other (λ e. omega arith) (λ text. refl)
line_by Ignored = other (λ e. omega arith) (λ text. refl)
line_by Latched = other (λ e. omega arith) (λ text. refl)
line_by Entered = entered refl refl
line_by Resumed = other (λ e. omega arith) (λ text. refl)

enters : (text : List ℕ) → through_entered (entered_line ++ text) ≡ entered_line
unfolding through_line begins
enters text = refl

-- ---- a text by its answers

pub text_is : (a : Answer) (bs : List Answer) (r : Reason) → text_of (a ∷ bs) r ≡ line_for a ++ text_of bs r
unfolding lines_of
text_is a bs r = append_assoc (line_for a) (lines_of bs) (word_of r)

module _ (a : Answer) (bs : List Answer) (r : Reason) where
  at_entry : line_for a ≡ entered_line → through_entered (text_of (a ∷ bs) r) ≡ entered_line
  at_entry e = rw (text_is a bs r, e) (enters (text_of bs r))

  past_other : ((text : List ℕ) → begins (line_for a ++ text) entered_line ≡ false)
      → through_entered (text_of (a ∷ bs) r) ≡ line_for a ++ through_entered (text_of bs r)
  past_other f = rw (text_is a bs r) (passes_line (number_of a) (value_of a) (text_of bs r) (f (text_of bs r)))

none_after : (a : Answer) (bs : List Answer) → NoEntry (a ∷ bs) → NoEntry bs
none_after a bs none i l = none (suc i) (omega arith)

none_before : (a : Answer) (bs : List Answer) → (number_of a ≡ 11 → ⊥) → NoEntry bs → NoEntry (a ∷ bs)
none_before a bs f none zero l = f
none_before a bs f none (suc i) l = none i (omega arith)

word_some : (r : Reason) → 0 < length (word_of r)
word_some why.End = omega arith
word_some why.Limit = omega arith
word_some why.Torn = omega arith
word_some why.Bad = omega arith

word_whole : (r : Reason) → through_entered (word_of r) ≡ word_of r
unfolding through_line begins
word_whole why.End = refl
word_whole why.Limit = refl
word_whole why.Torn = refl
word_whole why.Bad = refl

-- all of it where nothing enters, and back
all_of_it : (bs : List Answer) (r : Reason) → NoEntry bs → through_entered (text_of bs r) ≡ text_of bs r
unfolding lines_of
all_of_it [] r none = word_whole r
all_of_it (b ∷ bs) r none = by (all_of_it bs r (none_after b bs none)) (line_by b)
  where
    by : through_entered (text_of bs r) ≡ text_of bs r → Line b → through_entered (text_of (b ∷ bs) r) ≡ text_of (b ∷ bs) r
    by h (entered e f) = absurd (none 0 (omega arith) e)
    by h (other e f) = past_other b bs r f ∙ ap (λ (t : List ℕ). line_for b ++ t) h ∙ sym (text_is b bs r)

up_to_it : (bs cs : List Answer) (a : Answer) (r : Reason) → NoEntry bs → number_of a ≡ 11
    → through_entered (text_of (bs ++ (a ∷ cs)) r) ≡ lines_of bs ++ entered_line
unfolding lines_of
up_to_it [] cs a r none e = by (line_by a)
  where
    by : Line a → through_entered (text_of (a ∷ cs) r) ≡ entered_line
    by (entered g f) = at_entry a cs r f
    by (other g f) = absurd (g e)
up_to_it (b ∷ bs) cs a r none e = by (up_to_it bs cs a r (none_after b bs none) e) (line_by b)
  where
    by : through_entered (text_of (bs ++ (a ∷ cs)) r) ≡ lines_of bs ++ entered_line → Line b
        → through_entered (text_of (b ∷ (bs ++ (a ∷ cs))) r) ≡ (line_for b ++ lines_of bs) ++ entered_line
    by h (entered g f) = absurd (none 0 (omega arith) g)
    by h (other g f) = past_other b (bs ++ (a ∷ cs)) r f ∙ ap (λ (t : List ℕ). line_for b ++ t) h ∙ sym (append_assoc (line_for b) (lines_of bs) entered_line)

pub through_entered_asked : ThroughEnteredAsked
through_entered_asked = (all_of_it, up_to_it)

no_line : (bs : List Answer) (r : Reason) → through_entered (text_of bs r) ≡ text_of bs r → NoEntry bs
no_line [] r e = λ i l. absurd (omega arith)
no_line (b ∷ bs) r e = by (no_line bs r) (line_by b)
  where
    by : (through_entered (text_of bs r) ≡ text_of bs r → NoEntry bs) → Line b → NoEntry (b ∷ bs)
    by h (entered g f) =
        let k : line_for b ++ text_of bs r ≡ entered_line ++ text_of bs r = ap (λ (t : List ℕ). t ++ text_of bs r) f in
        let z : length entered_line ≡ length (entered_line ++ text_of bs r) = ap length (sym (at_entry b bs r f) ∙ e ∙ text_is b bs r ∙ k) in
        absurd (omega (arith, length-append (lines_of bs) (word_of r), word_some r))
    by h (other g f) =
        let z : line_for b ++ through_entered (text_of bs r) ≡ line_for b ++ text_of bs r = sym (past_other b bs r f) ∙ e ∙ text_is b bs r in
        none_before b bs g
        (h (sym (drop-append_seam (line_for b) (through_entered (text_of bs r))) ∙ ap (drop (length (line_for b))) z ∙ drop-append_seam (line_for b) (text_of bs r)))

-- ---- the answers up to the first entry settle it

-- where nothing enters, they are all of them
none_through : (bs : List Answer) → NoEntry bs → through_entry bs ≡ bs
unfolding through_entry
none_through [] none = refl
none_through (b ∷ bs) none = rw (ne_eqb (number_of b) 11 (none 0 (omega arith)), none_through bs (none_after b bs none))

through_none : (bs : List Answer) → NoEntry (through_entry bs) → through_entry bs ≡ bs
unfolding through_entry
through_none [] none = refl
through_none (b ∷ bs) none = by (through_none bs) (eqb (number_of b) 11) refl none
  where
    by : (NoEntry (through_entry bs) → through_entry bs ≡ bs) → (q : Bool) → eqb (number_of b) 11 ≡ q
        → NoEntry (cond q (b ∷ []) (b ∷ through_entry bs)) → cond q (b ∷ []) (b ∷ through_entry bs) ≡ b ∷ bs
    by h true e k = absurd (k 0 (omega arith) (eqb-true (number_of b) 11 e))
    by h false e k = ap (λ (l : List Answer). b ∷ l) (h (none_after b (through_entry bs) k))

same_answers_all : (bs cs : List Answer) → NoEntry bs → through_entry bs ≡ through_entry cs → bs ≡ cs
same_answers_all bs cs none e =
    let f : bs ≡ through_entry cs = sym (none_through bs none) ∙ e in
    f ∙ through_none cs (rw f at none)

module _ (r : Reason) where
  by_answers : (bs : List Answer) → through_entered (text_of bs r) ≡ through_entered (text_of (through_entry bs) r)
  unfolding through_entry
  by_answers [] = refl
  by_answers (b ∷ bs) = by (by_answers bs) (line_by b)
    where
      by : through_entered (text_of bs r) ≡ through_entered (text_of (through_entry bs) r) → Line b
          → through_entered (text_of (b ∷ bs) r) ≡ through_entered (text_of (cond (eqb (number_of b) 11) (b ∷ []) (b ∷ through_entry bs)) r)
      by h (entered e f) = rw (eq-eqb (number_of b) 11 e) (at_entry b bs r f ∙ sym (at_entry b [] r f))
      by h (other e f) =
          rw (ne_eqb (number_of b) 11 e)
          (past_other b bs r f ∙ ap (λ (t : List ℕ). line_for b ++ t) h ∙ sym (past_other b (through_entry bs) r f))

  pub alike : (bs cs : List Answer) → through_entry bs ≡ through_entry cs → Alike (text_of bs r) (text_of cs r)
  alike bs cs e = record {
    lines = by_answers bs ∙ ap (λ (ds : List Answer). through_entered (text_of ds r)) e ∙ sym (by_answers cs);
    texts = λ w. ap (λ (ds : List Answer). text_of ds r) (same_answers_all bs cs (no_line bs r w) e);
  }
