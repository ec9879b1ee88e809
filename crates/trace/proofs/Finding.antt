-- What stands at a place, from the tests that the code makes, and where it ends. Assumes nothing.
use mathlib.Core.Path.{◌≡◌, refl, sym, ap, ◌∙◌}
use mathlib.Core.List.{List, [], ◌∷◌}
use mathlib.Core.Bool.{Bool, true, false, cond, ◌||◌}
use Prim.Native.Nat.{ℕ, ◌+◌, ◌-◌, ◌<◌, ◌≤◌}
use native.Mathlib.Omega.{arith}
use borrow.Author.Tests.{clash, le-leb, lt-leb, lt-ltb, le-ltb, eq-eqb, ne_eqb, leb-true, leb-false, ltb-false, eqb-false}
use Rattle.std.proofs.Math.Nat.{pos_of_ne-zero}
use lib.ListN.{length, length-take, length-drop}
use lib.Dec.{leb, ltb, eqb}
use Rattle.std.proofs.lemmas.Bool.{or_parts}
use Rattle.fields.specs.Fields.{field_at}
use Rattle.fields.proofs.Cases.{either}
use Rattle.trace.specs.declared.Found.{Found}
use Rattle.trace.specs.declared.Found.TheVariants.{Record, Group}
use Rattle.trace.specs.declared.Ending.{Ending}
use Rattle.trace.specs.declared.Ending.TheVariants.{End, Torn, Bad}
use Rattle.std.specs.Prelude.{Result, Ok, Err}
use Rattle.steps.specs.declared.Step.{Step}
use Rattle.trace.specs.declared.Frame.{Frame}
use Rattle.trace.specs.declared.RecordKind.{RecordKind}
use Rattle.trace.specs.declared.RecordKind.TheVariants as code
use Rattle.trace.specs.Trace.{frame, length_at, past_at, part, Kind, kinds, record_by, record_of, is_kind_by, is_kind, number_of, said, Sized, group_kind, group, group_of, ended, torn, short, frame_at, framed, found_at, passed}

-- ---- the tests of the code

module _ (l : List ℕ) (at : ℕ) where
  pub frame_end : length l ≤ at → Err End ≡ frame_at l at
  unfolding frame_at
  frame_end h = simp (le-leb _ _ h)

  pub frame_short : at < length l → length l < at + 2 → Err Torn ≡ frame_at l at
  unfolding frame_at
  frame_short h k = simp (lt-leb _ _ h, lt-ltb _ _ k)

  -- n is the length that is said
  module _ (n : ℕ) (e : n ≡ field_at l at 2) where
    pub frame_over : at + 2 ≤ length l → length l < at + 2 + n → Err Torn ≡ frame_at l at
    unfolding frame_at
    frame_over h k = simp (lt-leb (length l) at (omega arith), le-ltb _ _ h, ← e, lt-ltb _ _ k)

    module _ (h : at + 2 + n ≤ length l) where
      pub frame_small : n < 2 → Err Bad ≡ frame_at l at
      unfolding frame_at
      frame_small k = simp (lt-leb (length l) at (omega arith), le-ltb (length l) (at + 2) (omega arith), ← e, le-ltb _ _ h, lt-ltb _ _ k)

      pub frame_whole : 2 ≤ n → (kind : ℕ) → kind ≡ field_at l (at + 2) 2 → Ok (frame kind (at + 4) (at + 2 + n)) ≡ frame_at l at
      unfolding frame_at
      frame_whole k kind f =
          simp (lt-leb (length l) at (omega arith), le-ltb (length l) (at + 2) (omega arith), ← e, le-ltb _ _ h, le-ltb _ _ k, ← f)

-- ---- where it ends

-- a whole frame ends past its place and within the list, and its body has no less than no bytes
abbrev pub Framed : List ℕ → ℕ → Result Frame Ending → Type 0
Framed l at (Ok f) = (at < f.next) × (f.next ≤ length l) × (f.start ≤ f.next)
Framed l at (Err End) = length l ≤ at
Framed l at (Err Torn) = Unit
Framed l at (Err Bad) = Unit

-- a record ends past its place and within the list; no bytes are left at the end; a group's count is not 0, and its list is not empty
abbrev pub Within : {S : Type 0} → List ℕ → ℕ → Result (Found S) Ending → Type 0
Within l at (Ok (Record step next)) = (at < next) × (next ≤ length l)
Within l at (Ok (Group g)) = (at < g.next) × (g.next ≤ length l) × (g.start < g.next) × (0 < g.count)
Within l at (Err End) = length l ≤ at
Within l at (Err Torn) = Unit
Within l at (Err Bad) = Unit

pub frame_within : (l : List ℕ) (at : ℕ) → Framed l at (frame_at l at)
unfolding frame_at
frame_within l at =
    either (Framed l at) (ended l at) (λ e. leb-true _ _ e)
    (λ e. either (Framed l at) (torn l at) (λ f. tt)
    (λ f. either (Framed l at) (short l at) (λ g. tt)
    (λ g. (omega arith, ltb-false (length l) (past_at l at) (or_parts (ltb (length l) (at + 2)) _ f).1, omega (arith, ltb-false (length_at l at) 2 g)))))

module _ (l : List ℕ) (at next : ℕ) (h : at < next) (k : next ≤ length l) where
  record_within : (ks : List Kind) (number : ℕ) (b : List ℕ) → Within l at (record_by ks number b next)
  unfolding record_by
  record_within [] number b = tt
  record_within (r ∷ ks) number b =
      either (Within l at) (eqb number r.number)
      (λ e. either (Within l at) (eqb (length b) r.size) (λ f. (h, k)) (λ f. tt)) (λ e. record_within ks number b)

  group_within : (start : ℕ) → Within {S = Step} l at (group_of l start next)
  unfolding group_of
  group_within start =
      either (Within {S = Step} l at) (leb (next - start) 2 || eqb (field_at l start 2) 0) (λ e. tt)
      (λ e. (h, k, omega (arith, leb-false (next - start) 2 (or_parts _ _ e).0), pos_of_ne-zero (eqb-false _ _ (or_parts (leb (next - start) 2) _ e).1)))

framed_within : (l : List ℕ) (at : ℕ) (f : Result Frame Ending) → Framed l at f → Within l at (framed l f)
unfolding framed record_of
framed_within l at (Ok f) w =
    either (Within l at) (eqb f.kind group_kind) (λ e. group_within l at f.next w.0 w.1 f.start) (λ e. record_within l at f.next w.0 w.1 kinds f.kind _)
framed_within l at (Err End) w = w
framed_within l at (Err Torn) w = tt
framed_within l at (Err Bad) w = tt

pub found_within : (l : List ℕ) (at : ℕ) → Within l at (found_at l at)
unfolding found_at
found_within l at = framed_within l at (frame_at l at) (frame_within l at)

pub found_end : (l : List ℕ) (at : ℕ) → length l ≤ at → Err End ≡ found_at l at
unfolding found_at framed
found_end l at h = rw (← frame_end l at h)

-- ---- by its frame

frame_past : (l : List ℕ) (at : ℕ) (f : Result Frame Ending) → f ≡ frame_at l at → Framed l at f
frame_past l at f e = rw e (frame_within l at)

pub found_by : (l : List ℕ) (at : ℕ) (f : Result Frame Ending) → f ≡ frame_at l at → framed l f ≡ found_at l at
unfolding found_at
found_by l at f e = ap (framed l) e

pub found_none : (l : List ℕ) (at : ℕ) (e : Ending) → Err e ≡ frame_at l at → Err e ≡ found_at l at
unfolding framed
found_none l at e f = found_by l at (Err e) f

module _ (l : List ℕ) (at : ℕ) (f : Frame) (e : Ok f ≡ frame_at l at) where
  pub found_group : f.kind ≡ group_kind → group_of l f.start f.next ≡ found_at l at
  unfolding framed
  found_group k = sym (rw (eq-eqb _ _ k)) ∙ found_by l at (Ok f) e

  pub found_record : (f.kind ≡ group_kind → ⊥) → record_of f.kind (part l f.start f.next) f.next ≡ found_at l at
  unfolding framed
  found_record k = sym (rw (ne_eqb _ _ k)) ∙ found_by l at (Ok f) e

-- ---- the kinds as the code names them

pub said_record : (k : RecordKind) (b : List ℕ) (next : ℕ)
    → record_of (number_of k) b next ≡ cond (eqb (length b) (said k).size) (Ok (Record ((said k).step b) next)) (Err Bad)
unfolding record_of record_by
said_record code.Reset b next = refl
said_record code.Registers b next = refl
said_record code.Read b next = refl
said_record code.Write b next = refl
said_record code.PortRead b next = refl
said_record code.PortWrite b next = refl
said_record code.Opcode b next = refl
said_record code.Boundary b next = refl
said_record code.Halt b next = refl
said_record code.Wake b next = refl

module _ (number next : ℕ) (b : List ℕ) where
  pub record_said : (k : RecordKind) → Sized number (length b) (Ok k) → Ok (Record ((said k).step b) next) ≡ record_of number b next
  record_said k e =
      sym (said_record k b next ∙ rw (eq-eqb (length b) (said k).size (sym e.1))) ∙ ap (λ (n : ℕ). record_of n b next) e.0

  none_by : (ks : List Kind) → is_kind_by ks number (length b) ≡ false → Err Bad ≡ record_by ks number b next
  unfolding record_by is_kind_by
  none_by [] e = refl
  none_by (k ∷ ks) e = go (eqb number k.number) (eqb (length b) k.size) e (none_by ks)
    where
      go : (t u : Bool) → cond t u (is_kind_by ks number (length b)) ≡ false → (is_kind_by ks number (length b) ≡ false → Err Bad ≡ record_by ks number b next)
          → Err Bad ≡ cond t (cond u (Ok (Record (k.step b) next)) (Err Bad)) (record_by ks number b next)
      go true true e rest = absurd (clash (sym e))
      go true false e rest = refl
      go false u e rest = rest e

  pub record_none : (e : Ending) → Sized number (length b) (Err e) → Err e ≡ record_of number b next
  unfolding record_of is_kind
  record_none e s = ap Err s.0 ∙ none_by kinds s.1

-- ---- passing over it

pub passed_none : (l : List ℕ) (at : ℕ) (e : Ending) → Err e ≡ frame_at l at → Err e ≡ passed (found_at l at)
unfolding passed
passed_none l at e f = ap passed (found_none l at e f)

group_passed : (l : List ℕ) (start next : ℕ) → group_of {S = Unit} l start next ≡ passed (group_of l start next)
unfolding group_of passed
group_passed l start next = go (leb (next - start) 2 || eqb (field_at l start 2) 0)
  where
    go : (b : Bool) → cond b (Err Bad) (Ok (Group (group (field_at l start 2) (start + 2) next))) ≡ passed (cond b (Err Bad) (Ok (Group (group (field_at l start 2) (start + 2) next))))
    go true = refl
    go false = refl

part_length : (l : List ℕ) (start next : ℕ) → next ≤ length l → start ≤ next → length (part l start next) ≡ next - start
part_length l start next h k = simp (length-take, length-drop) (omega arith)

module _ (l : List ℕ) (at : ℕ) (f : Frame) (e : Ok f ≡ frame_at l at) where
  pub passed_group : f.kind ≡ group_kind → group_of l f.start f.next ≡ passed (found_at l at)
  passed_group k = group_passed l f.start f.next ∙ ap passed (found_group l at f e k)

  module _ (k : f.kind ≡ group_kind → ⊥) where
    of_part : (r : Result RecordKind Ending) → Sized f.kind (f.next - f.start) r → Sized f.kind (length (part l f.start f.next)) r
    of_part r s = let w = frame_past l at (Ok f) e in rw (part_length l f.start f.next w.1 w.2) s

    pub passed_record : (kind : RecordKind) → Sized f.kind (f.next - f.start) (Ok kind) → Ok (Record tt f.next) ≡ passed (found_at l at)
    unfolding passed
    passed_record kind s = ap passed (record_said f.kind f.next (part l f.start f.next) kind (of_part (Ok kind) s) ∙ found_record l at f e k)

    pub passed_bad : (d : Ending) → Sized f.kind (f.next - f.start) (Err d) → Err d ≡ passed (found_at l at)
    unfolding passed
    passed_bad d s = ap passed (record_none f.kind f.next (part l f.start f.next) d (of_part (Err d) s) ∙ found_record l at f e k)
