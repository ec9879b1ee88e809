-- What is read, up to a limit. Assumes nothing.
use mathlib.Core.Path.{◌≡◌, refl, sym, ap, ◌∙◌}
use mathlib.Core.Bool.{Bool, true, false, cond}
use mathlib.Core.List.{List, [], ◌∷◌}
use Prim.Native.Nat.{ℕ, zero, suc, ◌-◌, ◌<◌, ◌≤◌}
use native.Mathlib.Nat.{lt_irrefl}
use native.Mathlib.Omega.{arith}
use borrow.Author.Tests.{lt-ltb, ltb-false, ltb-true}
use lib.Dec.{ltb, leb-zero, leb-suc-zero, leb-suc-suc}
use lib.ListN.{length, length-take}
use Rattle.steps.specs.declared.Step.{Step}
use Rattle.lines.specs.declared.Reason.{Reason}
use Rattle.lines.specs.declared.Reason.TheVariants as why
use Rattle.scripts.specs.Scripts.{Script, is_end, stops, follows, joins, exceeds, limited}
use Rattle.scripts.proofs.Reading.{false_true}

-- a list of steps that is read to its end
abbrev pub ends : List Step → Script
ends ss = record { steps = ss; reason = why.End }

pub limited_end : (n : ℕ) → limited n (stops why.End) ≡ stops why.End
unfolding limited
limited_end zero = refl
limited_end (suc n) = simp leb-suc-zero

pub limited_stop : (n : ℕ) (r : Reason) → 0 < n → limited n (stops r) ≡ stops r
unfolding limited
limited_stop zero r h = absurd (lt_irrefl 0 h)
limited_stop (suc n) why.End h = simp leb-suc-zero
limited_stop (suc n) why.Limit h = simp leb-suc-zero
limited_stop (suc n) why.Torn h = simp leb-suc-zero
limited_stop (suc n) why.Bad h = simp leb-suc-zero

cut_none : (m : ℕ) (r : Reason) → (is_end r ≡ true → 0 < m) → exceeds m 0 r ≡ true
cut_none m why.End f = lt-ltb 0 m (f refl)
cut_none m why.Limit f = leb-zero m
cut_none m why.Torn f = leb-zero m
cut_none m why.Bad f = leb-zero m

-- none of the limit left, and more to read
pub limited_none : (n : ℕ) (h : Script) → n ≡ 0 → (is_end h.reason ≡ true → 0 < length h.steps) → limited n h ≡ stops why.Limit
unfolding limited
limited_none n h e f = rw e (simp (cut_none (length h.steps) h.reason f))

pub limited_suc : (n : ℕ) (s : Step) (h : Script) → limited (suc n) (follows s h) ≡ follows s (limited n h)
unfolding limited
limited_suc n s h = simp leb-suc-suc

pub limited_follows : (n : ℕ) (s : Step) (h : Script) → 0 < n → limited n (follows s h) ≡ follows s (limited (n - 1) h)
limited_follows n s h k =
    let e : n ≡ suc (n - 1) = omega arith in
    ap (λ (m : ℕ). limited m (follows s h)) e ∙ limited_suc (n - 1) s h

-- some steps, and then the rest
pub limited_joins : (ss : List Step) (n : ℕ) (h : Script) → length ss ≤ n → limited n (joins ss h) ≡ joins ss (limited (n - length ss) h)
limited_joins [] n h k = let e : n ≡ n - 0 = omega arith in ap (λ (m : ℕ). limited m h) e
limited_joins (s ∷ ss) zero h k = absurd (lt_irrefl 0 (omega arith))
limited_joins (s ∷ ss) (suc n) h k =
    let e : n - length ss ≡ suc n - suc (length ss) = omega arith in
    limited_suc n s (joins ss h) ∙ ap (follows s) (limited_joins ss n h (omega arith) ∙ ap (λ (m : ℕ). joins ss (limited m h)) e)

pub limited_all : (ss : List Step) (n : ℕ) → length ss ≤ n → limited n (ends ss) ≡ ends ss
limited_all [] n k = limited_end n
limited_all (s ∷ ss) zero k = absurd (lt_irrefl 0 (omega arith))
limited_all (s ∷ ss) (suc n) k = limited_suc n s (ends ss) ∙ ap (follows s) (limited_all ss n (omega arith))

pub limited_cut : (ss : List Step) (n : ℕ) (h : Script) → n < length ss → limited n (joins ss h) ≡ limited n (ends ss)
limited_cut [] n h k = absurd (lt_irrefl 0 (omega arith))
limited_cut (s ∷ ss) zero h k = limited_none 0 (joins (s ∷ ss) h) refl (λ e. omega arith) ∙ sym (limited_none 0 (ends (s ∷ ss)) refl (λ e. omega arith))
limited_cut (s ∷ ss) (suc n) h k =
    limited_suc n s (joins ss h) ∙ ap (follows s) (limited_cut ss n h (omega arith)) ∙ sym (limited_suc n s (ends ss))

-- the reason says whether the limit cut them
module _ (ss : List Step) (n : ℕ) where
  reason_is : (limited n (ends ss)).reason ≡ cond (ltb n (length ss)) why.Limit why.End
  unfolding limited
  reason_is = refl

  pub end_fits : (limited n (ends ss)).reason ≡ why.End → length ss ≤ n
  end_fits e = ltb-false n (length ss) (by (ltb n (length ss)) (sym reason_is ∙ e))
    where
      by : (b : Bool) → cond b why.Limit why.End ≡ why.End → b ≡ false
      by true p = absurd (false_true (ap is_end p))
      by false p = refl

  pub not_end_cut : ((limited n (ends ss)).reason ≡ why.End → ⊥) → n < length ss
  not_end_cut f = ltb-true n (length ss) (by (ltb n (length ss)) (λ p. f (reason_is ∙ p)))
    where
      by : (b : Bool) → (cond b why.Limit why.End ≡ why.End → ⊥) → b ≡ true
      by true p = refl
      by false p = absurd (p refl)

  pub cut_limit : n < length ss → (limited n (ends ss)).reason ≡ why.Limit
  cut_limit h = reason_is ∙ rw (lt-ltb _ _ h)

-- no more steps than the limit
pub limited_within : (n : ℕ) (h : Script) → length (limited n h).steps ≤ n
unfolding limited
limited_within n h = simp length-take (omega arith)
