-- A record's kind is its step's, since each kind of the table is that of the steps that it says. Assumes nothing.
use mathlib.Core.Path.{◌≡◌, refl, sym, ap, ◌∙◌}
use mathlib.Core.Bool.{Bool, true, false, cond}
use mathlib.Core.List.{List, [], ◌∷◌}
use Prim.Native.Nat.{ℕ}
use native.Mathlib.Omega.{arith}
use lib.Dec.{eqb}
use lib.ListN.{length}
use borrow.Author.Tests.{eqb-true}
use Rattle.std.specs.Prelude.{Ok, Err}
use Rattle.steps.specs.Steps.{kind_of}
use Rattle.boundaries.proofs.Canonical.{by_cases}
use Rattle.trace.specs.declared.Found.TheVariants.{Record}
use Rattle.trace.specs.declared.Ending.TheVariants.{Bad}
use Rattle.trace.specs.Trace.{Kind, kinds, record_by, record_of, is_kind_by, is_kind, found_kind, KindsAgree}
use Rattle.trace.proofs.Finding.{record_none}

abbrev Agree : List Kind → Type 0
Agree [] = Unit
Agree (k ∷ ks) = ((b : List ℕ) → kind_of (k.step b) ≡ k.number) × Agree ks

agree : Agree kinds
agree = (λ b. refl, (λ b. refl, (λ b. refl, (λ b. refl, (λ b. refl, (λ b. refl, (λ b. refl, (λ b. by_cases (λ s. kind_of s ≡ 8) b refl refl, (λ b. refl, (λ b. refl, tt))))))))))

module _ (number next : ℕ) (b : List ℕ) where
  by_table : (ks : List Kind) → Agree ks → found_kind (record_by ks number b next) ≡ cond (is_kind_by ks number (length b)) number 0
  unfolding record_by is_kind_by found_kind
  by_table [] h = refl
  by_table (k ∷ ks) h = go (eqb number k.number) (eqb (length b) k.size) refl (by_table ks h.1)
    where
      go : (t u : Bool) → eqb number k.number ≡ t → found_kind (record_by ks number b next) ≡ cond (is_kind_by ks number (length b)) number 0
          → found_kind (cond t (cond u (Ok (Record (k.step b) next)) (Err Bad)) (record_by ks number b next))
          ≡ cond (cond t u (is_kind_by ks number (length b))) number 0
      go true true p rest = h.0 b ∙ sym (eqb-true number k.number p)
      go true false p rest = refl
      go false u p rest = rest

  pub kind_found : found_kind (record_of number b next) ≡ cond (is_kind number (length b)) number 0
  unfolding record_of is_kind
  kind_found = by_table kinds agree

pub kinds_agree : KindsAgree
unfolding found_kind
kinds_agree number next past b s e = go (is_kind number (length b)) refl
  where
    go : (t : Bool) → is_kind number (length b) ≡ t → kind_of s ≡ number
    go true f = ap found_kind (sym e) ∙ kind_found number next b ∙ ap (λ (t : Bool). cond t number 0) f
    go false f = let g = record_none number next b Bad (refl, f) ∙ e in let z : ◌≡◌ {A = ℕ} 0 1 = cc in absurd (omega arith)
