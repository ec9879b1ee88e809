-- The kinds' numbers and sizes are those listed.
use mathlib.Core.Path.{◌≡◌, refl, sym, ap, ◌∙◌}
use mathlib.Core.Bool.{Bool, true, false, cond}
use mathlib.Core.List.{List, [], ◌∷◌}
use Prim.Native.Nat.{ℕ, zero, suc, ◌<◌, ◌≤◌}
use native.Mathlib.Omega.{arith}
use lib.Dec.{eqb, ltb, lit<}
use borrow.Author.Tests.{eqb-true, eqb-false, ne_eqb, ltb-true, ltb-false, le-leb, lt-leb}
use Rattle.trace.specs.Trace.{Kind, kinds, is_kind_by, is_kind, listed, found_kind}
use Rattle.trace.proofs.Agreeing.{kind_found}
use Rattle.trace.proofs.has_listed_kind.Goals as goal

-- the table's numbers and sizes are those listed: one by one below 11, and from there on there are none
abbrev Below : (ℕ → Type 0) → ℕ → Type 0
Below P zero = Unit
Below P (suc n) = Below P n × P n

pick : (P : ℕ → Type 0) (n : ℕ) → Below P n → (m : ℕ) → m < n → P m
pick P zero h m l = absurd (omega arith)
pick P (suc n) h m l = by (pick P n h.0 m) (eqb m n) refl
  where
    by : (m < n → P m) → (b : Bool) → eqb m n ≡ b → P m
    by f true e = rw (eqb-true m n e) h.1
    by f false e = f (omega (arith, eqb-false m n e))

abbrev Low : List Kind → Type 0
Low [] = Unit
Low (k ∷ ks) = (k.number < 11) × Low ks

none : (number size : ℕ) → 11 ≤ number → (ks : List Kind) → Low ks → is_kind_by ks number size ≡ false
unfolding is_kind_by
none number size l [] h = refl
none number size l (k ∷ ks) h = rw (ne_eqb number k.number (λ e. omega (arith, h.0))) (none number size l ks h.1)

low : Low kinds
low = (lit< tt, (lit< tt, (lit< tt, (lit< tt, (lit< tt, (lit< tt, (lit< tt, (lit< tt, (lit< tt, (lit< tt, tt))))))))))

sizes : (number size : ℕ) → is_kind number size ≡ listed number size
unfolding is_kind is_kind_by listed
sizes number size = by (ltb number 11) refl
  where
    by : (b : Bool) → ltb number 11 ≡ b → is_kind number size ≡ listed number size
    by true e =
        pick (λ k. is_kind k size ≡ listed k size) 11
        (((((((((((tt, refl), refl), refl), refl), refl), refl), refl), refl), refl), refl), refl) number (ltb-true number 11 e)
    by false e =
        let l : 11 ≤ number = ltb-false number 11 e in
        none number size l kinds low ∙ sym (rw (le-leb 1 number (omega arith), lt-leb number 10 (omega arith)))

pub returns : goal.returns
returns c = let k = c.args.kind in
    ap found_kind c.decode.ensures
    ∙ kind_found k c.args.next _
    ∙ ap (λ (t : Bool). cond t k 0) (sizes k _)
