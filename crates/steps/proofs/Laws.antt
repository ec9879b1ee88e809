-- Laws of well-formed steps that callers use. Assumes nothing.
use mathlib.Core.Path.{◌≡◌, refl, sym, ap, ◌∙◌}
use mathlib.Core.Bool.{Bool, true, false, not, ◌||◌, not-not, true≢false}
use Prim.Native.Nat.{ℕ, min}
use lib.Dec.{eqb}
use borrow.Author.Tests.{eqb-true}
use Rattle.steps.specs.declared.Step.TheVariants.{Read}
use Rattle.steps.specs.Steps.{is_width, malformed}

pub read_formed : (width a : ℕ) → malformed (Read width a) ≡ false → is_width width ≡ true
read_formed width a e = sym (not-not (is_width width)) ∙ ap not e

-- the widths are at most 4
pub width_small : (width : ℕ) → is_width width ≡ true → min width 4 ≡ width
unfolding is_width
width_small width e = go (eqb width 1) (eqb width 2) (eqb width 4) refl refl refl e
  where
    go : (p q r : Bool) → eqb width 1 ≡ p → eqb width 2 ≡ q → eqb width 4 ≡ r → (p || q || r) ≡ true → min width 4 ≡ width
    go true q r a b c h = let k = eqb-true width 1 a in rw k
    go false true r a b c h = let k = eqb-true width 2 b in rw k
    go false false true a b c h = let k = eqb-true width 4 c in rw k
    go false false false a b c h = absurd (true≢false (sym h))
