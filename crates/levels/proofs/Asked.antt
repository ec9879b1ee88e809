-- What the hypotheses ask for, and what the claims settle. Assumes nothing.
use mathlib.Core.Path.{refl, sym, ap, ◌∙◌}
use mathlib.Core.List.{List}
use mathlib.Core.Logic.{⊎_elim, inl, inr}
use Prim.Native.Nat.{ℕ, ◌+◌}
use native.Mathlib.Omega.{arith}
use lib.ListN.{get_or}
use Rattle.fields.proofs.Storing.{stored_byte}
use Rattle.isolation.proofs.Tightness.{header_determines}
use Rattle.levels.specs.Asked.{StandsAsStored, ThroughSettles, MovedAsked}

pub stands_as_stored : StandsAsStored
stands_as_stored g at bytes long fits = (
  λ stands.
      sym
      (header_determines g g at bytes (record {
        long = long;
        fits = fits;
        same = refl;
        below = λ i l. refl;
        header = stands;
        above = λ i l. refl;
      })),
  λ same i l. ap (λ (h : List ℕ). get_or h (at + i) 0) (sym same) ∙ stored_byte g bytes at i (omega arith) (omega arith),
)

pub through_settles : ThroughSettles
through_settles m k s by o o' p q = (p.registers ∙ sym q.registers, p.inside ∙ sym q.inside)

pub moved_asked : MovedAsked
moved_asked m n outer inner high middle low apart = record {
  outer = outer;
  inner = inner;
  region = rw (high, middle, low);
  by_48 = ⊎_elim (λ l. inl (omega (arith, l))) (λ l. inr (omega (arith, l))) apart;
}
