-- Laws of regions that callers use. Assumes nothing.
use mathlib.Core.Path.{◌≡◌, refl, sym, ◌∙◌}
use mathlib.Core.Bool.{Bool, true, false, ◌&&◌, and-eq-true_iff, true≢false}
use Prim.Native.Nat.{ℕ, ◌+◌, ◌≤◌, ◌<◌}
use native.Mathlib.Omega.{arith}
use lib.Dec.{leb}
use borrow.Author.Tests.{leb-true, leb-false, ltb-true, le-leb, lt-ltb}
use Rattle.region.specs.Region.{size_of, usable, within}
use Rattle.region.specs.declared.Region.{Region}
use Rattle.region.proofs.Usable.{usable_has}

-- what an address in a region has
pub record Within (r : Region) (a : ℕ) : Type 0 where
  pub in_usable : usable r ≡ true
  pub low : r.base ≤ a
  pub high : a < r.base + size_of r.code

pub within_has : (r : Region) (a : ℕ) → within r a ≡ true → Within r a
unfolding within
within_has r a e =
    let p = (and-eq-true_iff (usable r && _) _).0 e in
    let q = (and-eq-true_iff (usable r) _).0 p.0 in
    record { in_usable = q.0; low = omega (arith, leb-true _ a q.1); high = omega (arith, ltb-true a _ p.1) }

pub within_is : (r : Region) (a : ℕ) → Within r a → within r a ≡ true
unfolding within
within_is r a h = simp (h.in_usable, le-leb r.base a h.low, lt-ltb a (r.base + size_of r.code) h.high)

-- an address without these is outside
pub outside_is : (r : Region) (a : ℕ) → (Within r a → ⊥) → within r a ≡ false
outside_is r a n = go (within r a) refl
  where
    go : (t : Bool) → within r a ≡ t → within r a ≡ false
    go false e = e
    go true e = absurd (n (within_has r a e))

module _ (r : Region) (a b k : ℕ) (l : a ≤ k) (h : k ≤ b) where
  -- between two addresses in it every address is in it
  pub within_between : within r a ≡ true → within r b ≡ true → within r k ≡ true
  within_between e f =
      let p = within_has r a e in
      let q = within_has r b f in
      within_is r k (record { in_usable = p.in_usable; low = omega (arith, p.low); high = omega (arith, q.high) })

  -- and between two outside it that are less than the least size apart none is
  pub outside_between : b < a + 4096 → within r a ≡ false → within r b ≡ false → within r k ≡ false
  outside_between m e f = outside_is r k (below (leb r.base a) refl)
    where
      unlike : (c : ℕ) → within r c ≡ false → Within r c → ⊥
      unlike c g w = true≢false (sym (within_is r c w) ∙ g)

      below : (t : Bool) → leb r.base a ≡ t → Within r k → ⊥
      below true g p = unlike a e (record { in_usable = p.in_usable; low = leb-true r.base a g; high = omega (arith, p.high) })
      below false g p =
          let u = usable_has r p.in_usable in
          let n = leb-false r.base a g in
          unlike b f (record { in_usable = p.in_usable; low = omega (arith, p.low); high = omega (arith, u.least) })
