use Rattle.std.proofs.Common.{◌≡◌, ℕ, ◌≤◌, length, arith}
use Rattle.std.specs.Prelude.{min, replicate}
use Rattle.std.proofs.lemmas.List.{length-replicate}
use Rattle.sizes.proofs.show.Goals as goal

-- by a law of any length: the search would count out the million bytes
within : (n k size : ℕ) → k ≡ min size n → k ≤ length (replicate {A = ℕ} n 0)
within n k size e = let l : length (replicate {A = ℕ} n 0) ≡ n = length-replicate n 0 in omega arith

pub slice_bounds-main-end : goal.slice_bounds-main-end
slice_bounds-main-end g c = within 1048577 _ _ c.min-m.ensures
