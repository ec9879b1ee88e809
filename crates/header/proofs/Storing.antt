-- Words stored one after the other. Assumes nothing.
use mathlib.Core.Path.{◌≡◌, sym, ap, ◌∙◌}
use mathlib.Core.List.{List, flat_map}
use Prim.Native.Nat.{ℕ, suc, ◌+◌, ◌*◌, ◌<◌}
use native.Mathlib.Omega.{arith}
use lib.ListN.{length, get_or, drop}
use lib.Seq.{sets, drop-cons}
use Rattle.fields.specs.Fields.{bytes_of}
use Rattle.header.specs.Header.{words_bytes}

-- a loop's turn: what is left to store after the next word
pub turn : (l l' o ws : List ℕ) (at i : ℕ) → i < length ws → l' ≡ sets l (at + 4 * i) (bytes_of 4 (get_or ws i 0))
    → sets l (at + 4 * i) (words_bytes (drop i ws)) ≡ o → sets l' (at + 4 * (i + 1)) (words_bytes (drop (i + 1) ws)) ≡ o
unfolding bytes_of flat_map
turn l l' o ws at i h e f =
    let g : at + 4 * (i + 1) ≡ suc (suc (suc (suc (at + 4 * i)))) = omega arith in
    let k : i + 1 ≡ suc i = omega arith in
    rw (g, k, e) (sym (ap (λ (x : List ℕ). sets l (at + 4 * i) (words_bytes x)) (drop-cons ws i 0 h)) ∙ f)
