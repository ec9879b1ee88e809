-- What a call leaves is in a history again, and what it answers is what is promised, of any area and after every history. Assumes nothing.
use mathlib.Core.Path.{◌≡◌, sym, ap, ◌∙◌}
use mathlib.Core.List.{List, [], ◌∷◌, ◌++◌}
use Prim.Native.Nat.{ℕ, ◌<◌}
use native.Mathlib.Omega.{arith}
use borrow.Author.Tests.{ne_eqb, lt-leb}
use Rattle.slots.specs.Area.{slot_count, first_free, ceiling_before, ceiling}
use Rattle.slots.proofs.Holding.{Holds, formed, first_free_lem, ceiling_is}
use Rattle.journal.specs.declared.Counter.{Counter}
use Rattle.std.specs.Prelude.{Ok, Err}
use Rattle.journal.specs.Stores.{store_count}
use Rattle.journal.specs.Answers.{Started, Handed, Raised, restart_of, next_of, refuses_raise, Left, left, raise_of, raise_part_of}
use Rattle.recovery.specs.Cuts.{Finds, found_after}
use Rattle.histories.specs.Histories.{off, on, IsU64, fresh, restart, next, raise, part}
use Rattle.histories.specs.Closed.{RestartGoesOn, RestartKept, NextGoesOn, RaiseGoesOn, RaiseKept, NoneTwice, RestartHeld, NextIsAbove, FoundAround, RaiseHeld, FirstRaise}
use Rattle.histories.proofs.Lists.{last_above}
use Rattle.histories.proofs.Every.{every_history, fresh_holds}

pub restart_goes_on : (a : List ℕ) → RestartGoesOn a
restart_goes_on a r ns h = restart h (every_history a r ns h).restarts

pub restart_kept : (a : List ℕ) (s : Started) → s ≡ restart_of a → RestartKept a s
restart_kept a s e ns p = e ∙ p.restarts

pub next_goes_on : (a : List ℕ) (c : Counter) (x : Handed) → x ≡ next_of c a → NextGoesOn a c x
next_goes_on a c (Ok (n, c')) e ns h = next h (sym e)
next_goes_on a c (Err x) e ns h = tt

module _ (a b : List ℕ) (x : Raised) (v : ℕ) (w : IsU64 v) where
  pub raise_goes_on : left x b ≡ raise_of a v → RaiseGoesOn a b
  raise_goes_on e c ns h = rw (ap (λ (l : Left). l.area) e) (raise v w h)

  pub part_goes_on : (n : ℕ) → left x b ≡ raise_part_of a v n → RaiseGoesOn a b
  part_goes_on n e c ns h = rw (ap (λ (l : Left). l.area) e) (part v n w h)

  module _ (s : Started) (f : s ≡ restart_of b) where
    pub raise_kept : left x b ≡ raise_of a v → RaiseKept a v store_count x s
    raise_kept e ns p = f ∙ rw (ap (λ (l : Left). l.area) e, ap (λ (l : Left). l.answer) e) (p.raises v w).whole

    pub part_kept : (n : ℕ) → left x b ≡ raise_part_of a v n → RaiseKept a v n x s
    part_kept n e ns p = f ∙ rw (ap (λ (l : Left). l.area) e, ap (λ (l : Left). l.answer) e) ((p.raises v w).cut n)

pub none_twice : NoneTwice
none_twice a ns p i j l o e = let r = p.rises i j l o in absurd (omega arith)

-- ---- after every history

pub restart_held : (a : List ℕ) (s : Started) → s ≡ restart_of a → RestartHeld a s
restart_held a s e r ns h = e ∙ (every_history a r ns h).restarts

pub next_is_above : (a : List ℕ) (c : Counter) (x : Handed) → x ≡ next_of c a → NextIsAbove a c x
next_is_above a c (Ok (n, c')) e ns h = last_above ns n c' (every_history a (on c') (ns ++ (n ∷ [])) (next h (sym e))).rises
next_is_above a c (Err x) e ns h = tt

-- an area with no ceiling accepts a raise to every value above 0
first_done : (a : List ℕ) (v : ℕ) → Holds a 0 → 0 < v → (raise_of a v).answer ≡ Ok tt
unfolding raise_of refuses_raise ceiling_before
first_done a v h l =
    let c : ceiling a ≡ 0 = ceiling_is h in
    rw (formed h, ne_eqb (first_free a) slot_count (λ e. omega (arith, first_free_lem h)), lt-leb v (ceiling a) (omega arith))

-- a raise that left b and answered x, and the restart after it
module _ (a b : List ℕ) (x : Raised) (v : ℕ) (w : IsU64 v) (after : Started) (f : after ≡ restart_of b) where
  pub first_raise : left x b ≡ raise_of a v → FirstRaise a v x after
  first_raise g z l =
      let d : x ≡ Ok tt = ap (λ (k : Left). k.answer) g ∙ first_done a v (rw z fresh_holds) l in
      let p = ((every_history a off [] (rw z fresh)).raises v w).whole in
      (d, f ∙ rw (ap (λ (k : Left). k.area) g) (rw (sym (ap (λ (k : Left). k.answer) g) ∙ d) at p))

  -- and the restart before it
  module _ (before : Started) (e : before ≡ restart_of a) where
    around : (n : ℕ) (l : Left) → left x b ≡ l → Finds a (ceiling a) → Finds l.area (found_after l.answer (ceiling a) v n)
        → FoundAround before v n x after
    around n l g old new = rw (e ∙ old, f) (rw (ap (λ (k : Left). k.area) g, ap (λ (k : Left). k.answer) g) new)

    pub raise_held : left x b ≡ raise_of a v → RaiseHeld a v store_count before x after
    raise_held g r ns h = let p = every_history a r ns h in around store_count _ g p.restarts (p.raises v w).whole

    pub part_held : (n : ℕ) → left x b ≡ raise_part_of a v n → RaiseHeld a v n before x after
    part_held n g r ns h = let p = every_history a r ns h in around n _ g p.restarts ((p.raises v w).cut n)
