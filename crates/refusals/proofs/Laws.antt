-- What follows from the first refusal. Assumes nothing.
use mathlib.Core.Path.{◌≡◌, refl, sym, ap, ◌∙◌}
use mathlib.Core.Bool.{Bool, true, false, cond, not, ◌&&◌, ◌||◌, and-eq-true_iff, not-not}
use Prim.Native.Nat.{ℕ, ◌+◌, ◌-◌, ◌<◌}
use native.Mathlib.Omega.{arith}
use Rattle.std.proofs.Common.{Option, Some, None}
use Rattle.std.proofs.lemmas.Bool.{or_parts}
use lib.Dec.{leb, ltb, eqb}
use lib.ListN.{length}
use borrow.Author.Tests.{eqb-true, leb-false}
use Rattle.region.specs.declared.Region.{Region}
use Rattle.region.specs.Region.{within}
use Rattle.region.proofs.Laws.{within_has}
use Rattle.region.proofs.Usable.{usable_has}
use Rattle.memory.specs.Memory.{Memories, Cell, cell_of, absent, there}
use Rattle.memory.proofs.Cells.{Held, each_there}
use Rattle.steps.specs.declared.Answer.{Answer}
use Rattle.steps.specs.declared.Answer.TheVariants.{WrongSize, Malformed, WhileHalted}
use Rattle.steps.specs.declared.Step.{Step}
use Rattle.steps.specs.Steps.{malformed}
use Rattle.refusals.specs.Refusals.{largest_main, management_size, wrong_sizes, malformed_on, program_while_halted, first_refusal}

-- what the sizes are where they are not wrong
pub record Sized (x : Memories) : Type 0 where
  pub main_fits : leb (length x.main) largest_main ≡ true
  pub management_whole : length x.management ≡ management_size

pub sizes : (x : Memories) → wrong_sizes x ≡ false → Sized x
unfolding wrong_sizes
sizes x e =
    let both = leb (length x.main) largest_main && eqb (length x.management) management_size in
    let p = (and-eq-true_iff _ _).0 (sym (not-not both) ∙ ap not e) in
    record { main_fits = p.0; management_whole = eqb-true _ management_size p.1 }

-- there a byte that isn't absent is below its memory's end
pub held : (w : Region) (x : Memories) (a : ℕ) → wrong_sizes x ≡ false → absent w (length x.main) a ≡ false → Held x (cell_of w a)
unfolding absent cell_of
held w x a z h = go (within w a) refl h
  where
    go : (t : Bool) → within w a ≡ t → (ltb 0xffffffff a || (not t && leb (length x.main) a)) ≡ false
        → Held x (cond t (Cell.InManagement (a - w.base)) (Cell.InMain a))
    go true e h =
        let p = within_has w a e in
        omega (arith, p.low, p.high, (usable_has w p.in_usable).most, (sizes x z).management_whole)
    go false e h = leb-false (length x.main) a (or_parts (ltb 0xffffffff a) _ h).1

-- and so is each of several that are there
pub all_held : (w : Region) (x : Memories) (a n : ℕ) → wrong_sizes x ≡ false → there w x a n ≡ true → (t : ℕ) → t < n → Held x (cell_of w (a + t))
all_held w x a n z h t l = held w x (a + t) z (each_there w (length x.main) a n h t l)

-- no refusal is called for
pub record Taken (halted : Bool) (x : Memories) (s : Step) : Type 0 where
  pub sizes : wrong_sizes x ≡ false
  pub formed : malformed_on halted s ≡ false
  pub awake : program_while_halted halted s ≡ false

module _ (halted : Bool) (x : Memories) (s : Step) where
  -- what holds of each verdict, where it is called for, holds of the first
  pub by_verdict : (P : Option Answer → Type 0) → (wrong_sizes x ≡ true → P (Some WrongSize)) → (malformed_on halted s ≡ true → P (Some Malformed))
      → (program_while_halted halted s ≡ true → P (Some WhileHalted)) → (Taken halted x s → P None) → P (first_refusal halted x s)
  unfolding first_refusal
  by_verdict P size form halt take = go (wrong_sizes x) refl (malformed_on halted s) refl (program_while_halted halted s) refl
    where
      go : (p : Bool) → wrong_sizes x ≡ p → (q : Bool) → malformed_on halted s ≡ q → (r : Bool) → program_while_halted halted s ≡ r
          → P (cond p (Some WrongSize) (cond q (Some Malformed) (cond r (Some WhileHalted) None)))
      go true a q b r c = size a
      go false a true b r c = form b
      go false a false b true c = halt c
      go false a false b false c = take (record { sizes = a; formed = b; awake = c })

  pub allowed_taken : first_refusal halted x s ≡ None → Taken halted x s
  allowed_taken = by_verdict (λ v. v ≡ None → Taken halted x s) (λ _. not_refused WrongSize) (λ _. not_refused Malformed) (λ _. not_refused WhileHalted) (λ t _. t)
    where
      not_refused : (a : Answer) → Some a ≡ None → Taken halted x s
      not_refused a e = cc

  pub taken_allowed : Taken halted x s → first_refusal halted x s ≡ None
  unfolding first_refusal
  taken_allowed t = rw (t.sizes, t.formed, t.awake)

  -- a step that is allowed is well formed in itself
  pub allowed_formed : first_refusal halted x s ≡ None → malformed s ≡ false
  unfolding malformed_on
  allowed_formed e = (or_parts (malformed s) _ (allowed_taken e).formed).0
