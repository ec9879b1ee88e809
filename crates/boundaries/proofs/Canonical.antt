-- What a body says, and the body of a boundary. Assumes nothing.
use Prim.Native.Nat.{ℕ, zero, suc, ◌+◌, ◌^◌, ◌<◌, ◌≤◌}
use mathlib.Core.Path.{◌≡◌, refl, sym, subst, ◌∙◌}
use mathlib.Core.Bool.{Bool, true, false, cond, ◌&&◌}
use mathlib.Core.List.{List, ◌++◌}
use native.Mathlib.Omega.{arith}
use lib.Dec.{eqb}
use lib.ListN.{length, get_or, drop, take-append-drop, length-drop}
use lib.Seq.{drop-drop, take_all}
use borrow.Author.Tests.{eqb-true}
use Rattle.std.specs.Prelude.{Option, Some, None, option_map, unwrap_or}
use Rattle.fields.specs.Fields.{number_by, field_at, bytes_of}
use Rattle.fields.proofs.Laws.{bytes_number}
use Rattle.std.proofs.lemmas.Bool.{and_parts}
use Rattle.steps.specs.declared.Transfer.{Transfer}
use Rattle.steps.specs.declared.Interruption.{Interruption}
use Rattle.steps.specs.declared.Interruption.TheVariants.{None as NoInterruption, Input, Output, StringInput, StringOutput, RepInput, RepOutput}
use Rattle.steps.specs.declared.Step.{Step}
use Rattle.steps.specs.declared.Step.TheVariants.{Boundary, MalformedBoundary}
use Rattle.steps.specs.Widths.{TransferFits}
use Rattle.boundaries.specs.Boundaries.{boundary_size, smi_in, current_in, code_in, transfer, transfer_in, index_in, interruption_of, unused_zero, boundary_of, body_with, body_of, Recordable, Canonical}

no_transfer : (t : Transfer) → (eqb t.port 0 && eqb t.size 0 && eqb t.value 0) ≡ true → transfer 0 0 0 ≡ t
no_transfer t e =
    let f = and_parts _ _ e in
    let g = and_parts _ _ f.0 in
    let port = eqb-true t.port 0 g.0 in
    let size = eqb-true t.size 0 g.1 in
    let value = eqb-true t.value 0 f.1 in
    λ k. transfer (sym port k) (sym size k) (sym value k)

no_index : (i : ℕ) → eqb i 0 ≡ true → 0 ≡ i
no_index i e = sym (eqb-true i 0 e)

module _ (smi current : ℕ) (t : Transfer) (i : ℕ) where
  -- a code of one of the seven whose unused fields are zero: its body is that of its interruption
  body_said : (code : ℕ) (x : Interruption) → interruption_of code t i ≡ Some x → unused_zero x t i ≡ true
      → body_with smi current code t i ≡ body_of smi current x
  unfolding interruption_of unused_zero body_of
  body_said code x e = go code e
    where
      -- x is the one of the code
      is : (code : ℕ) (y : Interruption) → Some y ≡ Some x → (unused_zero y t i ≡ true → body_with smi current code t i ≡ body_of smi current y)
          → unused_zero x t i ≡ true
          → body_with smi current code t i ≡ body_of smi current x
      is code y e h = let f : y ≡ x = cc e in subst (λ z. unused_zero z t i ≡ true → body_with smi current code t i ≡ body_of smi current z) f h

      go : (code : ℕ) → interruption_of code t i ≡ Some x → unused_zero x t i ≡ true → body_with smi current code t i ≡ body_of smi current x
      go zero e = is 0 NoInterruption e (λ u. let p = and_parts _ _ u in rw (← no_transfer t p.0, ← no_index i p.1))
      go (suc zero) e = is 1 Input e (λ u. let p = and_parts _ _ u in rw (← no_transfer t p.0, ← no_index i p.1))
      go (suc (suc zero)) e = is 2 (Output t) e (λ u. rw (← no_index i u))
      go (suc (suc (suc zero))) e = is 3 (StringInput i) e (λ u. rw (← no_transfer t (and_parts _ _ u).0))
      go (suc (suc (suc (suc zero)))) e = is 4 (StringOutput t i) e (λ u. refl)
      go (suc (suc (suc (suc (suc zero))))) e = is 5 (RepInput i) e (λ u. rw (← no_transfer t (and_parts _ _ u).0))
      go (suc (suc (suc (suc (suc (suc zero)))))) e = is 6 (RepOutput t i) e (λ u. refl)
      go (suc (suc (suc (suc (suc (suc (suc n))))))) e = cc e

-- ---- what a body says

abbrev pub said : List ℕ → Option Interruption
said b = interruption_of (code_in b) (transfer_in b) (index_in b)

pub by_cases : (P : Step → Type 0) (b : List ℕ) → P (Boundary (smi_in b) (current_in b) (unwrap_or (said b) NoInterruption)) → P MalformedBoundary
    → P (boundary_of b)
unfolding boundary_of
by_cases P b p q = go (said b) p
  where
    step : Interruption → Bool → Step
    step x t = cond t (Boundary (smi_in b) (current_in b) x) MalformedBoundary

    as_unused : (x : Interruption) (t : Bool) → P (Boundary (smi_in b) (current_in b) x) → P (step x t)
    as_unused x true h = h
    as_unused x false h = q

    go : (o : Option Interruption) → P (Boundary (smi_in b) (current_in b) (unwrap_or o NoInterruption))
        → P (unwrap_or (option_map (λ x. step x (unused_zero x (transfer_in b) (index_in b))) o) MalformedBoundary)
    go None h = q
    go (Some x) h = as_unused x (unused_zero x (transfer_in b) (index_in b)) h

-- ---- a body that says a boundary

module _ (b : List ℕ) (bytes : (i : ℕ) → get_or b i 0 < 256) where
  part : (at n : ℕ) → at + n ≤ length b → bytes_of n (field_at b at n) ++ drop (at + n) b ≡ drop at b
  part at n h = rw (bytes_number b at n h bytes, ← drop-drop n at b) (take-append-drop n (drop at b))

  -- it is its fields, one after the other
  whole : length b ≡ boundary_size → body_with (smi_in b) (current_in b) (code_in b) (transfer_in b) (index_in b) ≡ b
  whole l =
      let last : bytes_of 4 (field_at b 13 4) ≡ drop 13 b =
      bytes_number b 13 4 (omega arith) bytes ∙ take_all 4 (drop 13 b) (omega (arith, length-drop 13 b)) in
      rw (last, part 9 4 (omega arith), part 8 1 (omega arith), part 6 2 (omega arith), part 5 1 (omega arith), part 1 4 (omega arith), part 0 1 (omega arith))

  pub canonical : Canonical b
  unfolding boundary_of
  canonical smi current x l e = go (said b) refl
    where
      none : boundary_of b ≡ MalformedBoundary → b ≡ body_of smi current x
      none q =
          let m : MalformedBoundary ≡ Boundary smi current x = sym q ∙ e in
          let z : ◌≡◌ {A = ℕ} 0 1 = cc m in
          absurd (omega arith)

      go : (o : Option Interruption) → said b ≡ o → b ≡ body_of smi current x
      go None q = none (rw q)
      go (Some y) q = unused (unused_zero y (transfer_in b) (index_in b)) refl
        where
          unused : (t : Bool) → unused_zero y (transfer_in b) (index_in b) ≡ t → b ≡ body_of smi current x
          unused false r = none (rw (q, r))
          unused true r =
              let said-so : boundary_of b ≡ Boundary (smi_in b) (current_in b) y = rw (q, r) in
              let f : Boundary (smi_in b) (current_in b) y ≡ Boundary smi current x = sym said-so ∙ e in
              let p : smi_in b ≡ smi = cc f in
              let c : current_in b ≡ current = cc f in
              let z : y ≡ x = cc f in
              sym (whole l) ∙ body_said (smi_in b) (current_in b) (transfer_in b) (index_in b) (code_in b) y q r ∙ (λ k. body_of (p k) (c k) (z k))

-- ---- the body of a boundary

module _ (smi current code index : ℕ) (t : Transfer) (fit-smi : smi < 2 ^ 8) (fit-current : current < 2 ^ 32) (fit-code : code < 2 ^ 8)
    (fit : TransferFits t) (fit-index : index < 2 ^ 32) where
  abbrev body : List ℕ
  body = body_with smi current code t index

  smi_in_lem : smi_in body ≡ smi
  unfolding number_by bytes_of
  smi_in_lem = omega arith

  current_in_lem : current_in body ≡ current
  unfolding number_by bytes_of
  current_in_lem = omega arith

  code_in_lem : code_in body ≡ code
  unfolding number_by bytes_of
  code_in_lem = omega arith

  port_in : (transfer_in body).port ≡ t.port
  unfolding number_by bytes_of
  port_in = omega (arith, fit.port)

  size_in : (transfer_in body).size ≡ t.size
  unfolding number_by bytes_of
  size_in = omega (arith, fit.size)

  value_in : (transfer_in body).value ≡ t.value
  unfolding number_by bytes_of
  value_in = omega (arith, fit.value)

  index_in_lem : index_in body ≡ index
  unfolding number_by bytes_of
  index_in_lem = omega arith

  body_says : boundary_of body
      ≡ unwrap_or (option_map (λ x. cond (unused_zero x t index) (Boundary smi current x) MalformedBoundary) (interruption_of code t index)) MalformedBoundary
  unfolding boundary_of
  body_says = rw (smi_in_lem, current_in_lem, code_in_lem, port_in, size_in, value_in, index_in_lem)

none : TransferFits (transfer 0 0 0)
none = record { port = omega arith; size = omega arith; value = omega arith }

pub recordable : Recordable
unfolding interruption_of unused_zero body_of
recordable smi current NoInterruption f = body_says smi current 0 0 _ f.0 f.1 (omega arith) none (omega arith)
recordable smi current Input f = body_says smi current 1 0 _ f.0 f.1 (omega arith) none (omega arith)
recordable smi current (Output t) f = body_says smi current 2 0 t f.0 f.1 (omega arith) f.2 (omega arith)
recordable smi current (StringInput i) f = body_says smi current 3 i _ f.0 f.1 (omega arith) none f.2
recordable smi current (StringOutput t i) f = body_says smi current 4 i t f.0 f.1 (omega arith) f.2.0 f.2.1
recordable smi current (RepInput i) f = body_says smi current 5 i _ f.0 f.1 (omega arith) none f.2
recordable smi current (RepOutput t i) f = body_says smi current 6 i t f.0 f.1 (omega arith) f.2.0 f.2.1
