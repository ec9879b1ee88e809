-- A trace that goes on after another, and what two of them print. Assumes nothing.
use Prim.Native.Nat.{ℕ, ◌-◌, ◌≤◌, ◌<◌}
use mathlib.Core.Path.{◌≡◌, refl, sym, ap, ◌∙◌}
use mathlib.Core.Bool.{Bool, true, false, cond}
use mathlib.Core.List.{List, [], ◌∷◌, ◌++◌, append_assoc}
use native.Mathlib.Omega.{arith}
use lib.ListN.{length, take, drop, length-take}
use lib.Seq.{drop-append_seam, get_or-take}
use Rattle.steps.specs.declared.Step.{Step}
use Rattle.steps.specs.declared.Step.TheVariants.{Wake}
use Rattle.memory.specs.Memory.{Memories, memories}
use Rattle.machine.specs.declared.Machine.{Machine}
use Rattle.machine.specs.Steps.{stepped}
use Rattle.runs.specs.Runs.{run, answers_of}
use Rattle.lines.specs.declared.Reason.{Reason}
use Rattle.lines.specs.declared.Reason.TheVariants as why
use Rattle.lines.specs.Lines.{lines_of, text_of}
use Rattle.scripts.specs.Scripts.{Script, record_limit, group_levels, is_end, joins, exceeds, whole, limited, script_of}
use Rattle.scripts.proofs.Reading.{false_true}
use Rattle.scripts.proofs.Limits.{ends, end_fits, limited_joins, limited_all}
use Rattle.scripts.proofs.Writing.{concatenates}
use Rattle.player.specs.Player.{playing}
use Rattle.isolation.specs.Isolation.{NoReset}
use Rattle.isolation.proofs.Isolation.{same_answers}
use Rattle.replays.specs.Texts.{text_within, AlikeWithin, SameTexts, GoesOn, text_after, Leads, SameAfter}
use Rattle.replays.proofs.Texts.{line_for, text_is, alike, through_entered_asked}

pub alike_within : AlikeWithin
alike_within n m main g h trace from equal none =
    let t = limited n (whole trace) in
    alike t.reason (answers_of (run m (memories main g) t.steps)) (answers_of (run m (memories main h) t.steps))
    (same_answers m main g h t.steps from equal none)

pub same_texts : SameTexts
same_texts m main g h trace from equal none alone =
    (alike_within record_limit m main g h trace from equal none).texts
    (through_entered_asked.0 (answers_of (playing m (memories main g) trace)) (script_of trace).reason alone)

-- ---- a trace after another

-- a script that ends within a limit is all that there is
module _ (n : ℕ) (u : Script) (e : (limited n u).reason ≡ why.End) where
  ends_there : u.reason ≡ why.End
  unfolding limited
  ends_there = by (exceeds (length u.steps) n u.reason) e
    where
      by : (b : Bool) → cond b why.Limit u.reason ≡ why.End → u.reason ≡ why.End
      by true f = absurd (false_true (ap is_end f))
      by false f = f

  as_ends : u ≡ ends u.steps
  as_ends = ap (λ (r : Reason). record { steps = u.steps; reason = r }) ends_there

  few : length u.steps ≤ n
  few = end_fits u.steps n (rw as_ends at e)

  all_read : limited n u ≡ u
  all_read = ap (limited n) as_ends ∙ limited_all u.steps n few ∙ sym as_ends

text_joins : (m : Machine) (x : Memories) (ss ts : List Step) (r : Reason)
    → let a = run m x ss in
    text_of (answers_of (run m x (ss ++ ts))) r ≡ lines_of (answers_of a) ++ text_of (answers_of (run a.machine a.memory ts)) r
unfolding run lines_of
text_joins m x [] ts r = refl
text_joins m x (s ∷ ss) ts r =
    let o = stepped m x s in
    let a = o.stepped.answer in
    text_is a (answers_of (run o.stepped.machine o.memory (ss ++ ts))) r
    ∙ ap (λ (t : List ℕ). line_for a ++ t) (text_joins o.stepped.machine o.memory ss ts r)
    ∙ sym (append_assoc (line_for a) (lines_of (answers_of (run o.stepped.machine o.memory ss))) _)

-- what the player takes of p and then q
abbrev taken : List ℕ → List ℕ → Script
taken p q = joins (script_of p).steps (limited (record_limit - length (script_of p).steps) (whole q))

script_joins : (p q : List ℕ) → (script_of p).reason ≡ why.End → script_of (p ++ q) ≡ taken p q
script_joins p q e =
    let w = whole p in
    let s : script_of p ≡ w = all_read record_limit w e in
    ap (limited record_limit) (concatenates group_levels p q (ap is_end (ends_there record_limit w e)))
    ∙ limited_joins w.steps record_limit (whole q) (few record_limit w e)
    ∙ ap (λ (u : Script). joins u.steps (limited (record_limit - length u.steps) (whole q))) (sym s)

pub goes_on : GoesOn
goes_on m x p q e =
    ap (λ (u : Script). text_of (answers_of (run m x u.steps)) u.reason) (script_joins p q e)
    ∙ text_joins m x (script_of p).steps (limited (record_limit - length (script_of p).steps) (whole q)).steps (taken p q).reason

-- ---- after two of them

fewer_no_reset : (k n : ℕ) (ss : List Step) → k ≤ n → NoReset (take n ss) → NoReset (take k ss)
fewer_no_reset k n ss l none i h =
    let j : i < length (take n ss) = rw length-take (omega (arith, rw length-take at h)) in
    let w : i < k = omega (arith, rw length-take at h) in
    let v : i < n = omega arith in
    rw (get_or-take k ss i Wake, ← get_or-take n ss i Wake) (none i j)

pub led : (m : Machine) (x : Memories) (p q : List ℕ) (m' : Machine) (main g : List ℕ) → Leads m x p m' main g
    → text_after m x p q ≡ text_within (record_limit - length (script_of p).steps) m' (memories main g) q
led m x p q m' main g a =
    ap (drop (length (lines_of (answers_of (playing m x p))))) (goes_on m x p q a.ends)
    ∙ drop-append_seam (lines_of (answers_of (playing m x p))) _
    ∙ (λ i. text_within (record_limit - length (script_of p).steps) (a.machine_is i) (a.memory_is i) q)

pub same_after : SameAfter
unfolding limited
same_after m x y p p' q m' main g h a b e from equal none =
    let n = record_limit - length (script_of p).steps in
    let s = alike_within n m' main g h q from equal (fewer_no_reset n record_limit (whole q).steps (omega arith) none) in
    rw (led m x p q m' main g a, led m y p' q m' main h b, ← e) s
