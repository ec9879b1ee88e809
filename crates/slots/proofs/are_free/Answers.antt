use mathlib.Core.Path.{◌≡◌, refl, ap, ◌∙◌}
use Prim.Native.Nat.{ℕ}
use native.Mathlib.Omega.{arith}
use Rattle.std.specs.declared.slice.ChunksExact.{ChunksExact}
use Rattle.std.specs.Slice.Iter.{chunks_exact_rest, chunks_exact_size}
use Rattle.std.proofs.lemmas.Bool.{true_from_ne_false}
use Rattle.std.proofs.lemmas.Grind.{common_steps}
use Rattle.slots.specs.Area.{slot_size}
use Rattle.slots.proofs.Passing.{if_some, and_some, run_free, run_taken}
use Rattle.slots.proofs.are_free.Goals as goal

cut : (c : goal.After-all) → (chunks_exact_size c.all.ensures.runs.0.from ≡ slot_size) × (chunks_exact_rest c.all.ensures.runs.0.from ≡ c.args.slots.now)
cut c =
    let r = c.all.ensures.runs in
    (ap (λ (i : ChunksExact ℕ). chunks_exact_size i) r.1 ∙ c.chunks_exact.ensures.size, ap (λ (i : ChunksExact ℕ). chunks_exact_rest i) r.1 ∙ c.chunks_exact.ensures.rest)

pub returns-clause-sound : goal.returns-clause-sound
returns-clause-sound c = λ k t l.
    let r = c.all.ensures.runs in
    let e = cut c in
    let u = rw e.1 at (c.chunks_exact.ensures.runs r.0 r.0.seen (omega arith)) in
    let w = rw t at r.2 in
    run_free r.0 _ _ e.0 u w.0 (λ j. if_some (r.0.at j) (w.1 (λ a b f q. refl) j) (λ x q. grind (arith, common_steps))) k l

pub returns-clause-complete : goal.returns-clause-complete
returns-clause-complete c = λ f.
    let r = c.all.ensures.runs in
    let e = cut c in
    let u = rw e.1 at (c.chunks_exact.ensures.runs r.0 r.0.seen (omega arith)) in
    true_from_ne_false c.all.result (λ n.
    let w = rw n at r.2 in
    let t = w (λ a b f q. refl) in
    run_taken r.0 _ _ e.0 u (t.0, t.1, and_some (r.0.at t.0) t.2 (λ x q. grind (arith, common_steps))) f)
