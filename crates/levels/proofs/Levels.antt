-- Service inside service. Assumes nothing.
use mathlib.Core.Path.{◌≡◌, refl, sym, ap, subst, ◌∙◌}
use mathlib.Core.Bool.{Bool, true, false, and-eq-true_iff}
use mathlib.Core.List.{List}
use mathlib.Core.Logic.{◌⊎◌, inl, inr, ⊎_elim}
use Prim.Native.Nat.{ℕ, ◌+◌, ◌≤◌, ◌<◌}
use native.Mathlib.Omega.{arith}
use lib.ListN.{length, get_or}
use Rattle.region.specs.declared.Region.{Region}
use Rattle.memory.specs.Memory.{Memories}
use Rattle.steps.specs.declared.Step.{Step}
use Rattle.steps.specs.declared.Step.TheVariants.{Opcode}
use Rattle.steps.specs.declared.Answer.TheVariants.{Resumed}
use Rattle.steps.specs.Widths.{StepFits}
use Rattle.refusals.specs.Refusals.{wrong_sizes}
use Rattle.refusals.proofs.Laws.{allowed_taken}
use Rattle.settings.specs.declared.Edition.TheVariants.{Mii}
use Rattle.settings.specs.declared.Settings.{Settings}
use Rattle.settings.specs.Settings.{smhr, region_in, header_end, header_place, opcodes_allowed}
use Rattle.config.specs.declared.Config.{Config}
use Rattle.settings_laws.proofs.Place.{place_below_end}
use Rattle.nesting.specs.Nesting.{enhanced, resumed_settings, stays_inside}
use Rattle.nesting.proofs.Moving.{nothing_moves, last_moves}
use Rattle.header.specs.declared.Saved.{Saved}
use Rattle.header.specs.Header.{level_number, header_length, header_bytes, headed, resumed, nested_in, with_eip}
use Rattle.header.proofs.ReadBack.{registers_back, nested_back, resumed_same, nested_same}
use Rattle.machine.specs.declared.Machine.{Machine}
use Rattle.machine.specs.Machines.{machine, settings_of, with_settings}
use Rattle.machine.specs.Outcomes.{Outcome, gives, ends}
use Rattle.machine.specs.Service.{resume}
use Rattle.machine.specs.Steps.{permitted, valid, stepped}
use Rattle.isolation.specs.Widths.{MachineFits}
use Rattle.isolation.specs.Service.{answer_to, OnlyHeader, Entering, recorded, Resuming, Resume}
use Rattle.isolation.specs.Service.Resuming.{by_rsm}
use Rattle.fields.proofs.Cases.{unlike}
use Rattle.isolation.proofs.Doing.{Able, permitted_able}
use Rattle.isolation.proofs.Edition.{resuming_fits}
use Rattle.isolation.proofs.Entering.{only_header, room, enters}
use Rattle.isolation.proofs.Nesting.{entered_kept, resumed_kept}
use Rattle.isolation.proofs.Service.{answered_allowed, enters_as_stated, resumes_as_stated, resumes_as_entered, recorded_fits, one_way, same_registers, origin, rsm_resumes}
use Rattle.isolation.proofs.Tightness.{resume_determines}
use Rattle.levels.specs.Levels.{place_of, header_of, Stands, OriginRecorded, ReturnsThrough, Overwritten, NeverOut, Moved, BothStand, BothReturn, NothingNests}

-- ---- a header by its bytes

-- a header that stands is as good as one that was just written
stands_written : (g : List ℕ) (at : ℕ) (s : Saved) → at + header_length ≤ length g → Stands g at (header_bytes s)
    → (i : ℕ) → i < header_length → get_or g (at + i) 0 ≡ get_or (headed g at s) (at + i) 0
stands_written g at s room stands i l = stands i l ∙ sym ((only_header g at s room).header i l)

-- ---- one header

-- the header that an entry writes, by any name of the way
pub entry_header : (m : Machine) (x : Memories) (s : Step) → answer_to m x s ≡ 11 → (by : Entering m s)
    → OnlyHeader x.management (stepped m x s).memory.management (place_of m) (header_of m by)
entry_header m x s h by =
    let e = enters_as_stated m x s h in
    rw (one_way m by e.by) e.management

-- where RSM is valid there is room for a header
resuming_able : (k : Machine) (y : Memories) {s : Step} → Resuming k s → wrong_sizes y ≡ false → Able k y
unfolding valid
resuming_able k y (by_rsm {op} {modrm} {a} {next} d v) z =
    permitted_able k y z ((and-eq-true_iff (permitted k) _).0 v).0 (resuming_fits k (by_rsm {op = op} {modrm = modrm} {a = a} {next = next} d v))

pub returns_through : ReturnsThrough
unfolding stays_inside
returns_through m k y s modrm a next f w by stands h =
    let rsm = Opcode 0xaa modrm a next in
    let r = resumes_as_stated k y rsm h in
    let saved = recorded m by in
    let sized = (allowed_taken k.halted y rsm (answered_allowed k y rsm (omega (arith, h)))).sizes in
    let fits = recorded_fits m by f w in
    let at = place_of k in
    let g = y.management in
    let there = room k y (resuming_able k y r.by sized) in
    let same = stands_written g at saved there stands in
    record {
      registers = r.registers ∙ resumed_same g (headed g at saved) at same ∙ registers_back g at saved there fits ∙ rw (same_registers m by);
      inside = r.inside ∙ rw (nested_same g (headed g at saved) at same, nested_back g at saved there fits, (origin m by).0);
    }

-- what an entry wrote is read back
module _ (m : Machine) (x : Memories) (s : Step) (f : MachineFits m) (w : StepFits s) (h : answer_to m x s ≡ 11) (by : Entering m s) where
  abbrev after : List ℕ
  after = (stepped m x s).memory.management

  there : place_of m + header_length ≤ length x.management
  there = room m x (enters m x s h).able

  abbrev written : List ℕ
  written = headed x.management (place_of m) (recorded m by)

  as_written : (i : ℕ) → i < header_length → get_or after (place_of m + i) 0 ≡ get_or written (place_of m + i) 0
  as_written i l = (entry_header m x s h by).header i l ∙ sym ((only_header x.management (place_of m) (recorded m by) there).header i l)

  pub registers_there : resumed after (place_of m) ≡ with_eip m.registers (recorded m by).next
  registers_there =
      resumed_same after written (place_of m) as_written
      ∙ registers_back x.management (place_of m) (recorded m by) there (recorded_fits m by f w)
      ∙ rw (same_registers m by)

  origin_there : nested_in after (place_of m) ≡ m.inside
  origin_there =
      nested_same after written (place_of m) as_written
      ∙ nested_back x.management (place_of m) (recorded m by) there (recorded_fits m by f w)
      ∙ (origin m by).0

pub origin_recorded : OriginRecorded
origin_recorded m x s f w h = origin_there m x s f w h (enters m x s h).by

-- ---- two headers at one place

-- a header over a header
over : {g g' g'' : List ℕ} {at : ℕ} {b c : List ℕ} → OnlyHeader g g' at b → OnlyHeader g' g'' at c → OnlyHeader g g'' at c
over o p = record {
  long = p.long;
  fits = o.fits;
  same = p.same ∙ o.same;
  below = λ i l. p.below i l ∙ o.below i l;
  header = p.header;
  above = λ i l. p.above i l ∙ o.above i l;
}

pub overwritten : Overwritten
overwritten m n x y s t h k left place by =
    let g = (stepped n y t).memory.management in
    over (entry_header m x s h (enters m x s h).by)
    (subst (λ (l : List ℕ). OnlyHeader l g (place_of m) (header_of n by)) left
    (subst (λ (at : ℕ). OnlyHeader y.management g at (header_of n by)) place (entry_header n y t k by)))

module _ (m : Machine) (x : Memories) (s : Step) (f : MachineFits m) (w : StepFits s) (h : answer_to m x s ≡ 11) (inside : m.inside ≡ true)
    (level : level_number m.registers.level ≡ 0) where
  abbrev t : Settings
  t = settings_of m

  abbrev e : Outcome
  e = stepped m x s

  way : Entering m s
  way = (enters m x s h).by

  -- the machine after the first RSM
  abbrev back : Machine
  back =
      with_settings (machine (with_eip m.registers (recorded m way).next) m.segments false m.inside e.stepped.machine.latched m.config)
      (resumed_settings t)

  back_permitted : permitted back ≡ true
  unfolding permitted opcodes_allowed
  back_permitted =
      let able = (enters m x s h).able in
      rw (level, inside, (resumed_kept t).opcodes, able.on, able.usable)

  module _ (modrm a next : ℕ) where
    abbrev first : Outcome
    first = stepped e.stepped.machine e.memory (Opcode 0xaa modrm a next)

    first_back : Resume m s way e first
    first_back = resumes_as_entered m x s modrm a next f w h way

    sized : wrong_sizes e.memory ≡ false
    sized =
        let rsm = Opcode 0xaa modrm a next in
        let n = e.stepped.machine in
        (allowed_taken n.halted e.memory rsm (answered_allowed n e.memory rsm (omega (arith, first_back.answer)))).sizes

    stays : (modrm' a' next' : ℕ) → stepped back e.memory (Opcode 0xaa modrm' a' next') ≡ ends (gives back Resumed) e.memory
    unfolding resume stays_inside
    stays modrm' a' next' =
        let able = (enters m x s h).able in
        rsm_resumes back e.memory modrm' a' next' sized refl inside back_permitted (rw (resumed_kept t).fits able.fits)
        ∙ rw (
          (resumed_kept t).place,
          (resumed_kept t).enhanced,
          registers_there m x s f w h way,
          origin_there m x s f w h way,
          (last_moves t).1,
          (origin m way).1 inside,
        )

pub never_out : NeverOut
never_out m x s modrm a next modrm' a' next' f w inside level h =
    let r = first_back m x s f w h inside level modrm a next in
    let e = resume_determines m s (way m x s f w h inside level) (stepped m x s) _ r in (
      r.answer,
      r.inside ∙ inside,
      rw e (stays m x s f w h inside level modrm a next modrm' a' next'),
    )

-- ---- two headers with SMHR moved between

end_is : (t : Settings) → t.edition ≡ Mii → header_end t ≡ smhr t
unfolding header_end
end_is t e = rw e

module _ (m n : Machine) (x y : Memories) (s t : Step) (h : answer_to m x s ≡ 11) (k : answer_to n y t ≡ 11) (moved : Moved m n) where
  -- the places are as far apart as the ends
  outer_end : (region_in (settings_of m)).base + place_of m + header_length ≡ smhr (settings_of m)
  outer_end = place_below_end (settings_of m) (enters m x s h).able.fits ∙ end_is (settings_of m) moved.outer

  inner_end : (region_in (settings_of m)).base + place_of n + header_length ≡ smhr (settings_of n)
  inner_end =
      ap (λ (r : Region). r.base + place_of n + header_length) (sym moved.region)
      ∙ place_below_end (settings_of n) (enters n y t k).able.fits
      ∙ end_is (settings_of n) moved.inner

  apart : (place_of n + header_length ≤ place_of m) ⊎ (place_of m + header_length ≤ place_of n)
  apart =
      ⊎_elim (λ l. inl (omega (arith, l, outer_end, inner_end))) (λ l. inr (omega (arith, l, outer_end, inner_end))) moved.by_48

  others_stand : (inner : Entering n t) (bytes : List ℕ) → Stands y.management (place_of m) bytes
      → Stands (stepped n y t).memory.management (place_of m) bytes
  others_stand inner bytes stands i l =
      let p = entry_header n y t k inner in
      ⊎_elim (λ q. p.above (place_of m + i) (omega arith) ∙ stands i l) (λ q. p.below (place_of m + i) (omega arith) ∙ stands i l) apart

pub both_stand : BothStand
both_stand m n x y s t h k moved outer inner stands =
    (others_stand m n x y s t h k moved inner (header_of m outer) stands, (entry_header n y t k inner).header)

pub both_return : BothReturn
both_return m n l x y z s t modrm a next fm fn ws wt h k moved outer inner stands place same resumed =
    let rsm = Opcode 0xaa modrm a next in
    let f = stepped n y t in
    let stand = both_stand m n x y s t h k moved outer inner stands in
    let kept = (enters_as_stated n y t k).config in
    let at : place_of f.stepped.machine ≡ place_of n
    = ap (λ (c : Config). header_place c.settings) kept ∙ (entered_kept (settings_of n)).place in
    let r = resumes_as_entered n y t modrm a next fn wt k inner in
    record {
      first = returns_through n f.stepped.machine f.memory t modrm a next fn wt inner (rw at stand.1) r.answer;
      second = returns_through m l z s modrm a next fm ws outer (rw place (λ i q. same i q ∙ stand.0 i q)) resumed;
    }

-- ---- no nesting

pub nothing_nests : NothingNests
unfolding stays_inside
nothing_nests m x s none =
    let still = nothing_moves (settings_of m) none in (
      λ h.
          let e = enters_as_stated m x s h in
          (outside m.inside (origin m e.by).1, e.config ∙ rw still.0),
      λ h.
          let r = resumes_as_stated m x s h in
          (r.inside ∙ rw none, r.config ∙ rw still.1),
    )
  where
    outside : (b : Bool) → (b ≡ true → enhanced (settings_of m) ≡ true) → b ≡ false
    outside true f = unlike (f refl) none
    outside false f = refl
