-- The examples. Their management memories are taken as any list of the right length: none is ever written out. Assumes nothing.
use mathlib.Core.Path.{◌≡◌, refl, ap, ◌∙◌}
use mathlib.Core.Bool.{true, false}
use mathlib.Core.List.{List, []}
use mathlib.Core.Logic.{◌⊎◌, inl, inr}
use Prim.Native.Nat.{ℕ, ◌+◌, ◌≤◌}
use native.Mathlib.Omega.{arith}
use lib.ListN.{length, replicate}
use Rattle.region.specs.Region.{region_of, size_of, usable}
use Rattle.memory.specs.Memory.{Memories, memories}
use Rattle.steps.specs.declared.Interruption.TheVariants.{None}
use Rattle.steps.specs.Widths.{StepFits}
use Rattle.refusals.specs.Refusals.{malformed_on, program_while_halted}
use Rattle.settings.specs.declared.Edition.TheVariants.{Cx486, Mii}
use Rattle.settings.specs.Settings.{smhr, header_end, header_fits, header_place, enabled, opcodes_allowed, with_byte, with_smhr}
use Rattle.settings_laws.proofs.Place.{smhr_loaded_lem}
use Rattle.nesting.specs.Nesting.{enhanced, nestable}
use Rattle.header.specs.declared.Registers.{Registers}
use Rattle.header.specs.declared.Saved.{Saved}
use Rattle.header.specs.Header.{header_length}
use Rattle.header.specs.Header.Word.{Flags}
use Rattle.opcodes.specs.Decode.{operation_of}
use Rattle.machine.specs.declared.Machine.{Machine}
use Rattle.machine.specs.Machines.{settings_of}
use Rattle.machine.specs.Steps.{permitted, valid, stepped}
use Rattle.config.specs.declared.Config.{Config}
use Rattle.isolation.specs.Widths.{MachineFits}
use Rattle.isolation.proofs.Nesting.{entered_kept}
use Rattle.isolation.specs.Service.{answer_to, Entering, recorded, Resuming}
use Rattle.isolation.specs.Service.Entering.{at_boundary}
use Rattle.isolation.specs.Service.Resuming.{by_rsm}
use Rattle.isolation.specs.Examples.{locked, filled, rsm}
use Rattle.isolation.proofs.Service.{enters_where_due, enters_as_stated, resumes_where_due}
use Rattle.isolation.proofs.Pointers.{at_one, word_back}
use Rattle.isolation.proofs.Examples.{allowed, boundary_allowed, full, locked_fits, sample_fits, due_at_boundary, entry_example}
use Rattle.levels.specs.Levels.{place_of, header_of, Stands, Moved}
use Rattle.levels.proofs.Levels.{entry_header, origin_recorded, overwritten, never_out, both_stand, both_return, nothing_nests}
use Rattle.levels.specs.Nested.{handler, plain, met, after_outer, after_inner, NestedExample, MovedExample, LevelsExample}

met_fits : StepFits met
met_fits = (omega arith, omega arith, tt)

-- next IP of an entry at that boundary
next_of : (m : Machine) (by : Entering m met) → (recorded m by).next ≡ m.registers.eip
next_of m by = ap (λ (s : Saved). s.next) (at_one m by)

-- over any management memory of the right length
module _ (g : List ℕ) (long : length g ≡ 65536) where
  abbrev x : Memories
  x = memories [] g

  enters_there : (m : Machine) → m.halted ≡ false → Entering m met → answer_to m x met ≡ 11
  unfolding malformed_on
  enters_there m awake by = enters_where_due m x met (rw awake (boundary_allowed g long false None refl)) by

  resumes_there : (m : Machine) → m.halted ≡ false → Resuming m rsm → answer_to m x rsm ≡ 12
  unfolding malformed_on program_while_halted
  resumes_there m awake by = resumes_where_due m x rsm (rw awake (allowed g long false rsm refl refl)) by

  entered_long : (m : Machine) → answer_to m x met ≡ 11 → length (stepped m x met).memory.management ≡ 65536
  entered_long m h = (enters_as_stated m x met h).management.same ∙ long

-- ---- the handler, with SMHR where the header fits

fits : (shr : ℕ) → MachineFits (handler shr)
unfolding with_smhr
fits shr =
    let f = sample_fits Mii 0x02 0x01 (omega arith) (omega arith) in
    let r = f.registers in
    let t = f.settings in
    record {
      registers = record {
        eip = omega arith;
        eflags = r.eflags;
        cr0 = r.cr0;
        dr7 = r.dr7;
        selector = r.selector;
        descriptor = r.descriptor;
      };
      segments = f.segments;
      settings = record {
        ccr1 = t.ccr1;
        ccr3 = t.ccr3;
        high = t.high;
        middle = t.middle;
        low = t.low;
        ccr6 = t.ccr6;
        smhr0 = omega arith;
        smhr1 = omega arith;
        smhr2 = omega arith;
        smhr3 = omega arith;
      };
      index = f.index;
    }

-- where service nests, it does after entry
still_on : (shr : ℕ) → answer_to (handler shr) after_outer met ≡ 11 → enhanced (settings_of (stepped (handler shr) after_outer met).stepped.machine) ≡ true
unfolding enhanced with_smhr
still_on shr h =
    ap (λ (c : Config). enhanced c.settings) (enters_as_stated (handler shr) after_outer met h).config
    ∙ (entered_kept (settings_of (handler shr))).enhanced

due : (shr : ℕ) → header_fits (settings_of (handler shr)) ≡ true → Entering (handler shr) met
unfolding enabled usable region_of size_of nestable enhanced with_smhr
due shr e = at_boundary (rw e) (λ h. refl) refl

place_back : place_of (handler 0x6a001) ≡ place_of (locked Mii)
unfolding header_place header_end region_of size_of with_smhr
place_back = refl

fits_same : header_fits (settings_of (handler 0x6a001)) ≡ true
unfolding header_fits header_end region_of size_of with_smhr
fits_same = refl

fits_down : header_fits (settings_of (handler 0x69fd1)) ≡ true
unfolding header_fits header_end region_of size_of with_smhr
fits_down = refl

fits_up : header_fits (settings_of (handler 0x6a031)) ≡ true
unfolding header_fits header_end region_of size_of with_smhr
fits_up = refl

-- ---- the outer entry, and the inner one after it

outer_due : Entering (locked Mii) met
outer_due = due_at_boundary Mii false None

outer_enters : answer_to (locked Mii) (filled 0) met ≡ 11
outer_enters = enters_there (replicate 65536 0) (full 0) (locked Mii) refl outer_due

outer_long : length after_outer.management ≡ 65536
outer_long = entered_long (replicate 65536 0) (full 0) (locked Mii) outer_enters

module _ (shr : ℕ) (e : header_fits (settings_of (handler shr)) ≡ true) where
  inner_enters : answer_to (handler shr) after_outer met ≡ 11
  inner_enters = enters_there after_outer.management outer_long (handler shr) refl (due shr e)

  inner_long : length (after_inner shr).management ≡ 65536
  inner_long = entered_long after_outer.management outer_long (handler shr) inner_enters

  back_outside : answer_to (handler 0x6a001) (after_inner shr) rsm ≡ 12
  unfolding operation_of valid permitted opcodes_allowed usable region_of size_of with_smhr
  back_outside = resumes_there (after_inner shr).management inner_long (handler 0x6a001) refl (by_rsm refl (rw fits_same))

  plain_back : answer_to plain (after_inner shr) rsm ≡ 12
  unfolding operation_of valid permitted opcodes_allowed header_fits header_end usable region_of size_of with_smhr with_byte
  plain_back = resumes_there (after_inner shr).management inner_long plain refl (by_rsm refl refl)

  outer_stands : Stands after_outer.management (place_of (locked Mii)) (header_of (locked Mii) outer_due)
  outer_stands = (entry_header (locked Mii) (filled 0) met outer_enters outer_due).header

  moved_example : Moved (locked Mii) (handler shr) → MovedExample shr outer_due
  unfolding nestable enhanced with_smhr
  moved_example m =
      let r =
      both_return (locked Mii) (handler shr) (handler 0x6a001) (filled 0) after_outer (after_inner shr) met met 0 0 0
      (locked_fits Mii) (fits shr) met_fits met_fits outer_enters inner_enters m outer_due (due shr e) outer_stands place_back (λ i l. refl) back_outside in
      record {
        second = inner_enters;
        moved = m;
        by = due shr e;
        both = both_stand (locked Mii) (handler shr) (filled 0) after_outer met met outer_enters inner_enters m outer_due (due shr e) outer_stands;
        back = (r.first.inside ∙ rw (still_on shr inner_enters), ap (λ (k : Registers). k.eip) r.first.registers ∙ next_of (handler shr) (due shr e));
        out = (r.second.inside, ap (λ (k : Registers). k.eip) r.second.registers ∙ next_of (locked Mii) outer_due);
      }

-- SMHR of the handler is the one given
moved : (shr : ℕ) → smhr (settings_of (handler shr)) ≡ shr → (shr + header_length ≤ 0x6a001) ⊎ (0x6a001 + header_length ≤ shr)
    → Moved (locked Mii) (handler shr)
unfolding with_smhr
moved shr e apart = record { outer = refl; inner = refl; region = refl; by_48 = rw e apart }

pub levels_example : LevelsExample
levels_example = record {
  first = outer_enters;
  outer = outer_due;
  down = moved_example 0x69fd1 fits_down (moved 0x69fd1 (smhr_loaded_lem _ 0x69fd1 (omega arith)) (inl (omega arith)));
  up = moved_example 0x6a031 fits_up (moved 0x6a031 (smhr_loaded_lem _ 0x6a031 (omega arith)) (inr (omega arith)));
}

plain_mode : enhanced (settings_of plain) ≡ false
unfolding enhanced with_byte with_smhr
plain_mode = refl

pub nested_example : NestedExample
unfolding malformed_on enhanced
nested_example =
    let m = handler 0x6a001 in
    let by = due 0x6a001 fits_same in
    let inner = inner_enters 0x6a001 fits_same in
    let e = entry_example m met (fits 0x6a001) met_fits (boundary_allowed (replicate 65536 0) (full 0) false None refl) by in
    let never = never_out m after_outer met 0 0 0 0 0 0 (fits 0x6a001) met_fits refl refl inner in
    record {
      entry = e;
      flags = word_back m (filled 0) 1 0x1000 None (fits 0x6a001) met_fits e.entered Flags;
      origin = origin_recorded m (filled 0) met (fits 0x6a001) met_fits e.entered;
      outer = outer_enters;
      inner = inner;
      by = by;
      over = overwritten (locked Mii) m (filled 0) after_outer met met outer_enters inner refl place_back by;
      first = never.1;
      again = never.2;
      none =
          ((nothing_nests (locked Cx486) (filled 0) met refl).0
          (enters_there (replicate 65536 0) (full 0) (locked Cx486) refl (due_at_boundary Cx486 false None))).1;
      leaves = (nothing_nests plain (after_inner 0x6a001) rsm plain_mode).1 (plain_back 0x6a001 fits_same);
    }
