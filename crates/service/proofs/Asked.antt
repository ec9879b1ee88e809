-- The claim in 02's own words, and how tight the statements are. Assumes nothing.
use mathlib.Core.Path.{◌≡◌, refl, sym, ap, ◌∙◌}
use mathlib.Core.Bool.{Bool, true, false, ◌&&◌, and-true, and-false}
use mathlib.Core.List.{List, []}
use Prim.Native.Nat.{ℕ, ◌+◌, ◌<◌}
use native.Mathlib.Omega.{arith}
use lib.ListN.{length, get_or}
use lib.Seq.{take_all}
use Rattle.fields.specs.Fields.{field_at}
use Rattle.fields.proofs.Laws.{field_same}
use Rattle.memory.specs.Memory.{Memories}
use Rattle.steps.specs.declared.Step.{Step}
use Rattle.steps.specs.declared.Step.TheVariants.{Opcode}
use Rattle.steps.specs.Widths.{StepFits}
use Rattle.settings.specs.Settings.{header_place}
use Rattle.config.specs.declared.Config.{Config}
use Rattle.nesting.specs.Nesting.{enhanced}
use Rattle.header.specs.Header.{with_eip}
use Rattle.header.specs.Header.Word.{NextIp}
use Rattle.machine.specs.declared.Machine.{Machine}
use Rattle.machine.specs.Machines.{settings_of, segment_in}
use Rattle.machine.specs.Outcomes.{Outcome}
use Rattle.machine.specs.Steps.{stepped}
use Rattle.runs.specs.Runs.{run}
use Rattle.runs.proofs.Turns.{goes_on}
use Rattle.isolation.specs.Widths.{MachineFits}
use Rattle.isolation.specs.Service.{Entering, recorded}
use Rattle.isolation.proofs.Nesting.{entered_kept}
use Rattle.isolation.proofs.Pointers.{word_there}
use Rattle.isolation.proofs.Service.{enters_as_stated, resumes_as_entered}
use Rattle.levels.specs.Levels.{place_of}
use Rattle.service.specs.NoMark.{serviced, Service, HeaderKept, Completes, LeavesNoMark}
use Rattle.service.specs.Back.{ModeBack}
use Rattle.service.specs.Asked.{MatchingAsked, ServiceAsked, EveryEntry, MatchesOne, HeaderKeptAsked, NoMarkDetermines, NextRecorded, WordsByBytes, RegistersSettled, NoMarkAtOnce, CompletesAsked, UntouchedAsked, PutBackAsked, ByValueAsked, ByValue, SegmentsStay, AllSegments, AllBack}
use Rattle.service.proofs.Changing.{only_restored}
use Rattle.service.proofs.Doing.{in_list}
use Rattle.service.proofs.Registers.{words_back, registers_back}
use Rattle.service.proofs.Segments.{restored_named, same_segments, segments_back, seven}

-- ---- the segment registers

pub by_value : ByValue
unfolding run
by_value m x s ss n i j a b entered p =
    let e = stepped m x s in
    let restores = p.bytes.restores in
    let later = p.later in
    let within = in_list ss j restores in
    let other = restored_named restores in
    let stays = only_restored e.stepped.machine e.memory ss n in
    record {
      bytes = p.bytes;
      early = stays 0 i other (omega arith) (omega arith) p.early ∙ same_segments m e.stepped.machine n other (enters_as_stated m x s entered).segments;
      last = stays (j + 1) (length ss) other (omega arith) (omega arith) p.last;
    }

pub completes_asked : CompletesAsked
completes_asked k y op modrm a next h = Completes.completes refl h

pub untouched_asked : UntouchedAsked
untouched_asked at ss n from to resets none l h k = (resets l h k, λ c. none l c h k)

pub put_back_asked : PutBackAsked
put_back_asked at ss n i j a b early saves later restores bytes last = record {
  bytes = record { saves = saves; restores = restores; same = λ t l. (bytes t l).0; unchanged = λ t l. (bytes t l).1 };
  early = early;
  later = later;
  last = last;
}

-- ---- the claim

pub leaves_no_mark : LeavesNoMark
leaves_no_mark m x s ss rsm fits width v =
    let resumed = v.matching.resumed in (
      λ h. (registers_back m x s ss rsm fits width v.entered resumed h).0,
      λ n i j a b p. segments_back m x s ss rsm n i j a b fits resumed (by_value m x s ss n i j a b v.entered p),
    )

-- ---- the service

pub matching_asked : MatchingAsked
matching_asked m x s ss rsm resumed place own = record { resumed = resumed; place = (cc); own = own }

pub service_asked : ServiceAsked
service_asked m x s ss rsm entered inside none until matching =
    record { entered = entered; inside = inside; no_reset = none; until = until; matching = matching }

pub every_entry : EveryEntry
unfolding run
every_entry m x s modrm a next fits width entered =
    let e = enters_as_stated m x s entered in
    let place = ap (λ (c : Config). header_place c.settings) e.config ∙ (entered_kept (settings_of m)).place in (
      record {
        entered = entered;
        inside = λ k h. absurd (omega arith);
        no_reset = λ k h. absurd (omega arith);
        until = λ k h. absurd (omega arith);
        matching = record {
          resumed = (resumes_as_entered m x s modrm a next fits width entered e.by).answer;
          place = place;
          own = λ k h. absurd (omega arith);
        };
      },
      record { place = place; bytes = λ i l. refl },
    )

pub matches_one : MatchesOne
matches_one m x s ss rsm k first within entered second =
    let e = stepped m x s in
    first.own k within entered
    (sym second.place ∙ ap place_of (sym (goes_on e.stepped.machine e.memory ss k within)) ∙ first.place)

-- ---- the registers

pub header_kept_asked : HeaderKeptAsked
header_kept_asked m x s r place bytes = record { place = place; bytes = λ i l. bytes (place_of m + i) (omega arith) (omega arith) }

pub no_mark_determines : NoMarkDetermines
no_mark_determines m e o h = (rw (← h.dr7, ← h.eflags, ← h.cr0, ← h.cs, ← h.level, ← h.writable, ← h.eip), h.halted)

pub next_recorded : NextRecorded
next_recorded m x s fits width entered by = word_there m x s fits width entered by NextIp

-- the mode by one equation
mode_is : (m k : Machine) (o : Outcome) → ModeBack m k o → o.stepped.machine.inside ≡ (enhanced (settings_of k) && m.inside)
mode_is m k o b = go m.inside refl
  where
    go : (v : Bool) → m.inside ≡ v → o.stepped.machine.inside ≡ (enhanced (settings_of k) && v)
    go true e = (b.from_inside e).1 ∙ sym (and-true (enhanced (settings_of k)))
    go false e = b.from_outside e ∙ sym (and-false (enhanced (settings_of k)))

-- four bytes of the header are a word
word : (g h : List ℕ) (at from : ℕ) → ((i : ℕ) → i < 4 → get_or g (at + (from + i)) 0 ≡ get_or h (at + (from + i)) 0)
    → field_at g (at + from) 4 ≡ field_at h (at + from) 4
word g h at from same =
    field_same g h (at + from) (at + from) 4 (λ i l. let e : at + from + i ≡ at + (from + i) = omega arith in rw e (same i l))

pub words_by_bytes : WordsByBytes
words_by_bytes m x s ss rsm fits width entered by resumed place =
    let r = serviced m x s ss in
    let g = r.memory.management in
    let h = (stepped m x s).memory.management in
    let at = place_of m in
    let b = words_back m x s ss rsm fits width entered resumed place in (
      λ w. b.dr7 (word g h at 0x2c w),
      λ w. b.eflags (word g h at 0x28 w),
      λ w. b.cr0 (word g h at 0x24 w),
      λ w. b.eip (word g h at 0x1c w) ∙ next_recorded m x s fits width entered by,
      λ w. (b.selector (word g h at 0x18 w), b.level (word g h at 0x18 w)),
      λ w v. b.descriptor (word g h at 0x14 w) (word g h at 0x10 v),
      λ w. (b.writable (word g h at 0x0c w), mode_is m r.machine (stepped r.machine r.memory rsm) (b.mode (word g h at 0x0c w))),
      b.halted,
    )

pub registers_settled : RegistersSettled
registers_settled m x s ss rsm fits width entered by resumed kept =
    let r = serviced m x s ss in
    let o = stepped r.machine r.memory rsm in
    let b = registers_back m x s ss rsm fits width entered resumed kept in
    let settled = no_mark_determines m (stepped m x s) o b.0 in (
      settled.0 ∙ ap (with_eip m.registers) (next_recorded m x s fits width entered by),
      settled.1,
      mode_is m r.machine o b.1,
    )

-- by the claim in 02's words
by_claim : (m : Machine) (x : Memories) (s : Step) (ss : List Step) (rsm : Step) → MachineFits m → StepFits s → Service m x s ss rsm → (by : Entering m s)
    → let r = serviced m x s ss in
    let o = (stepped r.machine r.memory rsm).stepped.machine in
    HeaderKept m x s r → (o.registers ≡ with_eip m.registers (recorded m by).next) × (o.halted ≡ false)
by_claim m x s ss rsm fits width v by kept =
    let r = serviced m x s ss in
    let settled = no_mark_determines m (stepped m x s) (stepped r.machine r.memory rsm) ((leaves_no_mark m x s ss rsm fits width v).0 kept) in
    (settled.0 ∙ ap (with_eip m.registers) (next_recorded m x s fits width v.entered by), settled.1)

pub no_mark_at_once : NoMarkAtOnce
unfolding run
no_mark_at_once m x s modrm a next fits width entered by =
    let v = every_entry m x s modrm a next fits width entered in
    by_claim m x s [] (Opcode 0xaa modrm a next) fits width v.0 by v.1

pub by_value_asked : ByValueAsked
by_value_asked m at ss n i j a b bytes early last = record { bytes = bytes; early = early; last = last }

pub segments_stay : SegmentsStay
unfolding run
segments_stay k y ss none =
    seven (run k y ss).machine k
    (λ n other.
    ap (λ (l : List Step). segment_in (run k y l).machine n) (sym (take_all (length ss) ss (omega arith)))
    ∙ only_restored k y ss n 0 (length ss) other (omega arith) (omega arith) (none n))

pub all_segments : AllSegments
all_segments m x s ss rsm i j a b fits resumed back =
    let r = serviced m x s ss in
    seven (stepped r.machine r.memory rsm).stepped.machine m
    (λ n other. segments_back m x s ss rsm n (i n) (j n) (a n) (b n) fits resumed (back n other))

pub all_back : AllBack
all_back m x s ss rsm i j a b fits width v back by =
    let r = serviced m x s ss in
    let no-mark = leaves_no_mark m x s ss rsm fits width v in (
      seven (stepped r.machine r.memory rsm).stepped.machine m (λ n other. no-mark.1 n (i n) (j n) (a n) (b n) (back n other)),
      by_claim m x s ss rsm fits width v by,
    )
