-- A list that reads to its end, and then another; and a group as its list written out. Assumes nothing.
use mathlib.Core.Path.{◌≡◌, refl, sym, ap, ◌∙◌}
use mathlib.Core.Bool.{Bool, true, false, cond}
use mathlib.Core.List.{List, [], ◌∷◌, ◌++◌, append-nil, append_assoc}
use Prim.Native.Nat.{ℕ, zero, suc, ◌+◌, ◌-◌, ◌*◌, ◌<◌, ◌≤◌}
use native.Mathlib.Omega.{arith}
use borrow.Author.Tests.{lt-leb, ne_eqb}
use lib.ListN.{length, length-append}
use lib.Seq.{take-append_seam}
use Rattle.fields.specs.Fields.{number_by, field_at, bytes_of}
use Rattle.steps.specs.declared.Step.{Step}
use Rattle.trace.specs.declared.Found.{Found}
use Rattle.trace.specs.declared.Found.TheVariants.{Record, Group}
use Rattle.trace.specs.declared.Ending.{Ending}
use Rattle.trace.specs.declared.Ending.TheVariants.{End, Torn, Bad}
use Rattle.std.specs.Prelude.{Result, Ok, Err}
use Rattle.trace.specs.Trace.{part, frame, group_kind, group, group_of, found_at, frame_at, framed, record_of, record_by}
use Rattle.trace.proofs.Finding.{Within, found_within, frame_whole, found_group}
use Rattle.trace.proofs.Placing.{found_on, Closed, between, part_on, found_on_lem}
use Rattle.lines.specs.declared.Reason.TheVariants as why
use Rattle.scripts.specs.Scripts.{Script, group_levels, is_end, stops, follows, joins, repeated, grouped, read_by, read_from, rest, within, whole, MoreLevels}
use Rattle.scripts.specs.Former.{one_wake}
use Rattle.scripts.specs.Written.{copies, group_bytes, nested, Concatenates, WrittenOut, EightLevels, Writable, Written, CountsWritten, grouping, ReadAlike, EveryCountWritten, GroupsWritten}
use Rattle.scripts.proofs.Reading.{rest_found, false_true}

-- from the last place of a list back to its first
module _ (n : ℕ) (P : ℕ → Type 0) (turn : (at : ℕ) → at ≤ n → ((next : ℕ) → at < next → next ≤ n → P next) → P at) where
  back : (left at : ℕ) → n - at ≤ left → at ≤ n → P at
  back zero at h k = turn at k (λ next a b. absurd (omega arith))
  back (suc left) at h k = turn at k (λ next a b. back left next (omega arith) b)

  from_first : P 0
  from_first = back n 0 (omega arith) (omega arith)

module _ (count : ℕ) (h u : Script) where
  both_end : is_end (grouped count h u).reason ≡ true → (is_end h.reason ≡ true) × (is_end u.reason ≡ true)
  both_end = by (is_end h.reason)
    where
      by : (b : Bool) → is_end (cond b (joins (repeated count h.steps) u) (stops why.Bad)).reason ≡ true
          → (b ≡ true) × (is_end u.reason ≡ true)
      by true e = (refl, e)
      by false e = absurd (false_true e)

  sound_group : is_end h.reason ≡ true → grouped count h u ≡ joins (repeated count h.steps) u
  sound_group e = rw e

joins_joins : (ss rs : List Step) (u : Script) → joins ss (joins rs u) ≡ joins (ss ++ rs) u
joins_joins ss rs u = simp append_assoc

-- ---- what follows a list reads as it does alone

closed_none : (f : Result (Found Step) Ending) → Closed [] f
closed_none (Ok f) = tt
closed_none (Err End) = refl
closed_none (Err Torn) = refl
closed_none (Err Bad) = tt

module _ (inner : List ℕ → Script) (p l : List ℕ) where
  abbrev Alone : ℕ → Type 0
  Alone at = rest inner (between p l []) (length p + at) ≡ rest inner l at

  alone_by : (at : ℕ) (f : Result (Found Step) Ending) → Within l at f → ((next : ℕ) → at < next → next ≤ length l → Alone next)
      → read_by (found_on (length p) f) (between p l []) inner (rest inner (between p l [])) ≡ read_by f l inner (rest inner l)
  alone_by at (Ok (Record step next)) w k = ap (follows step) (k next w.0 w.1)
  alone_by at (Ok (Group g)) w k =
      λ i. grouped g.count (inner (sym (part_on p l [] g.start g.next (omega (arith, w.2)) w.1) i)) (k g.next w.0 w.1 i)
  alone_by at (Err e) w k = refl

  alone : Alone 0
  alone =
      from_first (length l) Alone
      (λ at h k. let f = found_at l at in
      rest_found inner (between p l []) (length p + at) (found_on (length p) f) (found_on_lem p l [] at f refl (closed_none f))
      ∙ alone_by at f (found_within l at) k
      ∙ sym (rest_found inner l at f refl))

  rest_after : (at : ℕ) → at ≡ length p → rest inner (p ++ l) at ≡ rest inner l 0
  rest_after at e =
      let f : at ≡ length p + 0 = omega arith in
      rw f (rw append-nil at alone)

-- ---- a list that reads to its end, and then another

module _ (inner : List ℕ → Script) (p q : List ℕ) where
  abbrev Both : ℕ → Script → Type 0
  Both at u = is_end u.reason ≡ true → rest inner (between [] p q) (0 + at) ≡ joins u.steps (rest inner (p ++ q) (length p))

  both_by : (at : ℕ) (f : Result (Found Step) Ending) → found_at p at ≡ f → Within p at f → at ≤ length p
      → ((next : ℕ) → at < next → next ≤ length p → Both next (rest inner p next)) → Both at (read_by f p inner (rest inner p))
  both_by at (Ok (Record step next)) e w h k i =
      rest_found inner (p ++ q) (0 + at) (Ok (Record step (0 + next))) (found_on_lem [] p q at (Ok (Record step next)) e tt)
      ∙ ap (follows step) (k next w.0 w.1 i)
  both_by at (Ok (Group r)) e w h k i =
      let g = inner (part p r.start r.next) in
      let s = both_end r.count g (rest inner p r.next) i in
      rest_found inner (p ++ q) (0 + at) (Ok (Group (group r.count (0 + r.start) (0 + r.next)))) (found_on_lem [] p q at (Ok (Group r)) e tt)
      ∙ ap (λ (b : List ℕ). grouped r.count (inner b) (rest inner (p ++ q) (0 + r.next))) (sym (part_on [] p q r.start r.next (omega (arith, w.2)) w.1))
      ∙ sound_group r.count g _ s.0
      ∙ ap (joins (repeated r.count g.steps)) (k r.next w.0 w.1 s.1)
      ∙ joins_joins (repeated r.count g.steps) (rest inner p r.next).steps _
      ∙ sym (ap (λ (u : Script). joins u.steps (rest inner (p ++ q) (length p))) (sound_group r.count g (rest inner p r.next) s.0))
  both_by at (Err End) e w h k i =
      let f : 0 + at ≡ length p = omega arith in
      ap (rest inner (p ++ q)) f
  both_by at (Err Torn) e w h k i = absurd (false_true i)
  both_by at (Err Bad) e w h k i = absurd (false_true i)

  both : is_end (rest inner p 0).reason ≡ true → rest inner (p ++ q) 0 ≡ joins (rest inner p 0).steps (rest inner q 0)
  both i =
      from_first (length p) (λ at. Both at (rest inner p at))
      (λ at h k. rw (rest_found inner p at (found_at p at) refl) (both_by at (found_at p at) refl (found_within p at) h k)) i
      ∙ ap (joins (rest inner p 0).steps) (rest_after inner p q (length p) refl)

pub concatenates : Concatenates
concatenates d p q = both (within d) p q

-- ---- a level more changes nothing for a list that reads to its end

module _ (inner more : List ℕ → Script) (same : (l : List ℕ) → is_end (inner l).reason ≡ true → more l ≡ inner l) (l : List ℕ) where
  abbrev Same : ℕ → Script → Type 0
  Same at u = is_end u.reason ≡ true → rest more l at ≡ u

  same_by : (at : ℕ) (f : Result (Found Step) Ending) → found_at l at ≡ f → Within l at f → ((next : ℕ) → at < next → next ≤ length l → Same next (rest inner l next))
      → Same at (read_by f l inner (rest inner l))
  same_by at (Ok (Record step next)) e w k i = rest_found more l at (Ok (Record step next)) e ∙ ap (follows step) (k next w.0 w.1 i)
  same_by at (Ok (Group g)) e w k i =
      let s = both_end g.count (inner (part l g.start g.next)) (rest inner l g.next) i in
      rest_found more l at (Ok (Group g)) e
      ∙ (λ j. grouped g.count (same (part l g.start g.next) s.0 j) (k g.next w.0 w.1 s.1 j))
  same_by at (Err End) e w k i = rest_found more l at (Err End) e
  same_by at (Err Torn) e w k i = absurd (false_true i)
  same_by at (Err Bad) e w k i = absurd (false_true i)

  same_rest : Same 0 (rest inner l 0)
  same_rest =
      from_first (length l) (λ at. Same at (rest inner l at))
      (λ at h k. rw (rest_found inner l at (found_at l at) refl) (same_by at (found_at l at) refl (found_within l at) k))

one_more : (d : ℕ) (l : List ℕ) → is_end (within d l).reason ≡ true → within (suc d) l ≡ within d l
unfolding within
one_more zero l e = absurd (false_true e)
one_more (suc d) l e = same_rest (within d) (within (suc d)) (one_more d) l e

pub more_levels : MoreLevels
more_levels d zero l e = let z : 0 + d ≡ d = omega arith in rw z
more_levels d (suc more) l e =
    let s : suc more + d ≡ suc (more + d) = omega arith in
    let f = more_levels d more l e in
    rw s (one_more (more + d) l (ap (λ (u : Script). is_end u.reason) f ∙ e) ∙ f)

-- ---- a list as often as a count says

module _ (inner : List ℕ → Script) (l q : List ℕ) (i : is_end (rest inner l 0).reason ≡ true) where
  read_copies : (n : ℕ) → rest inner (copies n l ++ q) 0 ≡ joins (repeated n (rest inner l 0).steps) (rest inner q 0)
  unfolding copies repeated
  read_copies zero = refl
  read_copies (suc n) =
      ap (λ (m : List ℕ). rest inner m 0) (append_assoc l (copies n l) q)
      ∙ both inner l (copies n l ++ q) i
      ∙ ap (joins (rest inner l 0).steps) (read_copies n)
      ∙ joins_joins (rest inner l 0).steps (repeated n (rest inner l 0).steps) (rest inner q 0)

-- ---- a group

module _ (count : ℕ) (l q : List ℕ) where
  abbrev listed : List ℕ
  listed = group_bytes count l ++ q

  length_group : length (group_bytes count l) ≡ length l + 6
  unfolding group_bytes bytes_of
  length_group = omega arith

  group_part : part listed 6 (length l + 6) ≡ l
  unfolding group_bytes bytes_of
  group_part = let e : length l + 6 - 6 ≡ length l = omega arith in rw e (take-append_seam l q)

  module _ (some : 0 < count) (few : count < 65536) (held : 0 < length l) (small : length l + 4 < 65536) where
    length_said : length l + 4 ≡ field_at listed 0 2
    unfolding group_bytes number_by bytes_of
    length_said = omega arith

    count_said : field_at listed 4 2 ≡ count
    unfolding group_bytes number_by bytes_of
    count_said = omega arith

    kind_said : group_kind ≡ field_at listed 2 2
    unfolding group_bytes number_by bytes_of
    kind_said = refl

    found_listed : found_at listed 0 ≡ Ok (Group (group count 6 (length l + 6)))
    unfolding group_of
    found_listed =
        let n : 0 + 2 + (length l + 4) ≡ length l + 6 = omega arith in
        let m : 0 + 2 + (length l + 4) ≤ length listed = omega (arith, length-append (group_bytes count l) q, length_group) in
        let z : count ≡ 0 → ⊥ = λ e. omega arith in
        let f = frame_whole listed 0 (length l + 4) length_said m (omega arith) group_kind kind_said in
        sym (found_group listed 0 (frame group_kind 4 (0 + 2 + (length l + 4))) f refl)
        ∙ rw (n, count_said, lt-leb (length l + 6 - 4) 2 (omega arith), ne_eqb count 0 z)

    module _ (inner : List ℕ → Script) (i : is_end (inner l).reason ≡ true) where
      read_group : rest inner listed 0 ≡ joins (repeated count (inner l).steps) (rest inner q 0)
      read_group =
          rest_found inner listed 0 (Ok (Group (group count 6 (length l + 6)))) found_listed
          ∙ (λ j. grouped count (inner (group_part j)) (rest_after inner (group_bytes count l) q (length l + 6) (sym length_group) j))
          ∙ sound_group count (inner l) (rest inner q 0) i

pub written_out : WrittenOut
unfolding within
written_out count p l q some few held small i j =
    let d = group_levels in
    let e : rest (within d) l 0 ≡ within d l = more_levels d 1 l j in
    ap (λ (m : List ℕ). rest (within d) m 0) (append_assoc p (group_bytes count l) q)
    ∙ concatenates d p (group_bytes count l ++ q) i
    ∙ ap (joins (rest (within d) p 0).steps)
    (read_group count l q some few held small (within d) j
    ∙ ap (λ (u : Script). joins (repeated count u.steps) (rest (within d) q 0)) (sym e)
    ∙ sym (read_copies (within d) l q (ap (λ (u : Script). is_end u.reason) e ∙ j) count))
    ∙ sym (concatenates d p (copies count l ++ q) i)
    ∙ ap (λ (m : List ℕ). rest (within d) m 0) (sym (append_assoc p (copies count l) q))

-- ---- the examples

pub one_wake_writable : Writable one_wake
unfolding within read_from found_at frame_at framed record_of record_by number_by
one_wake_writable = (refl, refl)

pub eight_levels : EightLevels
unfolding nested group_bytes bytes_of repeated within read_from found_at frame_at framed group_of record_of record_by number_by
eight_levels = (refl, refl)

-- the laws are used here, so that they can't ask for more
pub counts_written : CountsWritten
counts_written = (at 1 (omega arith) (omega arith), at 65535 (omega arith) (omega arith))
  where
    at : (count : ℕ) → 0 < count → count < 65536 → Written count
    at count h k = written_out count one_wake one_wake one_wake h k (omega arith) (omega arith) one_wake_writable.0 one_wake_writable.1

wake_ends : is_end (rest (within 7) one_wake 0).reason ≡ true
unfolding read_from found_at frame_at framed record_of record_by number_by
wake_ends = refl

copies_end : (inner : List ℕ → Script) (l : List ℕ) (n : ℕ) → is_end (rest inner l 0).reason ≡ true → is_end (rest inner (copies n l) 0).reason ≡ true
unfolding read_from
copies_end inner l n i =
    ap (λ (m : List ℕ). is_end (rest inner m 0).reason) (sym (append-nil (copies n l)))
    ∙ ap (λ (u : Script). is_end u.reason) (read_copies inner l [] i n)

-- a list that may stand in a group and before it
pub record Sound (l : List ℕ) : Type 0 where
  pub some : 0 < length l
  pub small : length l + 4 < 65536
  pub before : is_end (whole l).reason ≡ true
  pub inside : is_end (within group_levels l).reason ≡ true

sound : (l : List ℕ) → 0 < length l → length l + 4 < 65536 → is_end (within group_levels l).reason ≡ true → Sound l
unfolding within
sound l h k e = record { some = h; small = k; before = ap (λ (u : Script). is_end u.reason) (more_levels group_levels 1 l e) ∙ e; inside = e }

wakes_length : (n : ℕ) → length (copies n one_wake) ≡ 4 * n
unfolding copies
wakes_length zero = refl
wakes_length (suc n) = omega (arith, length-append one_wake (copies n one_wake), wakes_length n)

pub wakes_sound : (n : ℕ) → 0 < n → n < 16383 → Sound (copies n one_wake)
unfolding within
wakes_sound n h k =
    sound (copies n one_wake) (omega (arith, wakes_length n)) (omega (arith, wakes_length n)) (copies_end (within 7) one_wake n wake_ends)

pub grouping_sound : Sound grouping
unfolding group_bytes bytes_of repeated within read_from found_at frame_at framed group_of record_of record_by number_by
grouping_sound = sound grouping (omega arith) (omega arith) refl

read_alike : (count : ℕ) (l : List ℕ) → 0 < count → count < 65536 → Sound l → ReadAlike count l
read_alike count l h k s = written_out count l l (l ++ (2 ∷ [])) h k s.some s.small s.before s.inside

pub every_count_written : EveryCountWritten
every_count_written count n h k some few = read_alike count (copies n one_wake) h k (wakes_sound n some few)

sixty : length (whole (grouping ++ group_bytes 5 grouping)).steps ≡ 60
unfolding group_bytes bytes_of repeated within read_from found_at frame_at framed group_of record_of record_by number_by
sixty = refl

pub groups_written : GroupsWritten
groups_written = (read_alike 5 grouping (omega arith) (omega arith) grouping_sound, sixty)
