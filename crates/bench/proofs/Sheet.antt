-- Every row of the bench sheet follows from the rules: one test that antt computes over the table, and what it says of a row.
-- Assumes nothing.
use Prim.Native.Nat.{ℕ, zero, suc, ◌+◌, ◌*◌, ◌/◌, ◌%◌, ◌-◌, ◌<◌}
use native.Mathlib.Omega.{arith}
use mathlib.Core.Path.{◌≡◌, refl, ◌∙◌}
use mathlib.Core.Bool.{Bool, true, false, not, ◌&&◌, and-eq-true_iff, beq}
use mathlib.Core.List.{List, [], ◌∷◌, flat_map}
use native.Mathlib.Nat.{le_of_suc-le-suc, not-suc-le-zero}
use lib.Dec.{eqb}
use lib.ListN.{length, replicate}
use borrow.Author.Tests.{eqb-true, not-true, eq-eqb, ne_eqb, le-leb}
use Rattle.std.proofs.Common.{Option}
use Rattle.region.specs.declared.Region.{Region}
use Rattle.region.specs.Region.{region_of, size_of, usable}
use Rattle.fields.specs.Fields.{number_by, field_at, number, bytes_of}
use Rattle.fields.proofs.Laws.{field_same}
use Rattle.steps.specs.declared.Answer.TheVariants.{Done}
use Rattle.steps.specs.declared.Interruption.{Interruption}
use Rattle.steps.specs.declared.Interruption.TheVariants.{None}
use Rattle.steps.specs.declared.Step.TheVariants.{PortWrite, Boundary}
use Rattle.steps.specs.Steps.{is_width, malformed}
use Rattle.refusals.specs.Refusals.{largest_main, management_size, wrong_sizes, malformed_on, program_while_halted, first_refusal}
use Rattle.refusals.proofs.Laws.{taken_allowed}
use Rattle.settings.specs.declared.Edition.TheVariants.{Cx486}
use Rattle.settings.specs.declared.Settings.{Settings}
use Rattle.settings.specs.Settings.{region_in, header_fits, enabled, header_place, locked_bits, kept_bits, byte_of, with_byte, merged, written}
use Rattle.settings_laws.proofs.Place.{fits_always}
use Rattle.config.specs.Ports.{indexed, answering, always_internal, internal, port_write}
use Rattle.header.specs.declared.Level.{Level}
use Rattle.header.specs.declared.Level.TheVariants.{Zero}
use Rattle.header.specs.declared.Registers.{Registers}
use Rattle.header.specs.Header.{header_length, level_number, size_bits, cut, header_bytes}
use Rattle.header.specs.Entry.{entry_cr0, entry_cs}
use Rattle.machine.specs.declared.Machine.{Machine}
use Rattle.memory.specs.Memory.{segment}
use Rattle.segments.specs.Segments.{reset_segments}
use Rattle.machine.specs.Machines.{machine, settings_of}
use Rattle.machine.specs.Outcomes.{ends}
use Rattle.machine.specs.Service.{saved_at_boundary}
use Rattle.machine.specs.Steps.{port_step, performed, stepped}
use Rattle.isolation.specs.Service.{Entering, recorded, Entry}
use Rattle.isolation.specs.Service.Entering.{at_boundary}
use Rattle.isolation.specs.Examples.{filled}
use Rattle.fields.proofs.Cases.{unlike}
use Rattle.isolation.proofs.Service.{performs, enters_where_due, enters_as_stated}
use Rattle.isolation.proofs.Examples.{whole, allowed, full}
use Rattle.bench.specs.Lines.{Line, Smar, IsUsable, LockedCcr1, HeaderAt, EntryCs, EntryCr0, LevelWord, Header, region, Armed, ArmedExample, Before, region_before, outcome, Enters, Stores, from_end, Example, states, sheet, row_at, SheetHolds, ArmedAsked, BeforeAsked}

-- ---- comparing

same_true : (a b : Bool) → beq a b ≡ true → a ≡ b
same_true true true e = refl
same_true true false e = (cc)
same_true false true e = (cc)
same_true false false e = refl

same_bytes : List ℕ → List ℕ → Bool
same_bytes [] [] = true
same_bytes [] (y ∷ ys) = false
same_bytes (x ∷ xs) [] = false
same_bytes (x ∷ xs) (y ∷ ys) = eqb x y && same_bytes xs ys

same_bytes_true : (xs ys : List ℕ) → same_bytes xs ys ≡ true → xs ≡ ys
unfolding same_bytes
same_bytes_true [] [] e = refl
same_bytes_true [] (y ∷ ys) e = (cc)
same_bytes_true (x ∷ xs) [] e = (cc)
same_bytes_true (x ∷ xs) (y ∷ ys) e =
    let p = (and-eq-true_iff (eqb x y) (same_bytes xs ys)).0 e in
    rw (eqb-true x y p.0, same_bytes_true xs ys p.1)

names : Region → (base code : ℕ) → Bool
names r base code = eqb r.base base && eqb r.code code

names_true : (r : Region) (base code : ℕ) → names r base code ≡ true → r ≡ region base code
unfolding names
names_true r base code t =
    let p = (and-eq-true_iff (eqb r.base base) (eqb r.code code)).0 t in
    rw (← eqb-true r.base base p.0, ← eqb-true r.code code p.1)

-- ---- what the rows ask for

pub armed_asked : ArmedAsked
unfolding wrong_sizes
armed_asked m x most whole awake outside locked armed index = record {
  before = record {
    machine = m;
    memory = x;
    sizes = rw (le-leb (length x.main) largest_main most, eq-eqb (length x.management) management_size whole);
    awake = awake;
    outside = outside;
    locked = eq-eqb _ 1 locked;
    armed = armed;
    index = index;
  };
  machine = refl;
  memory = refl;
}

pub before_asked : BeforeAsked
before_asked m x current i edition allowed outside on closed = record {
  before = record {
    machine = m;
    memory = x;
    edition = edition;
    allowed = allowed;
    outside = outside;
    on = eq-eqb _ 1 on;
    closed = ne_eqb ((settings_of m).ccr1 / 4 % 2) 1 (λ e. omega arith);
  };
  machine = refl;
  memory = refl;
}

-- ---- the write to CCR1

writes_ccr1 : (b : Armed) (value : ℕ) → stepped b.machine b.memory (PortWrite 0x23 value)
    ≡ ends (port_step b.machine (answering (indexed (written (settings_of b.machine) 0xc1 value false) 0xc1 false) Done)) b.memory
unfolding malformed_on program_while_halted performed port_write always_internal internal
writes_ccr1 b value =
    let s = PortWrite 0x23 value in
    performs b.machine b.memory s
    (taken_allowed b.machine.halted b.memory s (record { sizes = b.sizes; formed = rw b.awake; awake = rw b.awake }))
    ∙ rw (b.armed, b.index, b.outside)

-- ---- the step that enters

module _ {current : ℕ} {i : Interruption} (b : Before current i) (u : usable (region_before b) ≡ true) where
  fits : (header_fits (settings_of b.machine) ≡ true) × (header_place (settings_of b.machine) + header_length ≡ size_of (region_before b).code)
  fits = fits_always (settings_of b.machine) b.edition u

  enters : Enters b
  unfolding enabled
  enters =
      enters_where_due b.machine b.memory (Boundary 1 current i) b.allowed
      (at_boundary (rw (b.on, b.closed, u, fits.0)) (λ h. unlike h b.outside) refl)

  entry_of : Entry b.machine b.memory (Boundary 1 current i) (outcome b)
  entry_of = enters_as_stated b.machine b.memory (Boundary 1 current i) enters

  stores : Stores b (from_end b 48) (header_bytes (saved_at_boundary b.machine current i))
  stores =
      let place : header_place (settings_of b.machine) ≡ from_end b 48 = omega (arith, fits.1) in
      go entry_of.by (rw place at entry_of.management)
    where
      go : (by : Entering b.machine (Boundary 1 current i)) → Stores b (from_end b 48) (header_bytes (recorded b.machine by))
          → Stores b (from_end b 48) (header_bytes (saved_at_boundary b.machine current i))
      go (at_boundary on inner asked) o = o

  -- the header's word of selector and level, at a place that is 24 bytes into it
  level_word : (at : ℕ) → at ≡ from_end b 48 + 24 → (level : Level) (selector : ℕ) → b.machine.registers.level ≡ level
      → b.machine.registers.cs.selector ≡ selector
      → field_at (outcome b).memory.management at 4 ≡ number (bytes_of 4 (selector + 2097152 * level_number level))
  unfolding header_bytes flat_map bytes_of number_by
  level_word at h level selector e f =
      let g : field_at (outcome b).memory.management at 4 ≡ field_at (header_bytes (saved_at_boundary b.machine current i)) 24 4
      = field_same (outcome b).memory.management (header_bytes (saved_at_boundary b.machine current i)) at 24 4 (λ j l. let a : at + j ≡ from_end b 48 + (24 + j) = omega arith in rw a (stores.header (24 + j) (omega arith))) in
      g ∙ rw (e, f)

-- ---- the examples: main memory is empty, management memory is all zeros

-- the lock, and SMAR of a base and a code
abbrev settings : (ccr1 base code : ℕ) → Settings
settings ccr1 base code = record {
  edition = Cx486;
  ccr1 = ccr1;
  ccr3 = 1;
  high = base / 16777216;
  middle = base / 65536 % 256;
  low = base / 4096 % 16 * 16 + code;
  ccr6 = 0;
  smhr0 = 0;
  smhr1 = 0;
  smhr2 = 0;
  smhr3 = 0;
}

-- a machine that is awake, outside the mode and armed at C1h
abbrev sample : Registers → Settings → Machine
sample r s = machine r reset_segments false false false (indexed s 0xc1 true)

abbrev registers : (cr0 : ℕ) → Level → (selector : ℕ) → Registers
registers cr0 level selector =
    record { eip = 0; eflags = 2; cr0 = cr0; dr7 = 0x400; cs = segment selector 0; level = level; writable = true }

armed_at : (ccr1 : ℕ) → ArmedExample ccr1
armed_at ccr1 = record {
  before = record {
    machine = sample (registers 0 Zero 0) (settings ccr1 0 0);
    memory = filled 0;
    sizes = whole (replicate 65536 0) (full 0);
    awake = refl;
    outside = refl;
    locked = refl;
    armed = refl;
    index = refl;
  };
  given = refl;
}

-- the region that this SMAR names; CCR1 02h is USE_SMI alone
abbrev named : (base code : ℕ) → Region
named base code = region_in (settings 2 base code)

takes : (current : ℕ) (i : Interruption) → malformed (Boundary 1 current i) ≡ false → first_refusal false (filled 0) (Boundary 1 current i) ≡ Option.None
unfolding malformed_on program_while_halted
takes current i formed = allowed (replicate 65536 0) (full 0) false (Boundary 1 current i) (rw formed) refl

abbrev before : Registers → (base code current : ℕ) (i : Interruption) → malformed (Boundary 1 current i) ≡ false → Before current i
before r base code current i formed = record {
  machine = sample r (settings 2 base code);
  memory = filled 0;
  edition = refl;
  allowed = takes current i formed;
  outside = refl;
  on = refl;
  closed = refl;
}

in_region : (base code : ℕ) → names (named base code) base code ≡ true → Example 0x1000 None (λ b. region_before b ≡ region base code)
in_region base code t =
    record { before = before (registers 0 Zero 0) base code 0x1000 None refl; given = names_true (named base code) base code t }

-- where a row gives no region, 16 KiB at 68000h
is_usable : usable (named 0x68000 3) ≡ true
unfolding usable region_of size_of
is_usable = refl

-- ---- the table

-- what antt computes for a row
test : Line → Bool
test (Smar high middle low base code size) = names (region_of high middle low) base code && eqb (size_of code) size
test (IsUsable base code answer) = beq (usable (region base code)) answer
test (LockedCcr1 before value after) = eqb (merged (locked_bits Cx486 0xc1) before value) after
test (HeaderAt base code first last) =
    names (named base code) base code && (usable (region base code) && (eqb (size_of code - 48) first && eqb (first + 48) (last + 1)))
test (EntryCs base code selector) =
    names (named base code) base code && (usable (region base code) && eqb (entry_cs base).selector selector)
test (EntryCr0 before after) = eqb (entry_cr0 before) after
test (LevelWord level selector word) = eqb (number (bytes_of 4 (selector + 2097152 * level_number level))) word
test (Header r current i bytes) =
    not (malformed (Boundary 1 current i))
    && same_bytes (header_bytes (saved_at_boundary (sample r (settings 2 0x68000 3)) current i)) bytes

-- a row that passes states what holds
sound : (l : Line) → test l ≡ true → states l
unfolding test written kept_bits locked_bits byte_of with_byte
sound (Smar high middle low base code size) t =
    let p = (and-eq-true_iff (names (region_of high middle low) base code) (eqb (size_of code) size)).0 t in
    (names_true (region_of high middle low) base code p.0, eqb-true _ _ p.1)
sound (IsUsable base code answer) t = same_true _ _ t
sound (LockedCcr1 ccr1 value after) t = (
  armed_at ccr1,
  λ b e. let w = writes_ccr1 b value in (rw w, rw (w, b.locked, e) (eqb-true _ _ t)),
)
sound (HeaderAt base code first last) t =
    let n = (and-eq-true_iff (names (named base code) base code) _).0 t in
    let p = (and-eq-true_iff (usable (region base code)) _).0 n.1 in
    let q = (and-eq-true_iff (eqb (size_of code - 48) first) (eqb (first + 48) (last + 1))).0 p.1 in (
      in_region base code n.0,
      λ current i b e.
          let u : usable (region_before b) ≡ true = rw e p.0 in
          let place : from_end b 48 ≡ first = rw e (eqb-true _ _ q.0) in
          (enters b u, rw place at (stores b u), eqb-true _ _ q.1),
    )
sound (EntryCs base code selector) t =
    let n = (and-eq-true_iff (names (named base code) base code) _).0 t in
    let p = (and-eq-true_iff (usable (region base code)) _).0 n.1 in (
      in_region base code n.0,
      λ current i b e.
          let u : usable (region_before b) ≡ true = rw e p.0 in
          (enters b u, rw ((entry_of b u).cs, e) (eqb-true _ _ p.1)),
    )
sound (EntryCr0 cr0 after) t = (
  record { before = before (registers cr0 Zero 0) 0x68000 3 0x1000 None refl; given = (is_usable, refl) },
  λ current i b u e. (enters b u, rw ((entry_of b u).cr0, e) (eqb-true _ _ t)),
)
sound (LevelWord level selector word) t = (
  record { before = before (registers 0 level selector) 0x68000 3 0x1000 None refl; given = (is_usable, refl, refl) },
  λ current i b u e f.
      let h = (fits b u).1 in
      (enters b u, level_word b u _ (omega arith) level selector e f ∙ eqb-true _ _ t),
)
sound (Header r current i bytes) t =
    let p = (and-eq-true_iff (not (malformed (Boundary 1 current i))) _).0 t in (
      record { before = before r 0x68000 3 current i (not-true _ p.0); given = (is_usable, refl, refl) },
      λ b u e f.
          let found : header_bytes (saved_at_boundary b.machine current i) ≡ bytes = rw (e, f, b.outside) (same_bytes_true _ bytes p.1) in
          (enters b u, rw found at (stores b u)),
    )

-- every row of a table passes
every : List Line → Bool
every [] = true
every (l ∷ ls) = test l && every ls

rows : (ls : List Line) → every ls ≡ true → (k : ℕ) → k < length ls → states (row_at ls k)
unfolding every
rows [] t k h = absurd (not-suc-le-zero h)
rows (l ∷ ls) t zero h = sound l ((and-eq-true_iff (test l) (every ls)).0 t).0
rows (l ∷ ls) t (suc k) h = rows ls ((and-eq-true_iff (test l) (every ls)).0 t).1 k (le_of_suc-le-suc h)

tested : every sheet ≡ true
unfolding every test same_bytes names sheet region_of size_of usable is_width locked_bits number_by bytes_of flat_map size_bits cut header_bytes entry_cr0 entry_cs
tested = refl

counted : length sheet ≡ 15
unfolding sheet
counted = refl

pub sheet_holds : SheetHolds
sheet_holds = (counted, rows sheet tested)
