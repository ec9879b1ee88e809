-- The registers that entry saved, and the mode, after RSM at the place that entry wrote to. Assumes nothing.
use native.Mathlib.Omega.{arith}
use mathlib.Core.Path.{◌≡◌, refl, ap, ◌∙◌}
use mathlib.Core.Bool.{Bool, true, false, ◌&&◌, and-true, and-false}
use Prim.Native.Nat.{ℕ, ◌+◌, ◌*◌, ◌/◌, ◌%◌}
use lib.Dec.{eqb}
use Rattle.steps.specs.declared.Step.{Step}
use Rattle.nesting.specs.Nesting.{enhanced, stays_inside}
use Rattle.header.specs.declared.Registers.{Registers}
use Rattle.header.specs.Header.{word_in, resumed, level_of}
use Rattle.header.specs.Header.Word.{Dr7, Eflags, Cr0, NextIp, CsLevel, DescriptorHigh, DescriptorLow, Flags}
use Rattle.header.proofs.ReadBack.{word_same}
use Rattle.machine.specs.declared.Machine.{Machine}
use Rattle.machine.specs.Machines.{settings_of}
use Rattle.machine.specs.Outcomes.{Outcome}
use Rattle.machine.specs.Steps.{stepped}
use Rattle.isolation.specs.Service.{Entering}
use Rattle.isolation.proofs.Service.{enters_as_stated, resumes_as_stated, origin}
use Rattle.levels.specs.Levels.{place_of}
use Rattle.levels.proofs.Levels.{registers_there, origin_recorded}
use Rattle.service.specs.NoMark.{serviced}
use Rattle.service.specs.Back.{ModeBack, WordsBack, RegistersBack}

mode : (m k : Machine) (o : Outcome) {s : Step} → Entering m s → o.stepped.machine.inside ≡ (enhanced (settings_of k) && m.inside) → ModeBack m k o
mode m k o by e = record {
  from_outside = λ h. e ∙ rw h (and-false (enhanced (settings_of k)));
  from_inside = λ h. ((origin m by).1 h, e ∙ rw h (and-true (enhanced (settings_of k))));
  as_before = λ h. e ∙ rw h (go m.inside (origin m by).1);
}
  where
    go : (b : Bool) → (b ≡ true → enhanced (settings_of m) ≡ true) → (enhanced (settings_of m) && b) ≡ b
    go true h = rw (h refl)
    go false h = and-false (enhanced (settings_of m))

pub words_back : WordsBack
unfolding resumed stays_inside
words_back m x s ss rsm fits width entered answered place =
    let e = stepped m x s in
    let r = serviced m x s ss in
    let k = r.machine in
    let y = r.memory in
    let by = (enters_as_stated m x s entered).by in
    let res = resumes_as_stated k y rsm answered in
    let loaded = res.registers ∙ ap (resumed y.management) place in
    let was = registers_there m x s fits width entered by in
    let at = place_of m in
    let high = word_in y.management at DescriptorHigh in
    let low = word_in e.memory.management at DescriptorLow in
    record {
      dr7 = λ w. ap (λ (g : Registers). g.dr7) loaded ∙ w ∙ ap (λ (g : Registers). g.dr7) was;
      eflags = λ w. ap (λ (g : Registers). g.eflags) loaded ∙ w ∙ ap (λ (g : Registers). g.eflags) was;
      cr0 = λ w. ap (λ (g : Registers). g.cr0) loaded ∙ w ∙ ap (λ (g : Registers). g.cr0) was;
      selector = λ w.
          ap (λ (g : Registers). g.cs.selector) loaded ∙ ap (λ (n : ℕ). n % 65536) w ∙ ap (λ (g : Registers). g.cs.selector) was;
      descriptor = λ w v.
          ap (λ (g : Registers). g.cs.descriptor) loaded
          ∙ ap (λ (n : ℕ). n + 4294967296 * high) v
          ∙ ap (λ (n : ℕ). low + 4294967296 * n) w
          ∙ ap (λ (g : Registers). g.cs.descriptor) was;
      level = λ w.
          ap (λ (g : Registers). g.level) loaded ∙ ap (λ (n : ℕ). level_of (n / 2097152 % 4)) w ∙ ap (λ (g : Registers). g.level) was;
      writable = λ w.
          ap (λ (g : Registers). g.writable) loaded ∙ ap (λ (n : ℕ). eqb (n % 2) 1) w ∙ ap (λ (g : Registers). g.writable) was;
      eip = λ w. ap (λ (g : Registers). g.eip) loaded ∙ w;
      mode = λ w.
          mode m k (stepped k y rsm) by
          (res.inside
          ∙ ap (λ (p : ℕ). enhanced (settings_of k) && eqb (word_in y.management p Flags / 32768 % 2) 1) place
          ∙ ap (λ (n : ℕ). enhanced (settings_of k) && eqb (n / 32768 % 2) 1) w
          ∙ ap (λ (b : Bool). enhanced (settings_of k) && b) (origin_recorded m x s fits width entered));
      halted = res.halted;
    }

pub registers_back : RegistersBack
registers_back m x s ss rsm fits width entered answered kept =
    let b = words_back m x s ss rsm fits width entered answered kept.place in
    let same = word_same (serviced m x s ss).memory.management (stepped m x s).memory.management (place_of m) (λ i l. kept.bytes i (omega (arith, l))) in
    let selector = b.selector (same CsLevel) in
    let descriptor = b.descriptor (same DescriptorHigh) (same DescriptorLow) in (
      record {
        dr7 = b.dr7 (same Dr7);
        eflags = b.eflags (same Eflags);
        cr0 = b.cr0 (same Cr0);
        cs = λ i. record { selector = selector i; descriptor = descriptor i };
        level = b.level (same CsLevel);
        writable = b.writable (same Flags);
        eip = b.eip (same NextIp);
        halted = b.halted;
      },
      b.mode (same Flags),
    )
