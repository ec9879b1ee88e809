-- What answers are by their numbers, and what ports and boundaries answer and leave. Assumes nothing.
use mathlib.Core.Path.{◌≡◌, refl}
use mathlib.Core.Bool.{Bool, true, false, ◌&&◌}
use Prim.Native.Nat.{ℕ}
use lib.Dec.{eqb}
use Rattle.steps.specs.declared.Answer.{Answer}
use Rattle.steps.specs.Answers.{number_of, refusal}
use Rattle.settings.specs.Settings.{smi_lock, SameLocked, with_byte, written}
use Rattle.settings_laws.specs.Locked.{SettingsFit}
use Rattle.settings_laws.proofs.Lock.{locked_refl, written_locked, written_fits}
use Rattle.config.specs.declared.Config.{Config}
use Rattle.config.specs.declared.Accessed.{Accessed}
use Rattle.config.specs.Ports.{answering, indexed, internal, port_read, port_write}
use Rattle.machine.specs.declared.Machine.{Machine}
use Rattle.machine.specs.declared.Stepped.{Stepped}
use Rattle.machine.specs.Service.{passed}
use Rattle.fields.proofs.Cases.{either, unlike}

-- an answer that is neither a refusal nor "entered" nor "resumed"
pub record Plain (a : Answer) : Type 0 where
  pub taken : refusal a ≡ false
  pub other : eqb (number_of a) 11 ≡ false
  pub stays : eqb (number_of a) 12 ≡ false

pub plain : {a : Answer} → refusal a ≡ false → eqb (number_of a) 11 ≡ false → eqb (number_of a) 12 ≡ false → Plain a
plain t o s = record { taken = t; other = o; stays = s }

module _ (c : Config) where
  -- a port read gives a plain answer and leaves the settings
  pub read_keeps : (port : ℕ) → let p = port_read c port in Plain p.answer × (p.config.settings ≡ c.settings)
  unfolding port_read
  read_keeps port =
      let P : Accessed → Type 0 = λ p. Plain p.answer × (p.config.settings ≡ c.settings) in
      either P (eqb port 0x23 && c.armed)
      (λ h. either (λ (a : Answer). P (answering (indexed c.settings c.index false) a)) (internal c.settings c.index)
      (λ k. (plain refl refl refl, refl)) (λ k. (plain refl refl refl, refl)))
      (λ h. (plain refl refl refl, refl))

  -- a port write too, outside the mode with the lock set as far as the lock reaches; bytes stay bytes, and the edition stays
  abbrev pub Kept : Bool → Accessed → Type 0
  Kept inside p =
      Plain p.answer
      × (inside ≡ false → smi_lock c.settings ≡ true → SameLocked p.config.settings c.settings)
      × (SettingsFit c.settings → SettingsFit p.config.settings)
      × (p.config.settings.edition ≡ c.settings.edition)

  pub write_keeps : (port v : ℕ) (inside : Bool) → Kept inside (port_write c port v inside)
  unfolding port_write written with_byte
  write_keeps port v inside =
      either (Kept inside) (eqb port 0x22) (λ h. (plain refl refl refl, λ o l. locked_refl, λ f. f, refl))
      (λ h. either (Kept inside) (eqb port 0x23 && c.armed)
      (λ k. either (Kept inside) (internal c.settings c.index)
      (λ n. (
        plain refl refl refl,
        λ o l. rw o (written_locked c.settings c.index v l),
        written_fits c.settings c.index v inside,
        refl,
      ))
      (λ n. (plain refl refl refl, λ o l. locked_refl, λ f. f, refl)))
      (λ k. (plain refl refl refl, λ o l. locked_refl, λ f. f, refl)))

-- a boundary that takes no SMI gives a plain answer and, outside the mode, leaves the machine
pub passes : (m : Machine) (asserted : Bool)
    → let r = passed m asserted in Plain r.answer × (m.inside ≡ false → r.machine ≡ m)
unfolding passed
passes m asserted =
    let P : Stepped → Type 0 = λ r. Plain r.answer × (m.inside ≡ false → r.machine ≡ m) in
    either P asserted
    (λ h. either P m.inside (λ k. (plain refl refl refl, λ o. unlike k o)) (λ k. (plain refl refl refl, λ o. refl)))
    (λ h. (plain refl refl refl, λ o. refl))
