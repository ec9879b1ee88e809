-- What entry and RSM leave of the settings, and where a boundary takes an SMI (02, request 7). Assumes nothing.
use mathlib.Core.Path.{◌≡◌, refl, sym, ◌∙◌}
use mathlib.Core.Bool.{Bool, true, false, and-eq-true_iff}
use Prim.Native.Nat.{ℕ, ◌+◌, ◌*◌, ◌/◌, ◌%◌, ◌≤◌}
use native.Mathlib.Omega.{arith}
use Rattle.settings.specs.declared.Edition.{Edition}
use Rattle.settings.specs.declared.Edition.TheVariants.{Cx486, Mii}
use Rattle.settings.specs.declared.Settings.{Settings}
use Rattle.settings.specs.Settings.{header_end, header_fits, header_place, enabled, opcodes_allowed, with_byte}
use Rattle.settings_laws.specs.Locked.{Fixed486, Fixed}
use Rattle.nesting.specs.Nesting.{with_n, enhanced, entered_settings, resumed_settings, bit_n, nestable, takes}
use Rattle.nesting.proofs.Moving.{still_enhanced}
use Rattle.fields.proofs.Cases.{both, either}

-- ---- what N doesn't decide is the same after entry, and after RSM

pub record Kept (s t : Settings) : Type 0 where
  pub edition : t.edition ≡ s.edition
  pub place : header_place t ≡ header_place s
  pub fits : header_fits t ≡ header_fits s
  pub opcodes : opcodes_allowed t true ≡ opcodes_allowed s true
  pub enhanced : enhanced t ≡ enhanced s

module _ (s : Settings) where
  same : Kept s s
  same = record { edition = refl; place = refl; fits = refl; opcodes = refl; enhanced = refl }

  with_n_lem : (n : ℕ) → n ≤ 1 → Kept s (with_n s n)
  unfolding header_place header_fits header_end opcodes_allowed with_n with_byte
  with_n_lem n h = record { edition = refl; place = refl; fits = refl; opcodes = refl; enhanced = still_enhanced s n h }

  pub entered_kept : Kept s (entered_settings s)
  unfolding entered_settings
  entered_kept = either (Kept s) (enhanced s) (λ k. with_n_lem 0 (omega arith)) (λ k. same)

  pub resumed_kept : Kept s (resumed_settings s)
  unfolding resumed_settings
  resumed_kept = either (Kept s) (enhanced s) (λ k. with_n_lem 1 (omega arith)) (λ k. same)

-- of equal locked settings entry leaves equal ones
pub entered_fixed : (e : Edition) (s t : Settings) → s.edition ≡ e → t.edition ≡ e → Fixed e s t → Fixed e (entered_settings s) (entered_settings t)
unfolding entered_settings enhanced with_n with_byte
entered_fixed Cx486 s t d d' k =
    let none : (r : Settings) → r.edition ≡ Cx486 → enhanced r ≡ false = λ r e. rw e in
    rw (none s d, none t d') k
entered_fixed Mii s t d d' k =
    let same : enhanced s ≡ enhanced t = rw (d, d', k.smm_mode_lem) in
    rw same
    (both (Fixed Mii) (enhanced t)
    (λ h. record {
      listed = moved k.listed;
      smhr = k.smhr;
      smm_mode_lem = mode s.ccr6 ∙ k.smm_mode_lem ∙ sym (mode t.ccr6);
      nesting = clear s.ccr6 ∙ sym (clear t.ccr6);
    })
    (λ h. k))
  where
    mode : (c : ℕ) → (c / 128 * 128 + 64 * 0 + c % 64) % 2 ≡ c % 2
    mode c = omega arith

    clear : (c : ℕ) → (c / 128 * 128 + 64 * 0 + c % 64) / 64 % 2 ≡ 0
    clear c = omega arith

    moved : Fixed486 s t → Fixed486 (with_n s 0) (with_n t 0)
    moved f = record { ccr1 = f.ccr1; ccr3 = f.ccr3; high = f.high; middle = f.middle; low = f.low }

-- ---- where a boundary takes an SMI

pub takes_where : (s : Settings) (inside : Bool) → takes s inside ≡ true → (enabled s ≡ true) × (inside ≡ true → nestable s ≡ true)
unfolding takes
takes_where s inside e = let p = (and-eq-true_iff _ _).0 e in (p.0, λ k. rw k at p.1)

pub takes_is : (s : Settings) (inside : Bool) → enabled s ≡ true → (inside ≡ true → nestable s ≡ true) → takes s inside ≡ true
unfolding takes
takes_is s true on may = rw (on, may refl)
takes_is s false on may = rw on

pub nestable_enhanced : (s : Settings) → nestable s ≡ true → enhanced s ≡ true
unfolding nestable
nestable_enhanced s e = ((and-eq-true_iff (enhanced s) (bit_n s)).0 e).0
