-- Going by cases on a test. Assumes nothing.
use mathlib.Core.Path.{◌≡◌, refl}
use mathlib.Core.Bool.{Bool, true, false, cond, not, true≢false}

-- both ways of one test, each with what the test says there
pub both : {A B : Type 0} (P : A → B → Type 0) (b : Bool) {t f : A} {u v : B}
    → (b ≡ true → P t u) → (b ≡ false → P f v) → P (cond b t f) (cond b u v)
both P true p q = p refl
both P false p q = q refl

-- the same where one goes by the test's opposite
pub across : {A B : Type 0} (P : A → B → Type 0) (b : Bool) {t f : A} {u v : B}
    → (b ≡ true → P t v) → (b ≡ false → P f u) → P (cond b t f) (cond (not b) u v)
across P true p q = p refl
across P false p q = q refl

-- what holds of both ways of a test
pub either : {A : Type 0} (P : A → Type 0) (b : Bool) {t f : A} → (b ≡ true → P t) → (b ≡ false → P f) → P (cond b t f)
either P true p q = p refl
either P false p q = q refl

pub unlike : {A : Type 0} {b : Bool} → b ≡ true → b ≡ false → A
unlike p q = absurd (true≢false (cc))
