-- The log of a replay: what is noted of each record, and how it is packed into one number.
use Rattle.std.specs.Prelude.{ℕ, ◌+◌, ◌*◌, ◌/◌, ◌%◌, ◌≡◌, Bool, eqb}
use Rattle.fields.specs.Fields.{bit}
use Rattle.steps.specs.declared.Answer.{Answer}
use Rattle.steps.specs.declared.Step.{Step}
use Rattle.steps.specs.Answers.{number_of, value_of}
use Rattle.steps.specs.Steps.{kind_of}

-- a step, whether the machine was inside management mode before it, and its answer
pub record Event : Type 0 where
  pub step : Step
  pub inside : Bool
  pub answer : Answer

abbrev pub event : Step → Bool → Answer → Event
event s inside a = record { step = s; inside = inside; answer = a }

-- bits 0 to 7 the answer's number, 8 to 15 the record's kind, 16 inside, 32 to 63 the answer's value; the others are 0
unfoldable pub noted : Event → ℕ
noted e = number_of e.answer + 256 * kind_of e.step + 65536 * bit e.inside + 4294967296 * value_of e.answer

abbrev pub number_in : ℕ → ℕ
number_in n = n % 256

abbrev pub kind_in : ℕ → ℕ
kind_in n = n / 256 % 256

abbrev pub inside_in : ℕ → Bool
inside_in n = eqb (n / 65536 % 2) 1

abbrev pub value_in : ℕ → ℕ
value_in n = n / 4294967296

-- what was noted is found again
pub record TakenApart (e : Event) : Type 0 where
  pub number : number_in (noted e) ≡ number_of e.answer
  pub kind : kind_in (noted e) ≡ kind_of e.step
  pub inside : inside_in (noted e) ≡ e.inside
  pub value : value_in (noted e) ≡ value_of e.answer

abbrev pub LogTakenApart : Type 0
LogTakenApart = (e : Event) → TakenApart e
