use Rattle.std.proofs.Common.{arith}
use Rattle.lines.proofs.Digits.{one_digit, two_digits, three_digits}
use Rattle.lines.proofs.put_decimal.Goals as goal

pub returns-in-0-to-9-clause-stored : goal.returns-in-0-to-9-clause-stored
returns-in-0-to-9-clause-stored c = rw (one_digit c.args.n (omega arith), ← c.digit.ensures) c.put.ensures

pub returns-in-10-to-99-clause-stored : goal.returns-in-10-to-99-clause-stored
returns-in-10-to-99-clause-stored c = rw (two_digits c.args.n (omega arith) (omega arith), ← c.digit-in-10-to-99.ensures, ← c.digit-in-10-to-99-2.ensures) c.put-in-10-to-99.ensures

pub returns-in_default-clause-stored : goal.returns-in_default-clause-stored
returns-in_default-clause-stored c = rw (three_digits c.args.n (omega arith) (omega arith), ← c.digit-in_default.ensures, ← c.digit-in_default-2.ensures, ← c.digit-in_default-3.ensures) c.put-in_default.ensures
