use Rattle.isolation.proofs.Service.{enters_where_due, enters_as_stated, passes_as_stated, resumes_where_due, resumes_as_stated, resumes_as_entered}
use Rattle.isolation.proofs.Pointers.{pointers_as_stated}
use Rattle.isolation.proofs.Examples.{boundary_examples, smint_examples, passing_examples}
use Rattle.isolation.proofs.demand_2.Goals as goal

pub returns : goal.returns
returns c = record {
  due = enters_where_due;
  enters = enters_as_stated;
  passes = passes_as_stated;
  back = resumes_where_due;
  resumes = resumes_as_stated;
  returns = resumes_as_entered;
  pointers = pointers_as_stated;
  boundaries = boundary_examples;
  smint = smint_examples;
  passing = passing_examples;
}
