use Rattle.isolation.proofs.Tightness.{header_determines, entry_determines, resumption_determines, resume_determines, passing_determines, agreement_determines}
use Rattle.isolation.proofs.Pointers.{pointers_determine, pointers_recorded}
use Rattle.isolation.proofs.claims.Goals as goal

pub returns : goal.returns
returns c = record {
  header = header_determines;
  entry = entry_determines;
  resumption = resumption_determines;
  resume = resume_determines;
  passing = passing_determines;
  pointers = pointers_determine;
  recorded = pointers_recorded;
  agreement = agreement_determines;
}
