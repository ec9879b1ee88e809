use Rattle.step_laws.proofs.OneStep.{made}
use Rattle.step_laws.proofs.makes.Goals as goal

pub returns : goal.returns
returns c =
    let m = made _ _ _ _ c.step.ensures in
    record {
      number = m.0;
      refusal = m.1.0;
      boundary = m.1.1.0;
      lock = m.1.1.1;
    }
