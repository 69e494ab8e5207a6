use Rattle.uclid_laws.proofs.Passed as laws
use Rattle.uclid_laws.proofs.passed_verify.Goals as goal

pub returns : goal.returns
returns c = laws.passed_verify
