use Rattle.uclid_laws.proofs.Runs.{accepted_runs}
use Rattle.uclid_laws.proofs.accepted_runs.Goals as goal

pub returns : goal.returns
returns c = accepted_runs
