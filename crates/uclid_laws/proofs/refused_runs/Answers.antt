use Rattle.uclid_laws.proofs.Runs.{refused_runs}
use Rattle.uclid_laws.proofs.refused_runs.Goals as goal

pub returns : goal.returns
returns c = refused_runs
