use Rattle.uclid_laws.proofs.Runs as laws
use Rattle.uclid_laws.proofs.clean_run.Goals as goal

pub returns : goal.returns
returns c = laws.clean_run
