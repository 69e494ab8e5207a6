use Rattle.uc_flat.proofs.Running.{refutes}
use Rattle.uc_flat.proofs.flat_traces_laws.runs_refute.Goals as goal

pub returns : goal.returns
returns c = refutes
