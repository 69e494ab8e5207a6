use Rattle.uclid_laws.proofs.Apart as laws
use Rattle.uclid_laws.proofs.running_apart.Goals as goal

pub returns : goal.returns
returns c = laws.running_apart
