use Rattle.uclid_laws.proofs.Apart as laws
use Rattle.uclid_laws.proofs.typed_apart.Goals as goal

pub returns : goal.returns
returns c = laws.typed_apart
