use Rattle.uclid_laws.proofs.Designs.{one_design}
use Rattle.uclid_laws.proofs.one_design.Goals as goal

pub returns : goal.returns
returns c = one_design
