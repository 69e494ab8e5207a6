use Rattle.uclid_laws.proofs.Designs.{never_both}
use Rattle.uclid_laws.proofs.never_both.Goals as goal

pub returns : goal.returns
returns c = never_both
