use Rattle.uc_flat_design.proofs.Telling.{flat_says}
use Rattle.uc_flat_design.proofs.flat_meaning.flat_expressions.Goals as goal

pub returns : goal.returns
returns c = flat_says
