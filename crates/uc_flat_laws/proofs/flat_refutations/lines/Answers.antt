use Rattle.uc_flat_laws.proofs.Judging.{lines_hold}
use Rattle.uc_flat_laws.proofs.flat_refutations.lines.Goals as goal

pub returns : goal.returns
returns c = lines_hold
