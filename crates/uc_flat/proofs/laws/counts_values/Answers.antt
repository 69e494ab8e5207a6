use Rattle.uc_flat.proofs.Extending.{next_after}
use Rattle.uc_flat.proofs.laws.counts_values.Goals as goal

pub returns : goal.returns
returns c = next_after
