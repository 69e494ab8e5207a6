use Rattle.uc_obligations.proofs.Knowing.{no_constants}
use Rattle.uc_flat_lines.proofs.law.reads_own_types.Goals as goal

pub returns : goal.returns
returns c = no_constants
