use Rattle.uc_flat_laws.proofs.Judged.{linked_hold}
use Rattle.uc_flat_laws.proofs.flat_verdicts.linked_lines.Goals as goal

pub returns : goal.returns
returns c = linked_hold
