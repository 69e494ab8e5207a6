use Rattle.uc_flat_laws.proofs.Judged.{verdict_holds}
use Rattle.uc_flat_laws.proofs.flat_verdicts.verdicts.Goals as goal

pub returns : goal.returns
returns c = verdict_holds
