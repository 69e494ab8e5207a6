use Rattle.uc_flat_laws.proofs.Traces.{refuted_holds}
use Rattle.uc_flat_laws.proofs.flat_refutations.refuted.Goals as goal

pub returns : goal.returns
returns c = refuted_holds
