use Rattle.uc_step_cycles.proofs.Tied.{cycles_are_numbered}
use Rattle.uc_step_cycles.proofs.step_ties.cycles_are_numbered.Goals as goal

pub returns : goal.returns
returns c = cycles_are_numbered
