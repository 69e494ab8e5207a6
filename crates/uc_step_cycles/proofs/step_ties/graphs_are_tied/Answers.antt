use Rattle.uc_step_cycles.proofs.Tied.{graphs_are_tied}
use Rattle.uc_step_cycles.proofs.step_ties.graphs_are_tied.Goals as goal

pub returns : goal.returns
returns c = graphs_are_tied
