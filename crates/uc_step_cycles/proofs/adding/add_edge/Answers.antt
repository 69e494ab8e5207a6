use Rattle.uc_step_cycles.proofs.Growing.{adds_one}
use Rattle.uc_step_cycles.proofs.adding.add_edge.Goals as goal

pub returns : goal.returns
returns c = adds_one _ _ _ _ c.in_ok-add.ensures.ok
