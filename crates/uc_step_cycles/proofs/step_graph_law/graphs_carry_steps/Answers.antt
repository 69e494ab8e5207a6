use Rattle.uc_step_cycles.proofs.Carried.{graphs_carry_steps}
use Rattle.uc_step_cycles.proofs.step_graph_law.graphs_carry_steps.Goals as goal

pub returns : goal.returns
returns c = graphs_carry_steps
