use Rattle.uc_step_cycles.proofs.Leading.{inputs_lead_to_cells}
use Rattle.uc_step_cycles.proofs.input_ways.inputs_lead_to_cells.Goals as goal

pub returns : goal.returns
returns c = inputs_lead_to_cells
