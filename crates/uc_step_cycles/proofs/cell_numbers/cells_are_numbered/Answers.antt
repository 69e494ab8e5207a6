use Rattle.uc_step_cycles.proofs.Numbered.{cells_are_numbered}
use Rattle.uc_step_cycles.proofs.cell_numbers.cells_are_numbered.Goals as goal

pub returns : goal.returns
returns c = cells_are_numbered
