use Rattle.std.proofs.Common.{◌∙◌}
use Rattle.uc_runnable.proofs.Answers.{count_is}
use Rattle.uc_runnable.proofs.declarations.count_cells.Goals as goal

pub returns-in-Ok : goal.returns-in-Ok
returns-in-Ok c = count_is c.args.tables.now c.args.code.now c.in_ok-cells.cells c.in-Ok.count c.requires (c.in-Ok.ensures.1 ∙ c.len.ensures) c.in_ok-cells.ensures
