use Rattle.uc_judge.proofs.Controls.{one_control, all_run}
use Rattle.uc_judge.proofs.commands.commands_of.Goals as goal

pub commands_in-requires : goal.commands_in-requires
commands_in-requires c = one_control c.args.d.now c.keeps.ensures c.declarations.result.now c.declarations.ensures

pub returns-clause-run : goal.returns-clause-run
returns-clause-run c = all_run c.args.d.now c.keeps.ensures c.declarations.result.now c.commands_in.result.now c.declarations.ensures c.commands_in.ensures
