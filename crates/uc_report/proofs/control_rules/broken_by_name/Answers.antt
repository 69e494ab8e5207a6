use Rattle.uc_report.proofs.ControlForms.{named_end}
use Rattle.uc_report.proofs.control_rules.broken_by_name.Goals as goal

pub returns : goal.returns
returns c =
    named_end c.args.name c.args.others.now c.loop-decl.decl-index c.args.commands.now c.loop-decl.broken c.broken_behind_all.result c.loop-decl-test.false c.loop-decl.invariant c.broken_behind_all.ensures
