use Rattle.std.proofs.Common.{◌∙◌}
use Rattle.uc_judge.proofs.Controls.{control_found, control_more}
use Rattle.uc_judge.proofs.commands.commands_in.Goals as goal

pub returns-in-Control : goal.returns-in-Control
returns-in-Control c =
    c.as_slice.ensures ∙ control_found c.args.decls.now c.loop-decl.decl-index c.decl-item.result c.in-Control.field-0 c.in-Control.commands c.loop-decl.invariant c.loop-decl-test.true c.decl-item.is c.in-Control.is

pub loop-decl-preserved : goal.loop-decl-preserved
loop-decl-preserved c = control_more c.args.decls.now c.loop-decl.decl-index c.decl-item.result c.loop-decl.invariant c.loop-decl-test.true c.decl-item.is c.in_default.not-Control
