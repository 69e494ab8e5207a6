use Rattle.std.proofs.Common.{sym}
use Rattle.uc_uses.proofs.Adding.{adds_same}
use Rattle.uc_uses.proofs.growing.add_declared.Goals as goal

pub returns-in-None : goal.returns-in-None
returns-in-None c = λ before ds a. adds_same c.args.modules.now c.args.node before ds c.args.declaration.now c.args.found.now c.args.nodes.now (sym c.in-None.ensures) a

pub returns-in_ok-add_instance-in-Some : goal.returns-in_ok-add_instance-in-Some
returns-in_ok-add_instance-in-Some c = λ before ds a. c.in_ok-add_instance-in-Some.ensures before ds c.args.declaration.now (sym c.in-Some.ensures) a
