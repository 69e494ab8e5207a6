use Rattle.std.proofs.Common.{ap, ◌∙◌}
use Rattle.uc_uses.specs.Lent.{lent}
use Rattle.uc_uses.proofs.ExpressionForms.{lent_push}
use Rattle.uc_uses.proofs.targets.push.Goals as goal

pub returns : goal.returns
returns c = ap lent c.in_ok-push.ensures.ok ∙ lent_push c.args.found.now c.args.expression
