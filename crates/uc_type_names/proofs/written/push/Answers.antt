use Rattle.std.proofs.Common.{ap, ◌∙◌}
use Rattle.uc_type_names.specs.Lent.{lent}
use Rattle.uc_type_names.proofs.Forms.{lent_push}
use Rattle.uc_type_names.proofs.written.push.Goals as goal

pub returns : goal.returns
returns c = ap lent c.in_ok-push.ensures.ok ∙ lent_push c.args.types.now c.args.ty
