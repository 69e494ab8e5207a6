use Rattle.std.proofs.Common.{ap, ◌∙◌}
use Rattle.uc_type_names.specs.Lent.{meant}
use Rattle.uc_type_names.proofs.EnumForms.{meant_push}
use Rattle.uc_type_names.proofs.enums.push.Goals as goal

pub returns : goal.returns
returns c = ap meant c.in_ok-push.ensures.ok ∙ meant_push c.args.enums.now c.args.written
