use Rattle.std.proofs.Common.{ap, ◌∙◌}
use Rattle.uc_uses.specs.Meant.{meant}
use Rattle.uc_uses.proofs.Forms.{meant_push}
use Rattle.uc_uses.proofs.mentioned_names.push.Goals as goal

pub returns : goal.returns
returns c = ap meant c.in_ok-push.ensures.ok ∙ meant_push c.args.mentions.now c.args.mentioned
