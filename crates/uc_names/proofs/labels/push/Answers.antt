use Rattle.std.proofs.Common.{ap, ◌∙◌}
use Rattle.uc_names.specs.Senses.{entries_meant}
use Rattle.uc_names.proofs.Turns.{entries_push}
use Rattle.uc_names.proofs.labels.push.Goals as goal

pub returns : goal.returns
returns c = λ ms. ap (entries_meant ms) c.in_ok-push.ensures.ok ∙ entries_push ms c.args.entries.now c.args.entry
