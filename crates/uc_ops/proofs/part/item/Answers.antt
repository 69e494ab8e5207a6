use Rattle.std.proofs.Common.{ap, ◌∙◌, unwrap_or}
use Rattle.std.proofs.lemmas.Option.{unwrap_or-slice_get}
use Rattle.uc_values.specs.Values.{nothing}
use Rattle.uc_ops.proofs.part.item.Goals as goal

pub returns-in-None : goal.returns-in-None
returns-in-None c = c.requires ∙ ap (λ o. unwrap_or o nothing) c.in-None.ensures ∙ unwrap_or-slice_get c.args.values.now c.args.place nothing
