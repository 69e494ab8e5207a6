use Rattle.std.proofs.Common.{ap, ◌∙◌}
use Rattle.std.specs.Prelude.{unwrap_or}
use Rattle.uc_names.proofs.numbers.OpaqueNumbers.number.Goals as goal

pub returns : goal.returns
returns c = λ s known. c.unwrap_or.ensures ∙ ap (λ o. unwrap_or o 0) c.get.ensures ∙ known.numbers_known c.args.owner c.args.name
