use Rattle.std.proofs.Common.{ap, ◌∙◌, ◌++◌}
use Rattle.std.specs.List.{flat_map}
use Rattle.uc_order_rules.specs.Mentions.{expressions_in}
use Rattle.uc_uses.specs.Lent.{lent}
use Rattle.uc_uses.proofs.ExpressionForms.{lent_none}
use Rattle.uc_uses.proofs.expressions.expressions_in.Goals as goal

pub returns : goal.returns
returns c =
    c.in_ok-add_block.ensures ∙ ap (λ es. lent es ++ flat_map expressions_in c.args.code.now) c.new-found.ensures ∙ lent_none (flat_map expressions_in c.args.code.now)
