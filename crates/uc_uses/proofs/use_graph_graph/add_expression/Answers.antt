use Rattle.std.proofs.Common.{ap, ◌∙◌, ◌++◌}
use Rattle.uc_order_rules.specs.Mentions.{mentions}
use Rattle.uc_uses.specs.Meant.{meant}
use Rattle.uc_uses.specs.Resolving.{names_among, uses_among}
use Rattle.uc_uses.proofs.Mentions.{begun}
use Rattle.uc_uses.proofs.use_graph_graph.add_expression.Goals as goal

pub returns-clause-uses : goal.returns-clause-uses
returns-clause-uses c =
    c.in_ok-add_mentions-2.ensures.uses
    ∙ ap (λ ms. c.args.found.now.uses ++ uses_among c.args.tree.now c.args.table.now c.args.node ms) (ap meant c.as_slice.ensures ∙ c.in_ok-add_mentions.ensures ∙ begun c.new-mentions.result (mentions c.args.expression.now) c.new-mentions.ensures)

pub returns-clause-names : goal.returns-clause-names
returns-clause-names c =
    c.in_ok-add_mentions-2.ensures.names
    ∙ ap (λ ms. c.args.found.now.names ++ names_among c.args.tree.now c.args.table.now c.args.node ms) (ap meant c.as_slice.ensures ∙ c.in_ok-add_mentions.ensures ∙ begun c.new-mentions.result (mentions c.args.expression.now) c.new-mentions.ensures)
