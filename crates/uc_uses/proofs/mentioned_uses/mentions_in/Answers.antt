use Rattle.std.proofs.Common.{ap, ◌∙◌}
use Rattle.std.specs.List.{flat_map}
use Rattle.uc_order_rules.specs.Mentions.{expressions_in, mentions}
use Rattle.uc_order_rules.specs.Uses.{clause_expressions}
use Rattle.uc_uses.specs.Lent.{lent}
use Rattle.uc_uses.proofs.Mentions.{begun, whole_procedure}
use Rattle.uc_uses.proofs.mentioned_uses.mentions_in.Goals as goal

pub returns : goal.returns
returns c =
    whole_procedure c.args.procedure.now _ _ _
    (c.in_ok-add_in_clauses.ensures ∙ begun c.new-found.result _ c.new-found.ensures ∙ ap (λ cs. flat_map mentions (flat_map clause_expressions cs)) c.as_slice-2.ensures)
    (ap lent c.as_slice-3.ensures ∙ c.in_ok-expressions.ensures ∙ ap (flat_map expressions_in) c.as_slice.ensures)
    c.in_ok-add_in_all.ensures
