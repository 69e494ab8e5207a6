use Rattle.std.proofs.Common.{ap, sym, ◌∙◌, ◌++◌}
use Rattle.std.specs.List.{flat_map}
use Rattle.uc_syntax.proofs.Added.{added_begin, added_end, added_more}
use Rattle.uc_syntax.proofs.Labels.{flat_flat}
use Rattle.uc_order_rules.specs.Mentions.{mentions}
use Rattle.uc_order_rules.specs.Uses.{clause_expressions}
use Rattle.uc_uses.specs.Meant.{meant}
use Rattle.uc_uses.proofs.mentioned_uses.add_in_clauses.Goals as goal

pub loop-clause-init : goal.loop-clause-init
loop-clause-init c = added_begin _ _ _

pub loop-clause-preserved : goal.loop-clause-preserved
loop-clause-preserved c =
    added_more (λ d. flat_map mentions (clause_expressions d)) _ _ _ _ _ c.clause-item.result c.loop-clause.invariant c.loop-clause-test.true c.clause-item.is c.in_ok-add_in_clause.ensures

pub returns : goal.returns
returns c = added_end _ _ _ _ _ c.loop-clause.invariant c.loop-clause-test.false ∙ ap (λ ms. meant c.args.found.now ++ ms) (sym (flat_flat mentions clause_expressions c.args.clauses.now))
