use Rattle.std.proofs.Common.{◌≡◌, [], refl, ap, ◌∙◌, sym}
use Rattle.uc_lookup.specs.Parts.{system_in}
use Rattle.uc_order_rules.specs.Uses.{clause_expressions}
use Rattle.uc_sizes.specs.Expanding.{expression_sizes}
use Rattle.uc_sizes.proofs.Expanding.{expressions_are}
use Rattle.uc_sizes.proofs.Spending.{memory_out, sizes_of, spends_none, spends_same, spends_stop, spends_two, spent_begin, spent_end, spent_more, spent_stop, stop_out}
use Rattle.uc_sizes.proofs.parts.spend_clauses.Goals as goal

pub loop-clause-init : goal.loop-clause-init
loop-clause-init c = spent_begin _ _ _

pub loop-clause-preserved : goal.loop-clause-preserved
loop-clause-preserved c =
    spent_more (λ k. expression_sizes (system_in c.args.system.now) [] (clause_expressions k)) c.args.clauses.now _ _ _ _ c.clause-item.result _ _ c.loop-clause.invariant c.loop-clause-test.true c.clause-item.is
    (spends_same _ _ _ _ _ c.in_ok-spend_expression.ensures (ap (expression_sizes (system_in c.args.system.now) []) (sym c.condition_of.ensures)))

pub returns-in_err-spend_expression : goal.returns-in_err-spend_expression
returns-in_err-spend_expression c =
    stop_out _ _ _ _ _ c.from_residual.ensures.1
    (spends_same _ _ _ (sizes_of (λ k. expression_sizes (system_in c.args.system.now) [] (clause_expressions k)) c.args.clauses.now) _
    (spent_stop (λ k. expression_sizes (system_in c.args.system.now) [] (clause_expressions k)) c.args.clauses.now _ _ _ _ _ c.clause-item.result _ _ c.loop-clause.invariant c.loop-clause-test.true c.clause-item.is
    (spends_same _ _ _ _ _ c.in_err-spend_expression.ensures (ap (expression_sizes (system_in c.args.system.now) []) (sym c.condition_of.ensures))))
    (sym (expressions_are (system_in c.args.system.now) [] clause_expressions c.args.clauses.now)))

pub returns : goal.returns
returns c =
    spends_same _ _ _ (sizes_of (λ k. expression_sizes (system_in c.args.system.now) [] (clause_expressions k)) c.args.clauses.now) _ (spent_end (λ k. expression_sizes (system_in c.args.system.now) [] (clause_expressions k)) c.args.clauses.now _ _ _ c.loop-clause.invariant c.loop-clause-test.false) (sym (expressions_are (system_in c.args.system.now) [] clause_expressions c.args.clauses.now))
