use Rattle.std.proofs.Common.{ap, sym, ◌∙◌}
use Rattle.std.specs.Prelude.{◌&&◌}
use Rattle.std.specs.Option.{is_some}
use Rattle.uc_rules.specs.Expressions.{is_negation, judged}
use Rattle.uc_expression_rules.proofs.Forms.{judged_unary}
use Rattle.uc_expression_rules.proofs.Elsewhere.{plain_elsewhere}
use Rattle.uc_expression_rules.proofs.Selected.{plain_missing, plain_there}
use Rattle.uc_expression_rules.proofs.about.is_plain.Goals as goal

pub returns-then-is_empty : goal.returns-then-is_empty
returns-then-is_empty c =
    plain_there c.in-Selected.field-0 c.args.scope.now c.in-Selected.primary c.in-Selected.selections c.args.e.now c.in-Selected.is c.is_plain_primary.result (c.is_empty.ensures.0 c.if-is_empty.true) c.is_plain_primary.ensures

pub returns-else-is_empty : goal.returns-else-is_empty
returns-else-is_empty c =
    plain_missing c.in-Selected.field-0 c.args.scope.now c.in-Selected.primary c.in-Selected.selections c.args.e.now c.in-Selected.is c.is_empty.result c.is_empty.ensures c.if-is_empty.false

pub returns-in-Unary : goal.returns-in-Unary
returns-in-Unary c =
    c.is_negated_number.ensures c.args.scope.now
    ∙ ap (λ x. is_negation c.in-Unary.operator && is_some (judged x c.args.scope.now).number) c.get.ensures
    ∙ ap (λ j. j.plain) (sym (judged_unary c.args.scope.now c.in-Unary.field-0 c.in-Unary.operator c.in-Unary.operand))
    ∙ ap (λ x. (judged x c.args.scope.now).plain) (sym c.in-Unary.is)

pub returns-in_default : goal.returns-in_default
returns-in_default c = plain_elsewhere c.args.scope.now c.args.e.now c.in_default.not-Unary c.in_default.not-Selected
