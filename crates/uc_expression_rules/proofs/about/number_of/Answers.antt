use Rattle.uc_expression_rules.proofs.Elsewhere.{number_elsewhere}
use Rattle.uc_expression_rules.proofs.Selected.{number_missing, number_there}
use Rattle.uc_expression_rules.proofs.about.number_of.Goals as goal

pub returns-then-is_empty : goal.returns-then-is_empty
returns-then-is_empty c at = number_there c.in-Selected.field-0 at c.in-Selected.primary c.in-Selected.selections c.args.e.now c.in-Selected.is c.number_of_primary.result (c.is_empty.ensures.0 c.if-is_empty.true) c.number_of_primary.ensures

pub returns-else-is_empty : goal.returns-else-is_empty
returns-else-is_empty c at = number_missing c.in-Selected.field-0 at c.in-Selected.primary c.in-Selected.selections c.args.e.now c.in-Selected.is c.is_empty.result c.is_empty.ensures c.if-is_empty.false

pub returns-in_default : goal.returns-in_default
returns-in_default c at = number_elsewhere at c.args.e.now c.in_default.not-Selected
