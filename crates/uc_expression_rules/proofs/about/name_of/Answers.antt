use Rattle.uc_expression_rules.proofs.Elsewhere.{name_elsewhere}
use Rattle.uc_expression_rules.proofs.Selected.{name_missing, name_there}
use Rattle.uc_expression_rules.proofs.about.name_of.Goals as goal

pub returns-then-is_empty : goal.returns-then-is_empty
returns-then-is_empty c at = name_there c.in-Selected.field-0 at c.in-Selected.primary c.in-Selected.selections c.args.e.now c.in-Selected.is c.name_of_primary.result (c.is_empty.ensures.0 c.if-is_empty.true) c.name_of_primary.ensures

pub returns-else-is_empty : goal.returns-else-is_empty
returns-else-is_empty c at = name_missing c.in-Selected.field-0 at c.in-Selected.primary c.in-Selected.selections c.args.e.now c.in-Selected.is c.is_empty.result c.is_empty.ensures c.if-is_empty.false

pub returns-in_default : goal.returns-in_default
returns-in_default c at = name_elsewhere at c.args.e.now c.in_default.not-Selected
