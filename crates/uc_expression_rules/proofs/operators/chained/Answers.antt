use Rattle.uc_expression_rules.proofs.Products.{chained_none}
use Rattle.uc_expression_rules.proofs.operators.chained.Goals as goal

pub returns-then-is_empty : goal.returns-then-is_empty
returns-then-is_empty c = chained_none c.args.chain c.args.marks.now c.args.types c.args.first.now (c.is_empty.ensures.0 c.if-is_empty.true)
