use Rattle.uc_order_rules.specs.Mentions.{expressions_in}
use Rattle.uc_syntax.proofs.Added.{AddedUpTo}
use Rattle.uc_uses.specs.Lent.{expressions_in_arm, lent}
use Rattle.uc_uses.proofs.expressions.+add_statements.Given as goal

abbrev pub invariant-add_block-loop-statement : goal.invariant-add_block-loop-statement
invariant-add_block-loop-statement l = AddedUpTo expressions_in l.block (lent l.fn.found) l.statement-index (lent l.found)

abbrev pub invariant-add_arms-loop-arm : goal.invariant-add_arms-loop-arm
invariant-add_arms-loop-arm l = AddedUpTo expressions_in_arm l.arms (lent l.fn.found) l.arm-index (lent l.found)

abbrev pub invariant-add_arms-loop-statement : goal.invariant-add_arms-loop-statement
invariant-add_arms-loop-statement l = AddedUpTo expressions_in l.block (lent l.initial.found) l.statement-index (lent l.found)
