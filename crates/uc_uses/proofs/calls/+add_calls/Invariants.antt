use Rattle.uc_order_rules.specs.Mentions.{calls_in}
use Rattle.uc_syntax.proofs.Added.{AddedUpTo}
use Rattle.uc_uses.specs.Lent.{calls_in_arm}
use Rattle.uc_uses.proofs.calls.+add_calls.Given as goal

abbrev pub invariant-add_block-loop-statement : goal.invariant-add_block-loop-statement
invariant-add_block-loop-statement l = AddedUpTo calls_in l.block l.fn.found l.statement-index l.found

abbrev pub invariant-add_arms-loop-arm : goal.invariant-add_arms-loop-arm
invariant-add_arms-loop-arm l = AddedUpTo calls_in_arm l.arms l.fn.found l.arm-index l.found

abbrev pub invariant-add_arms-loop-statement : goal.invariant-add_arms-loop-statement
invariant-add_arms-loop-statement l = AddedUpTo calls_in l.block l.initial.found l.statement-index l.found
