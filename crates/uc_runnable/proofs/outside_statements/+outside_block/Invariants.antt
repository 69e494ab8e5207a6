use Rattle.std.proofs.Common.{◌≡◌, ◌+◌, ◌*◌, drop}
use Rattle.uc_meaning.specs.Lookup.{first_some}
use Rattle.uc_runnable.specs.Outside.{outside_statement}
use Rattle.uc_runnable.specs.Parts.{arm_in}
use Rattle.uc_runnable.proofs.outside_statements.+outside_block.Given as goal

abbrev pub invariant-outside_block-loop-statement : goal.invariant-outside_block-loop-statement
invariant-outside_block-loop-statement l = first_some outside_statement (drop l.statement-index l.block) ≡ first_some outside_statement l.block

abbrev pub invariant-outside_arms-loop-arm : goal.invariant-outside_arms-loop-arm
invariant-outside_arms-loop-arm l = first_some arm_in (drop l.arm-index l.arms) ≡ first_some arm_in l.arms

abbrev pub decreases-outside_statement : goal.decreases-outside_statement
decreases-outside_statement l = 3 * goal.size-outside_statement l

abbrev pub decreases-outside_block : goal.decreases-outside_block
decreases-outside_block l = 3 * goal.size-outside_block l + 1

abbrev pub decreases-outside_arms : goal.decreases-outside_arms
decreases-outside_arms l = 3 * goal.size-outside_arms l + 2

abbrev pub decreases-outside_else : goal.decreases-outside_else
decreases-outside_else l = 3 * goal.size-outside_else l + 2
