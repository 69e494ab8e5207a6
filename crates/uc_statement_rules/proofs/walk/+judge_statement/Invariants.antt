use Rattle.std.proofs.Common.{◌+◌, ◌*◌, take}
use Rattle.uc_statement_rules.specs.Judging.{JudgesArms}
use Rattle.uc_statement_rules.proofs.Blocks.{BlockFrom}
use Rattle.uc_statement_rules.proofs.walk.+judge_statement.Given as goal

abbrev pub decreases-judge_statement : goal.decreases-judge_statement
decreases-judge_statement l = 3 * goal.size-judge_statement l

abbrev pub decreases-judge_block : goal.decreases-judge_block
decreases-judge_block l = 3 * goal.size-judge_block l + 1

abbrev pub decreases-judge_arms : goal.decreases-judge_arms
decreases-judge_arms l = 3 * goal.size-judge_arms l + 2

abbrev pub decreases-judge_otherwise : goal.decreases-judge_otherwise
decreases-judge_otherwise l = 3 * goal.size-judge_otherwise l + 2

abbrev pub invariant-judge_block-loop-statement : goal.invariant-judge_block-loop-statement
invariant-judge_block-loop-statement l = BlockFrom l.fn.scope l.block l.fn.first l.statement-index l.scope l.first

abbrev pub invariant-judge_arms-loop-arm : goal.invariant-judge_arms-loop-arm
invariant-judge_arms-loop-arm l = JudgesArms l.fn.scope (take l.arm-index l.arms) l.fn.first l.first l.scope
