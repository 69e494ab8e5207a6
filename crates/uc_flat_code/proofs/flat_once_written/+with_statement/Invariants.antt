use Rattle.std.proofs.Common.{◌+◌, ◌*◌}
use Rattle.uc_syntax.proofs.Added.{AddedUpTo}
use Rattle.uc_flat_code.specs.Written.{arm_parts, written_parts}
use Rattle.uc_flat_code.proofs.flat_once_written.+with_statement.Given as goal

abbrev pub decreases-with_statement : goal.decreases-with_statement
decreases-with_statement l = 3 * goal.size-with_statement l

abbrev pub decreases-with_code : goal.decreases-with_code
decreases-with_code l = 3 * goal.size-with_code l + 1

abbrev pub decreases-with_arms : goal.decreases-with_arms
decreases-with_arms l = 3 * goal.size-with_arms l + 2

abbrev pub decreases-with_else : goal.decreases-with_else
decreases-with_else l = 3 * goal.size-with_else l + 2

abbrev pub invariant-with_code-loop-statement : goal.invariant-with_code-loop-statement
invariant-with_code-loop-statement l = AddedUpTo (written_parts l.names) l.code l.fn.before l.statement-index l.all

abbrev pub invariant-with_arms-loop-arm : goal.invariant-with_arms-loop-arm
invariant-with_arms-loop-arm l = AddedUpTo (arm_parts (written_parts l.names)) l.arms l.fn.before l.arm-index l.all
