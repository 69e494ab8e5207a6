use Rattle.std.proofs.Common.{◌≡◌, ◌+◌, ◌*◌, take}
use Rattle.uc_syntax.proofs.statement.+copy_statements.Given as goal

-- At one depth the functions call each other from the highest rank down.
abbrev pub decreases-Stmt::copy : goal.decreases-Stmt::copy
decreases-Stmt::copy l = 3 * goal.size-Stmt::copy l

abbrev pub decreases-copy_block : goal.decreases-copy_block
decreases-copy_block l = 3 * goal.size-copy_block l + 1

abbrev pub decreases-copy_optional_block : goal.decreases-copy_optional_block
decreases-copy_optional_block l = 3 * goal.size-copy_optional_block l + 2

abbrev pub decreases-copy_arms : goal.decreases-copy_arms
decreases-copy_arms l = 3 * goal.size-copy_arms l + 2

abbrev pub invariant-copy_block-loop-statement : goal.invariant-copy_block-loop-statement
invariant-copy_block-loop-statement l = l.copies ≡ take l.statement-index l.block

abbrev pub invariant-copy_arms-loop-arm : goal.invariant-copy_arms-loop-arm
invariant-copy_arms-loop-arm l = l.copies ≡ take l.arm-index l.arms
