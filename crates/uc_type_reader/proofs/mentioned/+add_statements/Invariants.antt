use Rattle.std.proofs.Common.{◌+◌, ◌*◌}
use Rattle.std.specs.List.{flat_map}
use Rattle.uc_type_reader.specs.Mentioned.{types_written, types_in_arm}
use Rattle.uc_type_reader.proofs.Gained.{GainedUpTo}
use Rattle.uc_type_reader.proofs.mentioned.+add_statements.Given as goal

abbrev pub decreases-add_statement : goal.decreases-add_statement
decreases-add_statement l = 3 * goal.size-add_statement l

abbrev pub decreases-add_block : goal.decreases-add_block
decreases-add_block l = 3 * goal.size-add_block l + 1

abbrev pub decreases-add_arms : goal.decreases-add_arms
decreases-add_arms l = 3 * goal.size-add_arms l + 2

abbrev pub decreases-add_otherwise : goal.decreases-add_otherwise
decreases-add_otherwise l = 3 * goal.size-add_otherwise l + 2

abbrev pub invariant-add_block-loop-statement : goal.invariant-add_block-loop-statement
invariant-add_block-loop-statement l = GainedUpTo types_written l.block l.initial.found l.statement-index l.found

abbrev pub invariant-add_arms-loop-arm : goal.invariant-add_arms-loop-arm
invariant-add_arms-loop-arm l = GainedUpTo types_in_arm l.arms l.initial.found l.arm-index l.found
