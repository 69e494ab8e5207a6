use Rattle.std.proofs.Common.{◌+◌, ◌*◌, []}
use Rattle.std.specs.List.{flat_map}
use Rattle.uc_syntax.proofs.Added.{AddedUpTo}
use Rattle.uc_flat_order.specs.Slices.{names_written}
use Rattle.uc_flat_order.proofs.names.+names_in.Given as goal

abbrev pub decreases-names_in : goal.decreases-names_in
decreases-names_in l = 5 * goal.size-names_in l + 1

abbrev pub decreases-names_written : goal.decreases-names_written
decreases-names_written l = 5 * goal.size-names_written l

abbrev pub decreases-names_in_arms : goal.decreases-names_in_arms
decreases-names_in_arms l = 5 * goal.size-names_in_arms l + 2

abbrev pub decreases-names_in_else : goal.decreases-names_in_else
decreases-names_in_else l = 5 * goal.size-names_in_else l + 2

abbrev pub invariant-names_in-loop-statement : goal.invariant-names_in-loop-statement
invariant-names_in-loop-statement l = AddedUpTo names_written l.code [] l.statement-index l.all

abbrev pub invariant-names_in_arms-loop-arm : goal.invariant-names_in_arms-loop-arm
invariant-names_in_arms-loop-arm l = AddedUpTo (λ a. flat_map names_written a.body) l.arms [] l.arm-index l.all
