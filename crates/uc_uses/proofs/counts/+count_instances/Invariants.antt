use Rattle.std.proofs.Common.{◌+◌, ◌*◌}
use Rattle.uc_lookup.specs.Parts.{system_in}
use Rattle.uc_meaning.specs.Cells.{InstanceAt}
use Rattle.uc_uses.specs.Counting.{own_inside}
use Rattle.uc_uses.proofs.Counting.{CountedUpTo}
use Rattle.uc_uses.proofs.counts.+count_instances.Given as goal

abbrev pub decreases-count_instances : goal.decreases-count_instances
decreases-count_instances l = 3 * l.depth

abbrev pub decreases-count_all_inside : goal.decreases-count_all_inside
decreases-count_all_inside l = 3 * l.depth + 2

abbrev pub decreases-count_inside : goal.decreases-count_inside
decreases-count_inside l = 3 * l.depth + 1

abbrev pub invariant-count_all_inside-loop-declaration : goal.invariant-count_all_inside-loop-declaration
invariant-count_all_inside-loop-declaration l =
    (here : InstanceAt) → CountedUpTo (own_inside l.counted l.depth (system_in l.system) here) l.declarations l.limit l.fn.count l.declaration-index l.count
