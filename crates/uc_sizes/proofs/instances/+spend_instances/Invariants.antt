use Rattle.std.proofs.Common.{◌≡◌, ◌+◌, ◌*◌}
use Rattle.uc_lookup.specs.Parts.{system_in}
use Rattle.uc_meaning.specs.Cells.{InstanceAt}
use Rattle.uc_sizes.specs.Spending.{size_in}
use Rattle.uc_sizes.proofs.Spending.{SpentUpTo}
use Rattle.uc_sizes.specs.Expanding.{sizes_inside}
use Rattle.uc_sizes.proofs.instances.+spend_instances.Given as goal

abbrev pub decreases-spend_instances : goal.decreases-spend_instances
decreases-spend_instances l = 3 * l.depth

abbrev pub decreases-spend_all_inside : goal.decreases-spend_all_inside
decreases-spend_all_inside l = 3 * l.depth + 2

abbrev pub decreases-spend_inside : goal.decreases-spend_inside
decreases-spend_inside l = 3 * l.depth + 1

abbrev pub invariant-spend_all_inside-loop-declaration : goal.invariant-spend_all_inside-loop-declaration
invariant-spend_all_inside-loop-declaration l =
    (here : InstanceAt) → here.path ≡ l.path → SpentUpTo (sizes_inside l.depth (system_in l.system) here) l.declarations (size_in l.fn.spent) l.declaration-index (size_in l.spent)
