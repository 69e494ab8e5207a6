use Rattle.std.proofs.Common.{◌+◌, ◌*◌, ◌-◌}
use Rattle.uc_lookup.specs.Parts.{system_in}
use Rattle.uc_meaning.specs.Cells.{InstanceAt}
use Rattle.uc_sizes.specs.Expanding.{IsHere}
use Rattle.uc_sizes.proofs.Finding.{NoneUpTo}
use Rattle.uc_sizes.proofs.axioms.+find_from.Given as goal

abbrev pub decreases-find_from : goal.decreases-find_from
decreases-find_from l = 2 * l.depth

abbrev pub decreases-find_inside : goal.decreases-find_inside
decreases-find_inside l = 2 * l.depth + 1

abbrev pub invariant-find_from-loop-declaration : goal.invariant-find_from-loop-declaration
invariant-find_from-loop-declaration l =
    (here : InstanceAt) → IsHere l.path l.code here → NoneUpTo l.name (l.depth - 1) (system_in l.system) here l.declaration-items l.declaration-index
