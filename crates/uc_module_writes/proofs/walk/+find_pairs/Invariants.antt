use Rattle.std.proofs.Common.{◌+◌, ◌*◌, ◌∷◌, []}
use Rattle.uc_module_writes.specs.Found.{FindsSteps, Steps, stretch_of}
use Rattle.uc_module_writes.proofs.Going.{ArmsFrom, OnFrom}
use Rattle.uc_module_writes.proofs.walk.+find_pairs.Given as goal

-- At one depth the functions call each other from the highest rank down.
abbrev pub decreases-find_in_statement : goal.decreases-find_in_statement
decreases-find_in_statement l = 4 * goal.size-find_in_statement l

abbrev pub decreases-find_in_block : goal.decreases-find_in_block
decreases-find_in_block l = 4 * goal.size-find_in_block l + 1

abbrev pub decreases-found_in_block : goal.decreases-found_in_block
decreases-found_in_block l = 4 * goal.size-found_in_block l + 2

abbrev pub decreases-found_in_arms : goal.decreases-found_in_arms
decreases-found_in_arms l = 4 * goal.size-found_in_arms l + 3

abbrev pub decreases-found_in_otherwise : goal.decreases-found_in_otherwise
decreases-found_in_otherwise l = 4 * goal.size-found_in_otherwise l + 3

abbrev pub invariant-find_in_block-loop-statement : goal.invariant-find_in_block-loop-statement
invariant-find_in_block-loop-statement l =
    (steps : Steps) → FindsSteps l.table steps → OnFrom l.table.names.now (λ s meets. stretch_of l.effects steps meets s ∷ []) l.block l.fn.all l.statement-index l.all

abbrev pub invariant-found_in_arms-loop-arm : goal.invariant-found_in_arms-loop-arm
invariant-found_in_arms-loop-arm l = ArmsFrom l.effects l.table l.arms l.arm-index l.either'
