use Rattle.std.proofs.Common.{◌≡◌, map, take}
use Rattle.uc_flat_order.proofs.names.target_names.Given as goal

abbrev pub invariant-loop-target : goal.invariant-loop-target
invariant-loop-target l = l.all ≡ map (λ t. t.name) (take l.target-index l.targets)
