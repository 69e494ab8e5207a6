use Rattle.std.proofs.Common.{◌≡◌, false, take}
use Rattle.std.specs.List.{list_any}
use Rattle.uc_order_rules.specs.Order.{has_long_uses, roots}
use Rattle.uc_uses.specs.BoundLaw.{InstancesEnd}
use Rattle.uc_uses.proofs.chains.has_long_uses.Given as goal

abbrev pub invariant-loop-number : goal.invariant-loop-number
invariant-loop-number l = InstancesEnd l.design → list_any has_long_uses (take l.number (roots l.design)) ≡ false
