use Rattle.std.proofs.Common.{◌≡◌, take}
use Rattle.std.specs.List.{flat_map}
use Rattle.uc_rules.specs.Faults.{first_of}
use Rattle.uc_order_rules.specs.Order.{cycles_in, roots}
use Rattle.uc_uses.specs.BoundLaw.{InstancesEnd}
use Rattle.uc_uses.proofs.cycles.note_use_cycles.Given as goal

abbrev pub invariant-loop-number : goal.invariant-loop-number
invariant-loop-number l = InstancesEnd l.design → l.first ≡ first_of l.fn.first (flat_map cycles_in (take l.number (roots l.design)))
