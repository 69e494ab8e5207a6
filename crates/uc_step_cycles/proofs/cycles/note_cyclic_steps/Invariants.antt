use Rattle.std.proofs.Common.{◌≡◌, take}
use Rattle.std.specs.List.{flat_map}
use Rattle.uc_rules.specs.Faults.{first_of}
use Rattle.uc_order_rules.specs.Order.{dependence_in, roots}
use Rattle.uc_uses.specs.BoundLaw.{InstancesEnd}
use Rattle.uc_uses.specs.KeptModules.{HasModules}
use Rattle.uc_step_cycles.proofs.cycles.note_cyclic_steps.Given as goal

abbrev pub invariant-loop-number : goal.invariant-loop-number
invariant-loop-number l = InstancesEnd l.names → HasModules l.names → l.first ≡ first_of l.fn.first (flat_map dependence_in (take l.number (roots l.names)))
