use Rattle.std.proofs.Common.{◌≡◌, map, take}
use Rattle.uc_rules.specs.Cycles.{instance_steps}
use Rattle.uc_cycles.specs.Numbers.{name_places}
use Rattle.uc_cycles.proofs.instances.instance_graph.Given as goal

abbrev pub invariant-loop-name : goal.invariant-loop-name
invariant-loop-name l = l.graph ≡ map (λ x. name_places l.numbers (instance_steps l.homes x)) (take l.name-index l.keys)
