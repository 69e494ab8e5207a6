use Rattle.std.proofs.Common.{◌≡◌, map, take}
use Rattle.uc_rules.specs.Cycles.{alias_steps}
use Rattle.uc_cycles.specs.Numbers.{key_name, type_places}
use Rattle.uc_cycles.proofs.aliases.alias_graph.Given as goal

abbrev pub invariant-loop-key : goal.invariant-loop-key
invariant-loop-key l = l.graph ≡ map (λ k. type_places l.numbers (alias_steps l.homes (key_name k))) (take l.key-index l.keys)
