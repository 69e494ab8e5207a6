use Rattle.std.proofs.Common.{◌≡◌}
use Rattle.uc_flat_expressions.specs.Building.{chain_from}
use Rattle.uc_flat_expressions.proofs.building.chain_from.Given as goal

abbrev pub invariant-loop-part : goal.invariant-loop-part
invariant-loop-part l = chain_from l.kind l.whole l.part-iterator.rest.items ≡ chain_from l.kind l.fn.first l.fn.rest
