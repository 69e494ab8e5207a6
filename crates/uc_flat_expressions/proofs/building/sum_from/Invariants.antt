use Rattle.std.proofs.Common.{◌≡◌}
use Rattle.uc_flat_expressions.specs.Building.{sum_from}
use Rattle.uc_flat_expressions.proofs.building.sum_from.Given as goal

abbrev pub invariant-loop-part : goal.invariant-loop-part
invariant-loop-part l = sum_from l.whole l.left l.part-iterator.rest.items ≡ sum_from l.fn.first l.signs l.fn.rest
