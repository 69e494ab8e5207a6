use Rattle.std.proofs.Common.{◌≡◌, ◌++◌}
use Rattle.uc_flat_expressions.specs.Building.{expressions_in}
use Rattle.uc_flat_expressions.proofs.building.expressions_of.Given as goal

abbrev pub invariant-loop-part : goal.invariant-loop-part
invariant-loop-part l = l.expressions ++ expressions_in l.part-iterator.rest.items ≡ expressions_in l.fn.parts
