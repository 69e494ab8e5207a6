use Rattle.std.proofs.Common.{◌≡◌, ◌++◌, map}
use Rattle.uc_flat_expressions.specs.Building.{negation}
use Rattle.uc_flat_expressions.proofs.building.negations.Given as goal

abbrev pub invariant-loop-part : goal.invariant-loop-part
invariant-loop-part l = l.made ++ map negation l.part-iterator.rest.items ≡ map negation l.fn.parts
