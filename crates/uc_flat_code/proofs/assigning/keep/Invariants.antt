use Rattle.std.proofs.Common.{◌≡◌, ◌++◌}
use Rattle.uc_flat_code.specs.Init.{kept}
use Rattle.uc_flat_code.proofs.assigning.keep.Given as goal

abbrev pub invariant-loop-value : goal.invariant-loop-value
invariant-loop-value l = l.all ++ kept l.cell l.value-iterator.rest.items ≡ kept l.fn.first l.fn.values
