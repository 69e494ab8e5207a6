use Rattle.std.proofs.Common.{◌≡◌, take}
use Rattle.uc_values.proofs.copying.+copy.Given as goal

abbrev pub invariant-copy_all-loop-value : goal.invariant-copy_all-loop-value
invariant-copy_all-loop-value l = l.copies ≡ take l.value-index l.values

abbrev pub invariant-copy_exceptions-loop-index : goal.invariant-copy_exceptions-loop-index
invariant-copy_exceptions-loop-index l = l.copies.items ≡ take l.index-index l.exceptions
