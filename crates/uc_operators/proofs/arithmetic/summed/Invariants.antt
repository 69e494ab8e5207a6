use Rattle.std.proofs.Common.{◌≡◌, ◌+◌, drop}
use Rattle.uc_meaning.specs.Operators.{summed_from, summed}
use Rattle.uc_meaning.specs.Overflow.{sum_operations, operations_of_sum}
use Rattle.uc_operators.specs.Words.{IsWord}
use Rattle.uc_operators.specs.Overflows.{first_wide}
use Rattle.uc_operators.proofs.arithmetic.summed.Given as goal

abbrev pub invariant-loop-place : goal.invariant-loop-place
invariant-loop-place l = record {
  word : IsWord l.total;
  value : summed_from l.total (drop l.place l.signs) (drop (l.place + 1) l.values) ≡ summed l.signs l.values;
  wide : first_wide (sum_operations l.total (drop l.place l.signs) (drop (l.place + 1) l.values)) ≡ first_wide (operations_of_sum l.signs l.values);
}
