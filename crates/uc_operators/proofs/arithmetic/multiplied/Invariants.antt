use Rattle.std.proofs.Common.{◌≡◌, drop}
use Rattle.uc_meaning.specs.Operators.{chained_from, chained, product}
use Rattle.uc_meaning.specs.Overflow.{product_operations, operations_of_product}
use Rattle.uc_operators.specs.Words.{IsWord}
use Rattle.uc_operators.specs.Overflows.{first_wide}
use Rattle.uc_operators.proofs.arithmetic.multiplied.Given as goal

abbrev pub invariant-loop-place : goal.invariant-loop-place
invariant-loop-place l = record {
  word : IsWord l.total;
  value : chained_from product l.total (drop l.place l.values) ≡ chained product l.values;
  wide : first_wide (product_operations l.total (drop l.place l.values)) ≡ first_wide (operations_of_product l.values);
}
