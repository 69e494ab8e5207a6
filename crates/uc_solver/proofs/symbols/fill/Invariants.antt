use Rattle.std.proofs.Common.{ℕ, ◌≡◌, length, slice_get, Some}
use Rattle.uc_values.specs.declared.value.Value.{Value}
use Rattle.uc_solver.proofs.symbols.fill.Given as goal

abbrev pub invariant-loop-place : goal.invariant-loop-place
invariant-loop-place l = record {
  long : length l.symbols ≡ l._place;
  kept : (j : ℕ) (w : Value) → slice_get l.initial.symbols j ≡ Some w → slice_get l.symbols j ≡ Some w;
}
