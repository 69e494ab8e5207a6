use Rattle.std.proofs.Common.{◌≡◌, drop}
use Rattle.uc_meaning.specs.Steps.{all_left}
use Rattle.uc_meaning.specs.Checks.{left_met}
use Rattle.uc_operators.specs.Overflows.{first_wide}
use Rattle.uc_readings.specs.Scopes.{scope_in}
use Rattle.uc_checks.proofs.left.all_left.Given as goal

abbrev pub invariant-loop-target : goal.invariant-loop-target
invariant-loop-target l = record {
  value : all_left l.layout (scope_in l.scope) (scope_in l.after) (drop l.target-index l.targets) l.names ≡ all_left l.layout (scope_in l.scope) (scope_in l.after) l.targets l.names;
  wide : first_wide (left_met l.layout (scope_in l.scope) (scope_in l.after) (drop l.target-index l.targets) l.names) ≡ first_wide (left_met l.layout (scope_in l.scope) (scope_in l.after) l.targets l.names);
}
