use Rattle.std.proofs.Common.{◌≡◌, map, take, None}
use Rattle.std.specs.List.{flat_map}
use Rattle.uc_meaning.specs.Expressions.{value}
use Rattle.uc_meaning.specs.Overflow.{met}
use Rattle.uc_operators.specs.Overflows.{first_wide}
use Rattle.uc_readings.specs.Scopes.{scope_in}
use Rattle.uc_checks.proofs.assignment.values.Given as goal

abbrev pub invariant-loop-expression : goal.invariant-loop-expression
invariant-loop-expression l = record {
  values : l.values ≡ map (value l.layout (scope_in l.scope)) (take l.expression-index l.expressions);
  wide : first_wide (flat_map (met l.layout (scope_in l.scope)) (take l.expression-index l.expressions)) ≡ None;
}
