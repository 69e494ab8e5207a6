use Rattle.std.proofs.Common.{◌≡◌, drop}
use Rattle.uc_meaning.specs.Code.{taken}
use Rattle.uc_meaning.specs.OverflowsRuns.{conditions_met}
use Rattle.uc_operators.specs.Overflows.{first_wide}
use Rattle.uc_readings.specs.Scopes.{scope_in}
use Rattle.uc_checks.proofs.branch.taken.Given as goal

abbrev pub invariant-loop-arm : goal.invariant-loop-arm
invariant-loop-arm l = record {
  value : taken l.layout (scope_in l.scope) (drop l.arm-index l.arms) l.otherwise ≡ taken l.layout (scope_in l.scope) l.arms l.otherwise;
  wide : first_wide (conditions_met l.layout (scope_in l.scope) (drop l.arm-index l.arms)) ≡ first_wide (conditions_met l.layout (scope_in l.scope) l.arms);
}
