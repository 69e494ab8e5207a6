use Rattle.uc_readings.specs.Scopes.{scope_in}
use Rattle.uc_checks.proofs.Targets.{AskedFrom, MetFrom}
use Rattle.uc_checks.proofs.target.check_targets.Given as goal

-- the targets that are left ask what all of them ask, and meet what all of them meet
abbrev pub invariant-loop-place : goal.invariant-loop-place
invariant-loop-place l = record {
  value : AskedFrom l.layout l.targets l.values l.place (scope_in l.scope) l.fn.seen l.here;
  wide : MetFrom l.layout l.targets l.values l.place (scope_in l.scope) l.fn.seen l.here;
}
