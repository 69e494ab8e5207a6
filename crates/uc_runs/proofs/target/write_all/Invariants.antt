use Rattle.std.proofs.Common.{◌≡◌, drop}
use Rattle.uc_meaning.specs.Code.{write_all}
use Rattle.uc_meaning.specs.OverflowsRuns.{targets_met}
use Rattle.uc_operators.specs.Overflows.{first_wide}
use Rattle.uc_runs.proofs.target.write_all.Given as goal

-- the targets that are left lead where all of them do, and meet what all of them meet
abbrev pub invariant-loop-place : goal.invariant-loop-place
invariant-loop-place l = record {
  value : write_all l.layout (drop l.place l.targets) (drop l.place l.values) l.here ≡ write_all l.layout l.targets l.values l.fn.scope;
  wide : first_wide (targets_met l.layout (drop l.place l.targets) (drop l.place l.values) l.here) ≡ first_wide (targets_met l.layout l.targets l.values l.fn.scope);
}
