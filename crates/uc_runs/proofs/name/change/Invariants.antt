use Rattle.std.proofs.Common.{◌≡◌}
use Rattle.uc_runs.proofs.Naming.{ChangedFrom}
use Rattle.uc_runs.proofs.name.change.Given as goal

abbrev pub invariant-loop-place : goal.invariant-loop-place
invariant-loop-place l = record { same : l.locals ≡ l.fn.locals; from : ChangedFrom l.locals l.name l.value l.place }
