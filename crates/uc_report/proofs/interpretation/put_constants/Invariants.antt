use Rattle.std.proofs.Common.{◌≡◌, ◌++◌, drop}
use Rattle.uc_report.specs.Described.{described}
use Rattle.uc_report.proofs.Constants.{lines_of}
use Rattle.uc_report.proofs.interpretation.put_constants.Given as goal

abbrev pub invariant-loop-place : goal.invariant-loop-place
invariant-loop-place l =
    l.out.items ++ lines_of (described l.d) l.main (drop l.place l.constants) (drop l.place l.values) ≡ l.initial.out.items ++ lines_of (described l.d) l.main l.constants l.values
