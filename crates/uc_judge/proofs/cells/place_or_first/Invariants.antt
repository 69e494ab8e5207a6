use Rattle.std.proofs.Common.{◌≡◌, drop}
use Rattle.std.specs.List.{position_from}
use Rattle.uc_report.specs.Prints.{declares}
use Rattle.uc_judge.proofs.cells.place_or_first.Given as goal

abbrev pub invariant-loop-place : goal.invariant-loop-place
invariant-loop-place l = position_from (declares l.name) l.place (drop l.place l.decls) ≡ position_from (declares l.name) 0 l.decls
