use Rattle.std.proofs.Common.{◌≡◌, ◌++◌, drop}
use Rattle.std.specs.List.{flat_map}
use Rattle.uc_meaning.specs.Lines.{numbered}
use Rattle.uc_report.specs.Prints.{failed_where}
use Rattle.uc_judge.specs.Prints.{is_wanted, failed_at}
use Rattle.uc_judge.proofs.failed.failed_numbers.Given as goal

abbrev pub invariant-loop-number : goal.invariant-loop-number
invariant-loop-number l = l.numbers ++ flat_map (failed_at l.wanted) (numbered l.number (drop l.number l.lines)) ≡ failed_where (is_wanted l.wanted) l.lines
