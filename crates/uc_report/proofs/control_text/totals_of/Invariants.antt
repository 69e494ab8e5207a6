use Rattle.std.proofs.Common.{◌≡◌, ◌≤◌, take}
use Rattle.uc_report.specs.Reports.{is_passed, is_failed, is_undecided}
use Rattle.uc_report.specs.ControlText.{count_of}
use Rattle.uc_report.proofs.control_text.totals_of.Given as goal

abbrev pub invariant-loop-line : goal.invariant-loop-line
invariant-loop-line l =
    (l.passed ≡ count_of is_passed (take l.line-index l.lines))
    × (l.failed ≡ count_of is_failed (take l.line-index l.lines))
    × (l.undecided ≡ count_of is_undecided (take l.line-index l.lines))
    × (l.passed ≤ l.line-index)
    × (l.failed ≤ l.line-index)
    × (l.undecided ≤ l.line-index)
