-- The verdicts of a report, and its status.
use Rattle.std.specs.Prelude.{ℕ, Bool, true, false, if◌then◌else◌}
use Rattle.std.specs.List.{list_any}
use Rattle.uc_report.specs.declared.report.Verdict.{Verdict}
use Rattle.uc_report.specs.declared.report.Verdict.TheVariants.{Passed, Failed, Undef}
use Rattle.uc_report.specs.declared.report.Report.{Report}

abbrev pub is_passed : Verdict → Bool
is_passed Passed = true
is_passed other = false

abbrev pub is_failed : Verdict → Bool
is_failed (Failed trace) = true
is_failed other = false

abbrev pub is_undecided : Verdict → Bool
is_undecided (Undef why) = true
is_undecided other = false

-- 1 exactly where a line failed, else 2 exactly where one is undecided, else 0
abbrev pub status : Report → ℕ
status report =
    if list_any (λ l. is_failed l.verdict) report.lines then 1
    else (if list_any (λ l. is_undecided l.verdict) report.lines then 2 else 0)
