-- The text of a report, as bytes.
use Rattle.std.specs.Prelude.{ℕ, Bool, List, [], ◌++◌, codes, decimal, count_by, slice_get, slice_range, Option, Some, None}
use Rattle.std.specs.List.{flat_map}
use Rattle.uc_meaning.specs.declared.line.Line.{Line}
use Rattle.uc_meaning.specs.Lookup.{System}
use Rattle.uc_report.specs.HeadsText.{head_text}
use Rattle.uc_report.specs.declared.cell.CellRef.{CellRef}
use Rattle.uc_report.specs.TraceText.{cex_text}
use Rattle.uc_report.specs.declared.report.Verdict.{Verdict}
use Rattle.uc_report.specs.declared.report.Verdict.TheVariants.{Passed, Failed, Undef}
use Rattle.uc_report.specs.declared.report.Why.{Why}
use Rattle.uc_report.specs.declared.report.Why.TheVariants.{Budget, Memory}
use Rattle.uc_report.specs.declared.report.LineResult.{LineResult}
use Rattle.uc_report.specs.declared.report.Print.{Print}
use Rattle.uc_report.specs.declared.report.Print.TheVariants.{Results, Cex}
use Rattle.uc_report.specs.declared.report.Report.{Report}
use Rattle.uc_report.specs.Reports.{is_passed, is_failed, is_undecided}

-- a line is undecided by its budget, or for want of memory
unfoldable pub why_text : Why → List ℕ
why_text (Budget budget) = codes "UNDEF (budget " ++ decimal budget ++ codes ")"
why_text Memory = codes "UNDEF (memory)"

abbrev pub verdict_text : Verdict → List ℕ
verdict_text Passed = codes "PASSED"
verdict_text (Failed trace) = codes "FAILED"
verdict_text (Undef why) = why_text why

unfoldable pub line_text : System → LineResult → List ℕ
line_text d l = codes "  " ++ verdict_text l.verdict ++ codes " -> " ++ head_text d l.line ++ codes "\n"

-- a total in a line of its own
unfoldable pub total_text : ℕ → List ℕ → List ℕ
total_text count word = decimal count ++ codes " assertions " ++ word ++ codes ".\n"

abbrev pub count_of : (Verdict → Bool) → List LineResult → ℕ
count_of test lines = count_by (λ l. test l.verdict) lines

-- how many lines passed, failed and are undecided
unfoldable pub totals_text : List LineResult → List ℕ
totals_text lines =
    total_text (count_of is_passed lines) (codes "passed") ++ total_text (count_of is_failed lines) (codes "failed") ++ total_text (count_of is_undecided lines) (codes "indeterminate")

-- three totals, and then each line
unfoldable pub results_text : System → List LineResult → List ℕ
results_text d lines = totals_text lines ++ flat_map (line_text d) lines

-- the counterexample of a line that failed, by these cells; nothing for another line
abbrev pub trace_text : System → List CellRef → Line → Verdict → List ℕ
trace_text d paths line (Failed trace) = cex_text d line trace paths
trace_text d paths line other = []

abbrev pub failed_text : System → List CellRef → Option LineResult → List ℕ
failed_text d paths None = []
failed_text d paths (Some l) = trace_text d paths l.line l.verdict

-- the counterexample of the line of a number
abbrev pub numbered_text : System → List LineResult → List CellRef → ℕ → List ℕ
numbered_text d lines paths n = failed_text d paths (slice_get lines n)

-- The lines from one place up to another and without it; or the counterexamples of the lines of these numbers.
abbrev pub print_text : System → List LineResult → Print → List ℕ
print_text d lines (Results first end) = results_text d (slice_range lines first end)
print_text d lines (Cex numbers paths) = flat_map (numbered_text d lines paths) numbers

-- the text of a report: that of its prints in order
abbrev pub report_text : System → Report → List ℕ
report_text d report = flat_map (print_text d report.lines) report.prints
