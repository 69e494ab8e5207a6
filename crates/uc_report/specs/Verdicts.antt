-- What a verdict says of a line.
use Rattle.std.specs.Prelude.{◌≡◌, ℕ, ◌<◌, ◌^◌, Bool, true, false, List, count_by}
use Rattle.uc_meaning.specs.declared.line.Line.{Line}
use Rattle.uc_meaning.specs.Lookup.{System}
use Rattle.uc_meaning.specs.Lines.{Refutes, IsValid}
use Rattle.uc_report.specs.declared.report.Why.{Why}
use Rattle.uc_report.specs.declared.report.Why.TheVariants.{Budget, Memory}
use Rattle.uc_report.specs.declared.report.Verdict.{Verdict}
use Rattle.uc_report.specs.declared.report.Verdict.TheVariants.{Passed, Failed, Undef}
use Rattle.uc_report.specs.declared.report.LineResult.{LineResult}

-- a line that passed has no trace that refutes it, and the trace of one that failed refutes it
abbrev pub IsRightVerdict : System → Line → Verdict → Type 0
IsRightVerdict system line Passed = IsValid system line
IsRightVerdict system line (Failed trace) = Refutes system line trace
IsRightVerdict system line (Undef why) = Unit {0}

-- a line is undecided by the budget that was given, and only where that is below 2 to the number of its free bits
abbrev pub IsHonestWhy : ℕ → ℕ → Why → Type 0
IsHonestWhy budget bits (Budget b) = (b ≡ budget) × (budget < 2 ^ bits)
IsHonestWhy budget bits Memory = Unit {0}

abbrev pub IsHonest : ℕ → ℕ → Verdict → Type 0
IsHonest budget bits (Undef why) = IsHonestWhy budget bits why
IsHonest budget bits other = Unit {0}

-- a line is undecided by its budget
abbrev pub is_budget : Why → Bool
is_budget (Budget b) = true
is_budget Memory = false

abbrev pub is_out_of_budget : Verdict → Bool
is_out_of_budget (Undef why) = is_budget why
is_out_of_budget other = false

-- how many lines are undecided by their budget
abbrev pub out_of_budget : List LineResult → ℕ
out_of_budget ls = count_by (λ l. is_out_of_budget l.verdict) ls
