-- Lines over numbered cells as lines of the report.
use Rattle.std.specs.Prelude.{ℕ, Option, None, Some}
use Rattle.uc_meaning.specs.declared.line.At.{At}
use Rattle.uc_meaning.specs.declared.line.At.TheVariants.{Exactly, Base, Step}
use Rattle.uc_flat.specs.declared.flat.Flat.{Flat}
use Rattle.uc_flat_copies.specs.declared.trace.Start.{Start}
use Rattle.uc_flat_copies.specs.declared.trace.Start.TheVariants.{Initially, Anywhere}
use Rattle.uc_flat_laws.specs.FlatRefutationsLaws.{trace_of}
use Rattle.uc_flat_lines.specs.declared.line.FlatLine.{FlatLine}
use Rattle.uc_flat_lines.specs.declared.line.FlatVerdict.{FlatVerdict}
use Rattle.uc_flat_lines.specs.declared.line.FlatVerdict.TheVariants.{Passed as FlatPassed, Failed as FlatFailed, Undef as FlatUndef}
use Rattle.uc_flat_lines.specs.declared.line.FlatWhy.{FlatWhy}
use Rattle.uc_flat_lines.specs.declared.line.FlatWhy.TheVariants.{Budget as FlatBudget, Memory as FlatMemory}
use Rattle.uc_flat_laws.specs.FlatVerdictsLaws.{design_line}
use Rattle.uc_report.specs.declared.report.Why.{Why}
use Rattle.uc_report.specs.declared.report.Why.TheVariants.{Budget, Memory}
use Rattle.uc_report.specs.declared.report.Verdict.{Verdict}
use Rattle.uc_report.specs.declared.report.Verdict.TheVariants.{Passed, Failed, Undef}
use Rattle.uc_report.specs.declared.report.LineResult.{LineResult}
use Rattle.uc_judge.specs.declared.lines.Moment.{Moment}
use Rattle.uc_judge.specs.declared.lines.Moment.TheVariants.{Unrolled, Based, Linked}

-- the cause of a verdict as one of a report
abbrev pub why_as : ℕ → FlatWhy → Why
why_as budget FlatBudget = Budget budget
why_as budget FlatMemory = Memory

-- the verdict, with its trace as one of the design
abbrev pub verdict_as : ℕ → FlatVerdict → Verdict
verdict_as budget FlatPassed = Passed
verdict_as budget (FlatFailed t) = Failed (trace_of t)
verdict_as budget (FlatUndef why) = Undef (why_as budget why)

-- how many states an induction links
abbrev pub linked_by : Option ℕ → ℕ
linked_by None = 1
linked_by (Some k) = k

-- the moment of so many steps
abbrev pub at_moment : Moment → ℕ → At
at_moment Unrolled = Exactly
at_moment Based = Base
at_moment Linked = Step

-- how the states begin
abbrev pub start_of : Moment → Start
start_of Linked = Anywhere
start_of other = Initially

-- the line of the formula's declaration at the moment of its steps, with its verdict, of the command of a number
abbrev pub line_as : Flat → ℕ → Moment → ℕ → FlatLine → LineResult
line_as f command moment budget l = record { command = command; line = design_line f command (at_moment moment) (l.steps, l.formula); verdict = verdict_as budget l.verdict }
