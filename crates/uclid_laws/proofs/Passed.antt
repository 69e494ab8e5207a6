-- From lines that passed to all runs.
use Rattle.std.proofs.Common.{◌≡◌, ℕ, ◌≤◌, ◌^◌, true, false, length, refl, subst, ◌∙◌, arith}
use Rattle.std.specs.List.{All}
use Rattle.std.proofs.lemmas.List.Elements.{All-map}
use Rattle.uc_syntax.specs.declared.declaration.WrittenRun.TheVariants.{Unroll, Verify}
use Rattle.uc_meaning.specs.declared.line.Line.{Line}
use Rattle.uc_meaning.specs.Lookup.{System}
use Rattle.uc_meaning.specs.Lines.{IsValid, all_lines}
use Rattle.uc_laws.proofs.Checked.{checked_induction_holds}
use Rattle.uc_laws.proofs.Commands.{command_holds}
use Rattle.uc_laws.proofs.Induction.{unroll_holds}
use Rattle.uc_laws.proofs.Verifying.{verify_holds}
use Rattle.uc_report.specs.declared.report.Verdict.{Verdict}
use Rattle.uc_report.specs.declared.report.Verdict.TheVariants.{Passed, Failed, Undef}
use Rattle.uc_report.specs.declared.report.Report.{Report}
use Rattle.uc_report.specs.Reports.{is_passed}
use Rattle.uc_report.specs.declared.report.Why.TheVariants.{Budget, Memory}
use Rattle.uc_report.specs.Verdicts.{IsRightVerdict, IsHonest, is_out_of_budget}
use Rattle.uc_judge.specs.Reports.{IsReport, line_bits}
use Rattle.uclid_laws.specs.Laws.{AllPassed, EnoughBudget, PassedInduction, PassedUnroll, PassedVerify}

passed_is_valid : (system : System) (line : Line) (v : Verdict) → IsRightVerdict system line v → is_passed v ≡ true → IsValid system line
passed_is_valid system line Passed h e = h
passed_is_valid system line (Failed trace) h e = absurd cc
passed_is_valid system line (Undef why) h e = absurd cc

-- the lines of a command that all passed are valid
all_valid : (system : System) (budget : ℕ) (report : Report) (command : ℕ) → IsReport system budget report → AllPassed command report → All (λ line. line.command ≡ command → IsValid system line) (all_lines system)
all_valid system budget report command is passed = subst (All Wanted) is.lines (All-map Wanted (λ l. l.line) report.lines each)
  where
    Wanted : Line → Type 0
    Wanted line = line.command ≡ command → IsValid system line

    each : All (λ l. Wanted l.line) report.lines
    each i d lt e = passed_is_valid system _ _ (is.verdicts i d lt) (passed i d lt (is.commands i d lt ∙ e))

pub passed_induction : PassedInduction
passed_induction system budget report place name depth before after apart deep commands checked is passed = checked_induction_holds system place name depth before after apart deep commands checked (all_valid system budget report (length before) is passed)

pub passed_unroll : PassedUnroll
passed_unroll system budget report place name depth before after apart commands checked is passed =
    unroll_holds system (length before) depth apart (command_holds system place name (Unroll depth) before after commands checked (all_valid system budget report (length before) is passed))

pub passed_verify : PassedVerify
passed_verify system budget report place name procedure before after m p main is_there commands checked is passed =
    verify_holds system (length before) procedure m p main is_there (command_holds system place name (Verify procedure) before after commands checked (all_valid system budget report (length before) is passed))

within_budget : (budget bits : ℕ) (v : Verdict) → IsHonest budget bits v → 2 ^ bits ≤ budget → is_out_of_budget v ≡ false
within_budget budget bits (Undef (Budget b)) h room = absurd (omega (arith, h.1, room))
within_budget budget bits (Undef Memory) h room = refl
within_budget budget bits Passed h room = refl
within_budget budget bits (Failed trace) h room = refl

pub enough_budget : EnoughBudget
enough_budget system code f budget report d is i x lt room = within_budget budget (line_bits f _) _ (is.honest code f d i x lt) room
