-- Judged lines and their prints make the report.
use Rattle.std.proofs.Common.{◌≡◌, ℕ, List, take, sym, ap, ◌∙◌}
use Rattle.uc_syntax.specs.declared.declaration.Command.{Command}
use Rattle.uc_meaning.specs.Lookup.{System}
use Rattle.uc_meaning.specs.Lines.{lines_checked, commands_of}
use Rattle.uc_report.specs.declared.report.LineResult.{LineResult}
use Rattle.uc_report.specs.declared.report.Print.{Print}
use Rattle.uc_report.specs.Prints.{prints_of}
use Rattle.uc_judge.specs.Reports.{IsReport}
use Rattle.uc_judge.specs.Judged.{followed, lines_in, AreJudged}
use Rattle.uc_judge.proofs.Listed.{lines_are_followed}

pub judged_report : (system : System) (budget before after count : ℕ) (commands : List Command) (ls : List LineResult) (ps : List Print) → commands ≡ commands_of system → count ≡ followed commands
    → AreJudged system budget before after (lines_in system 0 (take count commands)) ls → ps ≡ prints_of system ls → IsReport system budget (record { lines = ls; prints = ps })
judged_report system budget before after count commands ls ps are long judged printed = record {
  lines = judged.are ∙ ap (λ n. lines_in system 0 (take n commands)) long ∙ sym (lines_are_followed system 0 commands) ∙ ap (lines_checked system 0) are;
  commands = judged.commands;
  verdicts = judged.verdicts;
  honest = judged.honest;
  prints = printed;
}
