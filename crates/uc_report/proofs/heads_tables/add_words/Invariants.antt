use Rattle.std.proofs.Common.{◌≡◌, ◌++◌, map, take}
use Rattle.uc_report.specs.Described.{described}
use Rattle.uc_report.specs.HeadsText.{command_text}
use Rattle.uc_report.proofs.heads_tables.add_words.Given as goal

abbrev pub invariant-loop-command : goal.invariant-loop-command
invariant-loop-command l =
    map (λ w. w.now) l.words.items ≡ map (λ w. w.now) l.initial.words.items ++ map (command_text (described l.d)) (take l.command-index l.commands)
