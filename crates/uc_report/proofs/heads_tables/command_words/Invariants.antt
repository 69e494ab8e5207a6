use Rattle.std.proofs.Common.{◌≡◌, map, take}
use Rattle.std.specs.List.{flat_map}
use Rattle.uc_meaning.specs.Lines.{commands_in}
use Rattle.uc_report.specs.Described.{described}
use Rattle.uc_report.specs.HeadsText.{command_text}
use Rattle.uc_report.proofs.heads_tables.command_words.Given as goal

abbrev pub invariant-loop-decl : goal.invariant-loop-decl
invariant-loop-decl l =
    map (λ w. w.now) l.words.items ≡ map (command_text (described l.d)) (flat_map commands_in (take l.decl-index l.decl-items))
