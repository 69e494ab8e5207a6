use Rattle.std.proofs.Common.{ap, ◌∙◌}
use Rattle.std.specs.List.{filter_map, flat_map}
use Rattle.uc_rules.specs.Declarations.{command_faults, command_name}
use Rattle.uc_rules.specs.Expressions.{Context}
use Rattle.uc_rules.specs.Faults.{first_of}
use Rattle.uc_rules.specs.Names.{repeated_in_list}
use Rattle.uc_statement_rules.proofs.Noted.{noted_both}
use Rattle.uc_declaration_rules.proofs.control.judge_control.Goals as goal

pub returns : goal.returns
returns c =
    noted_both c.args.first.now c.note_repeated_commands.new.first c.note_commands.new.first (repeated_in_list (filter_map command_name c.args.commands.now)) (flat_map (command_faults c.args.home.now.system c.args.home.now.home) c.args.commands.now)
    c.in_ok-note_repeated_commands.ensures
    (c.note_commands.ensures ∙ ap (λ (q : Context). first_of c.note_repeated_commands.new.first (flat_map (command_faults q.system q.home) c.args.commands.now)) c.scope-scope.ensures)
