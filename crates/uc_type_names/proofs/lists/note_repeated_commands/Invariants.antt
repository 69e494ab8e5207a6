use Rattle.std.proofs.Common.{◌≡◌, ◌++◌, drop}
use Rattle.std.specs.List.{filter_map}
use Rattle.uc_rules.specs.Declarations.{command_name}
use Rattle.uc_type_names.proofs.lists.note_repeated_commands.Given as goal

abbrev pub invariant-loop-command : goal.invariant-loop-command
invariant-loop-command l = l.identifiers ++ filter_map command_name (drop l.command-index l.commands) ≡ filter_map command_name l.commands
