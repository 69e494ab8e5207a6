use Rattle.uc_rules.specs.Declarations.{command_faults}
use Rattle.uc_statement_rules.proofs.Noted.{NotedUpTo}
use Rattle.uc_declaration_rules.proofs.control.note_commands.Given as goal

abbrev pub invariant-loop-command : goal.invariant-loop-command
invariant-loop-command l = NotedUpTo (command_faults l.scope.system l.scope.home) l.commands l.fn.first l.command-index l.first
