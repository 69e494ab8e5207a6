use Rattle.std.proofs.Common.{◌≡◌, drop}
use Rattle.uc_meaning.specs.Lookup.{first_some}
use Rattle.uc_runnable.specs.Outside.{outside_command}
use Rattle.uc_runnable.proofs.commands.outside_commands.Given as goal

abbrev pub invariant-loop-command : goal.invariant-loop-command
invariant-loop-command l = first_some outside_command (drop l.command-index l.commands) ≡ first_some outside_command l.commands
