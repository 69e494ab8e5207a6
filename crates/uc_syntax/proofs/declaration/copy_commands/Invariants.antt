use Rattle.std.proofs.Common.{◌≡◌, take}
use Rattle.uc_syntax.proofs.declaration.copy_commands.Given as goal

abbrev pub invariant-loop-command : goal.invariant-loop-command
invariant-loop-command l = l.copies ≡ take l.command-index l.commands
