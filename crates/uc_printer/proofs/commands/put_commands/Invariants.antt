use Rattle.std.proofs.Common.{◌≡◌, drop}
use Rattle.uc_print_laws.specs.Printed.{each}
use Rattle.uc_print_laws.specs.Declarations.{command_words}
use Rattle.uc_print_laws.specs.Text.{written}
use Rattle.uc_printer.proofs.commands.put_commands.Given as goal

abbrev pub invariant-commands : goal.invariant-commands
invariant-commands l = written l.names l.page (each command_words (drop l.command-index l.commands)).words ≡ written l.names l.fn.page (each command_words l.commands).words
