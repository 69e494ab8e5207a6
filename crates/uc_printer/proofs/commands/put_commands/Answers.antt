use Rattle.uc_print_laws.specs.Declarations.{command_words}
use Rattle.uc_print_laws.proofs.Written.{each_more, each_end}
use Rattle.uc_printer.proofs.commands.put_commands.Goals as goal

pub commands-preserved : goal.commands-preserved
commands-preserved c = each_more c.args.names.now command_words c.commands.command-index c.args.commands.now c.command-item.result c.commands.page c.put_command.new.page _ c.commands-test.true c.command-item.is c.commands.invariant c.in_ok-put_command.ensures

pub returns : goal.returns
returns c = each_end c.args.names.now command_words c.commands.command-index c.args.commands.now c.commands.page _ c.commands-test.false c.commands.invariant
