use Rattle.uc_rules.specs.Declarations.{command_faults}
use Rattle.uc_statement_rules.proofs.Noted.{noted_begin, noted_end, noted_more}
use Rattle.uc_declaration_rules.proofs.control.note_commands.Goals as goal

pub loop-command-init : goal.loop-command-init
loop-command-init c = noted_begin (command_faults c.args.scope.now.system c.args.scope.now.home) c.args.commands.now c.args.first.now

pub loop-command-preserved : goal.loop-command-preserved
loop-command-preserved c =
    noted_more (command_faults c.args.scope.now.system c.args.scope.now.home) c.args.commands.now c.args.first.now c.loop-command.command-index c.loop-command.first c.note_command.new.first c.command-item.result c.command-item.result
    c.loop-command.invariant c.loop-command-test.true c.command-item.is c.note_command.ensures

pub returns : goal.returns
returns c = noted_end (command_faults c.args.scope.now.system c.args.scope.now.home) c.args.commands.now c.args.first.now c.loop-command.command-index c.loop-command.first c.loop-command.invariant c.loop-command-test.false
