use Rattle.uc_declaration_rules.proofs.Forms.{printed_found}
use Rattle.uc_declaration_rules.proofs.control.note_command.Goals as goal

pub returns-in-PrintCounterexamples : goal.returns-in-PrintCounterexamples
returns-in-PrintCounterexamples c =
    printed_found c.args.scope.now c.args.command.now c.in-PrintCounterexamples.field-0 c.in-PrintCounterexamples.field-1 c.in-PrintCounterexamples.paths c.args.first.now c.note_printed.new.first
    c.in-PrintCounterexamples.is c.note_printed.ensures
