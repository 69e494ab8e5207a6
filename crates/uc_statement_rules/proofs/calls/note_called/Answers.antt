use Rattle.std.proofs.Common.{ap, sym, ◌∙◌}
use Rattle.uc_rules.specs.Faults.{first_of}
use Rattle.uc_rules.specs.Names.{procedure_named}
use Rattle.uc_rules.specs.Statements.{called_faults}
use Rattle.uc_statement_rules.proofs.Joined.{called_is, called_none}
use Rattle.uc_statement_rules.proofs.calls.note_called.Goals as goal

pub returns-in-None : goal.returns-in-None
returns-in-None c =
    called_none c.args.scope.now c.args.place c.args.written.now c.args.identifier (procedure_named c.args.scope.now.system c.args.scope.now.home c.args.identifier.name) c.args.given.now c.args.first.now c.note.new.first c.in-None.ensures c.note.ensures

pub returns-in_ok-note_procedure-in-Some : goal.returns-in_ok-note_procedure-in-Some
returns-in_ok-note_procedure-in-Some c =
    c.in_ok-note_procedure-in-Some.ensures
    ∙ ap (first_of c.args.first.now) (called_is c.args.scope.now c.args.place c.args.written.now c.args.identifier (procedure_named c.args.scope.now.system c.args.scope.now.home c.args.identifier.name) c.in-Some.procedure.now c.args.given.now c.in-Some.ensures)
