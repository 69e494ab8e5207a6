use Rattle.uc_declaration_rules.proofs.Joined.{asks_of}
use Rattle.uc_declaration_rules.proofs.procedures.asked_scope.Goals as goal

pub returns : goal.returns
returns c =
    asks_of c.args.home.now c.args.procedure.now c.scope-scope.result c.note_parameters.new.scope c.as_slice-parameters.result.now c.args.first.now c.note_parameters.new.first
    c.scope-scope.ensures c.as_slice-parameters.ensures c.in_ok-note_parameters.ensures
