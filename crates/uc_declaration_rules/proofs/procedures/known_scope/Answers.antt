use Rattle.uc_declaration_rules.proofs.Joined.{known_of}
use Rattle.uc_declaration_rules.proofs.procedures.known_scope.Goals as goal

pub returns : goal.returns
returns c =
    known_of c.args.home.now c.args.procedure.now c.in_ok-scope.scope c.note_parameters.new.scope c.in_ensures.result c.as_slice-results.result.now _ _ c.args.first.now c.note_parameters.new.first
    c.in_ok-scope.ensures c.as_slice-results.ensures c.in_ok-note_parameters.ensures c.in_ensures.ensures
