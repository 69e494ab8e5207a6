use Rattle.uc_statement_rules.proofs.Declaring.{DeclaresFrom}
use Rattle.uc_statement_rules.proofs.declared.note_all_declared.Given as goal

abbrev pub invariant-loop-identifier : goal.invariant-loop-identifier
invariant-loop-identifier l = DeclaresFrom l.fn.scope l.role l.identifiers l.ty l.fn.first l.identifier-index l.scope l.first
