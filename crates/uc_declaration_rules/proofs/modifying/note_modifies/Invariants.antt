use Rattle.uc_rules.specs.Declarations.{modifies_faults}
use Rattle.uc_statement_rules.proofs.Noted.{NotedUpTo}
use Rattle.uc_declaration_rules.proofs.modifying.note_modifies.Given as goal

abbrev pub invariant-loop-identifier : goal.invariant-loop-identifier
invariant-loop-identifier l = NotedUpTo (modifies_faults l.scope.system l.scope.home) l.identifiers l.fn.first l.identifier-index l.first
