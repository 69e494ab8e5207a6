use Rattle.uc_rules.specs.Types.{scalar_faults, type_of}
use Rattle.uc_statement_rules.proofs.Noted.{NotedUpTo}
use Rattle.uc_declaration_rules.proofs.functions.note_scalars.Given as goal

abbrev pub invariant-loop-parameter : goal.invariant-loop-parameter
invariant-loop-parameter l = NotedUpTo (λ p. scalar_faults p.identifier.place (type_of l.scope.system l.scope.home p.ty)) l.parameters l.fn.first l.parameter-index l.first
