use Rattle.uc_rules.specs.Declarations.{path_faults}
use Rattle.uc_statement_rules.proofs.Noted.{NotedUpTo}
use Rattle.uc_declaration_rules.proofs.control.note_paths.Given as goal

abbrev pub invariant-loop-path : goal.invariant-loop-path
invariant-loop-path l = NotedUpTo (path_faults l.scope.system l.scope.home) l.paths l.fn.first l.path-index l.first
