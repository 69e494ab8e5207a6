use Rattle.uc_rules.specs.Declarations.{declaration_faults}
use Rattle.uc_statement_rules.proofs.Noted.{NotedUpTo}
use Rattle.uc_types.proofs.modules.note_declarations.Given as goal

abbrev pub invariant-loop-declaration : goal.invariant-loop-declaration
invariant-loop-declaration l = NotedUpTo (declaration_faults l.home.system l.home.home) l.declarations l.fn.first l.declaration-index l.first
