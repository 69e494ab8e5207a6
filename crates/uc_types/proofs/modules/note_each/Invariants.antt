use Rattle.uc_rules.specs.Declarations.{module_faults}
use Rattle.uc_statement_rules.proofs.Noted.{NotedUpTo}
use Rattle.uc_types.proofs.modules.note_each.Given as goal

abbrev pub invariant-loop-number : goal.invariant-loop-number
invariant-loop-number l = NotedUpTo (module_faults l.types) l.modules l.fn.first l.number l.first
