use Rattle.uc_order_rules.specs.Sizes.{turn_faults}
use Rattle.uc_statement_rules.proofs.Noted.{NotedUpTo}
use Rattle.uc_order.proofs.sizes.note_loops.Given as goal

abbrev pub invariant-loop-code : goal.invariant-loop-code
invariant-loop-code l = NotedUpTo turn_faults l.modules l.fn.first l.code-index l.first
