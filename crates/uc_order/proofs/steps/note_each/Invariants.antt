use Rattle.uc_statement_rules.proofs.Noted.{NotedUpTo}
use Rattle.uc_order.proofs.Noting.{own_twice}
use Rattle.uc_order.proofs.steps.note_each.Given as goal

abbrev pub invariant-loop-code : goal.invariant-loop-code
invariant-loop-code l = NotedUpTo own_twice l.modules l.fn.first l.code-index l.first
