use Rattle.uc_order_rules.specs.Sizes.{label_faults}
use Rattle.uc_statement_rules.proofs.Noted.{NotedUpTo}
use Rattle.uc_order.proofs.sizes.note_enums.Given as goal

abbrev pub invariant-loop-code : goal.invariant-loop-code
invariant-loop-code l = NotedUpTo label_faults l.modules l.fn.first l.code-index l.first
