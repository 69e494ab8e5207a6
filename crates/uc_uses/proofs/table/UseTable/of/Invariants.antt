use Rattle.uc_uses.proofs.Tabled.{TabledTo}
use Rattle.uc_uses.proofs.table.UseTable.of.Given as goal

abbrev pub invariant-loop-number : goal.invariant-loop-number
invariant-loop-number l = TabledTo l.tree l.number l.uses l.nodes
