use Rattle.uc_step_cycles.proofs.CellTableTabled.{TabledTo}
use Rattle.uc_step_cycles.proofs.table.CellTable.of.Given as goal

abbrev pub invariant-loop-number : goal.invariant-loop-number
invariant-loop-number l = TabledTo l.tree l.number l.cells l.nodes
