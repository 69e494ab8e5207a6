use Rattle.uc_meaning.specs.Cells.{longest_chain}
use Rattle.uc_step_cycles.proofs.CellTableTabled.{FollowedTo}
use Rattle.uc_step_cycles.proofs.table.CellTable.written.Given as goal

abbrev pub invariant-loop-turn : goal.invariant-loop-turn
invariant-loop-turn l = FollowedTo l.tree l.self l.fn.name longest_chain l.turn l.at
