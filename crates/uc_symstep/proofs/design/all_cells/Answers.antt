use Rattle.std.proofs.Common.{rules}
use Rattle.uc_symstep.proofs.Runs.{cells_more}
use Rattle.uc_symstep.proofs.design.all_cells.Goals as goal

pub loop-state-preserved : goal.loop-state-preserved
loop-state-preserved c = cells_more _ _ _ _ _ _ c.loop-state.invariant c.loop-state-test.true c.state-item.is (search rules) c.in_ok-append.ensures
