use Rattle.uc_graph.proofs.Turns.{starts, starts_empty}
use Rattle.uc_graph.proofs.free_order.Settling.new.Goals as goal

pub returns-clause-steady : goal.returns-clause-steady
returns-clause-steady c = starts c.args.count _ _ _ c.in_ok-flags.ensures c.in_ok-waiting.ensures c.in_ok-ready.ensures

pub returns-clause-so_far : goal.returns-clause-so_far
returns-clause-so_far c = starts_empty c.args.count _ _ c.in_ok-flags.ensures c.new-order.ensures
