use Rattle.std.proofs.Common.{refl}
use Rattle.uc_graph.proofs.needed_order.needed_first.Goals as goal

pub rounds-init : goal.rounds-init
rounds-init c = record { sized = c.in_ok-settling.ensures.sized c.args.graph.now refl; steady = c.in_ok-settling.ensures.steady c.args.graph.now c.in_ok-ready.ready refl (λ n h. c.in_ok-ready.ensures n h) }
