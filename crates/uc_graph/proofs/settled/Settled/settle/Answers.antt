use Rattle.std.proofs.Common.{refl, subst, sym}
use Rattle.uc_graph.specs.Order.{has}
use Rattle.uc_graph.specs.Reached.{IsReached}
use Rattle.uc_graph.specs.Settling.{Clears, Sets}
use Rattle.uc_graph.proofs.GraphCyclesSteps.{settles_alone, settles_cycle}
use Rattle.uc_graph.proofs.settled.Settled.settle.Goals as goal

pub returns-then-is_set : goal.returns-then-is_set
returns-then-is_set c = λ known.
    settles_alone c.args.graph.now c.args.node c.args.self.now _ c.take_reached.new.left c.set_all.new.flags c.in_ok-found.found (sym c.if-not-is_set.ensures)
    (subst (λ ns. IsReached c.args.graph.now c.args.self.now.left ns c.in_ok-found.found) c.list_at.ensures c.in_ok-found.ensures.reached) c.in_ok-found.ensures.taken (sym c.if-is_set.ensures)
    (subst (λ ns. Sets (has ns) c.take_reached.new.left c.set_all.new.flags) c.as_slice.ensures c.set_all.ensures) c.clear.ensures refl refl known

pub returns : goal.returns
returns c = λ known.
    settles_cycle c.args.graph.now c.args.back.now c.args.node c.args.self.now _ c.take_reached.new.left c.set_all-2.new.flags c.take_reached-2.new.left c.set_all-3.new.flags c.in_ok-found.found c.in_ok-cycle.cycle
    c.requires (sym c.if-not-is_set.ensures)
    (subst (λ ns. IsReached c.args.graph.now c.args.self.now.left ns c.in_ok-found.found) c.list_at.ensures c.in_ok-found.ensures.reached) c.in_ok-found.ensures.taken (sym c.if-is_set.ensures)
    (subst (λ ns. Sets (has ns) c.args.self.now.inside c.set_all-2.new.flags) c.as_slice-2.ensures c.set_all-2.ensures)
    (subst (λ ns. IsReached c.args.back.now c.set_all-2.new.flags ns c.in_ok-cycle.cycle) c.list_at-2.ensures c.in_ok-cycle.ensures.reached) c.in_ok-cycle.ensures.taken
    (subst (λ ns. Clears (has ns) c.take_reached-2.new.left c.clear_all.new.flags) c.as_slice-3.ensures c.clear_all.ensures)
    (subst (λ ns. Sets (has ns) c.take_reached.new.left c.set_all-3.new.flags) c.as_slice-4.ensures c.set_all-3.ensures)
    (subst (λ ns. Clears (has ns) c.set_all-3.new.flags c.clear_all-2.new.flags) c.as_slice-5.ensures c.clear_all-2.ensures)
    (subst (λ ns. Sets (has ns) c.args.self.now.flags c.set_all-4.new.flags) c.as_slice-6.ensures c.set_all-4.ensures) known
