use Rattle.std.proofs.Common.{ℕ, ◌<◌, ◌≤◌, List, Some, length, sym, ap, ◌∙◌, subst, arith}
use Rattle.std.proofs.lemmas.List.{length-set}
use Rattle.uc_graph.specs.Places.{IsPlaced}
use Rattle.uc_graph.specs.FirstFreeSteady.{open_from}
use Rattle.uc_graph.proofs.Turns.{goes_on, wakes, fewer, same_so_far, ends, ends_stuck}
use Rattle.uc_graph.proofs.free_order.first_free_order.Goals as goal

pub places-preserved : goal.places-preserved
places-preserved c =
    let next = rw c.in-Some.is at c.in_ok-place.ensures.next in
    record {
      steady = wakes c.args.graph.now c.next_free.new.self.flags c.next_free.new.self.waiting c.next_free.new.self.ready c.settle.new.self.ready c.settle.new.self.flags c.settle.new.self.waiting c.in-Some.place next
          c.in_ok-settle.ensures.settled.0 c.in_ok-settle.ensures.kept (ap length c.in_ok-settle.ensures.settled.0 ∙ length-set _ _ _) c.in_ok-settle.ensures.woken;
      so_far = goes_on c.args.graph.now c.next_free.new.self.flags c.next_free.new.self.waiting c.next_free.new.self.order c.settle.new.self.order c.settle.new.self.flags c.next_free.new.self.ready c.in-Some.place next
          (same_so_far c.args.graph.now c.places.settling.flags c.next_free.new.self.flags c.places.settling.order c.next_free.new.self.order c.in_ok-place.ensures.kept c.places.invariant.so_far)
          c.in_ok-settle.ensures.settled.0 c.in_ok-settle.ensures.settled.1;
    }

pub places-smaller : goal.places-smaller
places-smaller c =
    let next = rw c.in-Some.is at c.in_ok-place.ensures.next in
    let Less : ℕ → Type 0 = λ n. length (open_from 0 c.settle.new.self.flags) < n in
    subst Less (ap (λ bs. length (open_from 0 bs)) c.in_ok-place.ensures.kept.0)
    (fewer c.args.graph.now c.next_free.new.self.flags c.next_free.new.self.waiting c.settle.new.self.flags c.next_free.new.self.ready c.in-Some.place next c.in_ok-settle.ensures.settled.0)

pub returns-then-count-graph : goal.returns-then-count-graph
returns-then-count-graph c =
    let stuck = rw c.in_default.is at c.in_ok-place.ensures.next in
    let less : length c.next_free.new.self.order < length c.args.graph.now = omega (arith, c.if-count-graph.true, c.count.ensures) in
    ends_stuck c.args.graph.now c.next_free.new.self.flags c.next_free.new.self.waiting c.next_free.new.self.order
    (same_so_far c.args.graph.now c.places.settling.flags c.next_free.new.self.flags c.places.settling.order c.next_free.new.self.order c.in_ok-place.ensures.kept c.places.invariant.so_far) stuck less

pub returns : goal.returns
returns c =
    let all : length c.args.graph.now ≤ length c.next_free.new.self.order = omega (arith, c.if-count-graph.false, c.count.ensures) in
    subst (λ (ns : List ℕ). IsPlaced c.args.graph.now (Some ns)) (sym c.into_order.ensures)
    (ends c.args.graph.now c.next_free.new.self.flags c.next_free.new.self.waiting c.next_free.new.self.order
    (same_so_far c.args.graph.now c.places.settling.flags c.next_free.new.self.flags c.places.settling.order c.next_free.new.self.order c.in_ok-place.ensures.kept c.places.invariant.so_far) all)
