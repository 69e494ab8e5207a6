use Rattle.std.proofs.Common.{◌<◌, ◌∙◌, sym, length, arith}
use Rattle.uc_graph.proofs.Places.{found_within}
use Rattle.uc_graph.proofs.Counts.{fewer_set}
use Rattle.uc_graph.proofs.NeededFirstSteps.{on_ok, on_ok_both, on_ok_three, turn_parks, turn_settles}
use Rattle.uc_graph.proofs.settling.Settling.take_turn.Goals as goal

pub returns-in-Some-nth-clause-steady : goal.returns-in-Some-nth-clause-steady
returns-in-Some-nth-clause-steady c =
    on_ok_both c.park.result _ _ _
    (λ kept parked. turn_parks c.args.graph.now c.args.self.now.flags c.park.new.self.flags c.args.self.now.passed c.park.new.self.passed c.args.self.now.parked c.park.new.self.parked c.args.self.now.order c.park.new.self.order
    c.in-Some.needs.now c.args.woken.now c.args.woken.now c.args.node c.first_unmet-passed.result
    (record {
      there = c.in-Some.ensures;
      sized = c.requires;
      unset = sym c.is_set.ensures ∙ c.if-is_set.false;
      more = λ j l u. c.first_unmet-passed.ensures.met j (omega (arith, l, c.number_at-start.ensures)) u;
      passed_is = kept.1 ∙ c.set.ensures;
    })
    c.in-Some-nth.need (sym c.in-Some-nth.is ∙ c.nth.ensures) c.first_unmet-passed.ensures.unmet kept.0 kept.2 parked)
    c.park.ensures.kept c.park.ensures.parked

pub returns-in-None-clause-steady : goal.returns-in-None-clause-steady
returns-in-None-clause-steady c =
    on_ok_three c.settle.result _ _ _ _
    (λ kept settled woken. turn_settles c.args.graph.now c.args.self.now.flags c.settle.new.self.flags c.args.self.now.passed c.settle.new.self.passed c.args.self.now.parked c.settle.new.self.parked c.args.self.now.order c.settle.new.self.order
    c.in-Some.needs.now c.args.woken.now c.settle.new.woken c.args.node c.first_unmet-passed.result
    (record {
      there = c.in-Some.ensures;
      sized = c.requires;
      unset = sym c.is_set.ensures ∙ c.if-is_set.false;
      more = λ j l u. c.first_unmet-passed.ensures.met j (omega (arith, l, c.number_at-start.ensures)) u;
      passed_is = kept.0 ∙ c.set.ensures;
    })
    (sym c.in-None.is ∙ c.nth.ensures) settled.0 kept.1 settled.1 woken)
    c.settle.ensures.kept c.settle.ensures.settled c.settle.ensures.woken

pub returns-in-None-clause-fewer : goal.returns-in-None-clause-fewer
returns-in-None-clause-fewer c =
    let there = found_within c.args.graph.now c.args.node c.in-Some.needs.now c.in-Some.ensures in
    let within : c.args.node < length c.args.self.now.flags = omega (arith, there, c.requires.flag_count) in
    on_ok c.settle.result _ _
    (λ settled. fewer_set c.args.self.now.flags c.args.woken.now c.args.node c.settle.new.self.flags c.settle.new.woken within (sym c.is_set.ensures ∙ c.if-is_set.false) settled.0)
    c.settle.ensures.settled
