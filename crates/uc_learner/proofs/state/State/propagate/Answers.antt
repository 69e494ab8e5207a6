use Rattle.std.proofs.Common.{arith, refl, length, ◌<◌, ◌≤◌}
use Rattle.std.proofs.lemmas.Grind.{common_steps}
use Rattle.uc_learner.proofs.Narrow.{ends_none, none_from}
use Rattle.uc_learner.proofs.Visiting.{ahead_first, ahead_more, ahead_settled, ahead_guarded}
use Rattle.uc_learner.proofs.state.State.propagate.Goals as goal

pub loop-self-init : goal.loop-self-init
loop-self-init c =
    ahead_first c.args.self.now c.force_narrow.new.self c.requires.waiting c.force_narrow.ensures.gone c.force_narrow.ensures.watches
    (ends_none c.force_narrow.new.self c.force_narrow.result c.force_narrow.ensures.ends (none_from c.force_narrow.result c.in_default.not-Some))

pub loop-self-preserved : goal.loop-self-preserved
loop-self-preserved c =
    let more : c.loop-self.self.head < length c.loop-self.self.trail.items = grind (arith, common_steps) in
    ahead_more c.args.self.now c.loop-self.self c.visit.new.self _ c.visit.result c.loop-self.invariant more c.visit.ensures
    (none_from c.visit.result c.in_default-visit.not-Some) refl refl refl refl refl refl refl

pub returns-clause-conflict : goal.returns-clause-conflict
returns-clause-conflict c =
    let le : length c.loop-self.self.trail.items ≤ c.loop-self.self.head = grind (arith, common_steps) in
    ahead_settled c.args.self.now c.loop-self.self c.loop-self.invariant (λ h. omega (arith, le, h))

pub returns-clause-guarded : goal.returns-clause-guarded
returns-clause-guarded c =
    let le : length c.loop-self.self.trail.items ≤ c.loop-self.self.head = grind (arith, common_steps) in
    λ _. ahead_guarded c.args.self.now c.loop-self.self c.loop-self.invariant (λ h. omega (arith, le, h))
