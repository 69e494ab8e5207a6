use Rattle.std.proofs.Common.{arith, refl, subst, ◌≡◌, ◌<◌, length}
use Rattle.std.proofs.lemmas.Grind.{common_steps}
use Rattle.uc_learner.specs.Moves.{Cut}
use Rattle.uc_learner.proofs.Progress.{cut_more_by, cut_same, popped_inside}
use Rattle.uc_learner.proofs.state.State.cut.Goals as goal

pub index_mut-requires : goal.index_mut-requires
index_mut-requires c =
    let h : c.in-Some.step.literal.var < length c.loop-self.self.values.items = popped_inside c.loop-self.self c.pop.new.self.items c.in-Some.step c.loop-self.invariant.cut.sound c.in-Some.ensures.items in
    grind (arith, common_steps)

pub loop-self-preserved-in-Some : goal.loop-self-preserved-in-Some
loop-self-preserved-in-Some c = record {
  cut = cut_more_by _ c.loop-self.self _ c.in-Some.step c.loop-self.invariant.cut c.in-Some.ensures.items refl refl refl refl c.in-Some.ensures.capacity;
  inside = grind (arith, common_steps);
}

pub returns-clause-cut : goal.returns-clause-cut
returns-clause-cut c =
    let e : length c.loop-self.self.trail.items ≡ c.args.target = grind (arith, common_steps) in
    cut_same c.args.self.now c.args.target c.loop-self.self _ refl refl refl refl refl refl (subst (λ k. Cut c.args.self.now k c.loop-self.self) e c.loop-self.invariant.cut)
