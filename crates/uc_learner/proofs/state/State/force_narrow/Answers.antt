use Rattle.std.proofs.Common.{arith, refl, ap, ◌∙◌, ◌≡◌, ◌<◌, length, vec_len}
use Rattle.std.proofs.lemmas.Grind.{common_steps}
use Rattle.uc_rings.specs.declared.watches.Watches.{Watches}
use Rattle.uc_learner.specs.declared.state.State.{State}
use Rattle.uc_learner.proofs.Queue.{gone_refl, gone_trans}
use Rattle.uc_learner.proofs.Narrow.{trues_none, trues_all, trues_more, narrow_read}
use Rattle.uc_learner.proofs.state.State.force_narrow.Goals as goal

pub loop-place-init : goal.loop-place-init
loop-place-init c = record { gone = gone_refl c.args.self.now c.requires.ready; watches = refl; trues = trues_none c.args.self.now }

pub index-number-requires : goal.index-number-requires
index-number-requires c = omega (arith, ap (λ (w : Watches). vec_len w.narrow) c.loop-place.invariant.watches)

pub force-requires-clause-ready : goal.force-requires-clause-ready
force-requires-clause-ready c = c.loop-place.invariant.gone.onward.ready

pub force-requires-clause-narrow : goal.force-requires-clause-narrow
force-requires-clause-narrow c =
    let s : State = c.loop-place.self in
    let h : c.loop-place.place < length s.watches.narrow.items = grind (arith, common_steps, ap (λ (w : Watches). length w.narrow.items) c.loop-place.invariant.watches) in
    narrow_read s.watches.narrow.items c.loop-place.place _ h c.index-number.ensures

pub returns-then-force-clause-gone : goal.returns-then-force-clause-gone
returns-then-force-clause-gone c = gone_trans c.args.self.now c.loop-place.self c.force.new.self c.loop-place.invariant.gone c.force.ensures.gone

pub returns-then-force-clause-ends : goal.returns-then-force-clause-ends
returns-then-force-clause-ends c = c.force.ensures.conflict c.if-force.true

pub returns-then-force-clause-watches : goal.returns-then-force-clause-watches
returns-then-force-clause-watches c = c.force.ensures.watches ∙ c.loop-place.invariant.watches

pub loop-place-preserved : goal.loop-place-preserved
loop-place-preserved c =
    let s : State = c.loop-place.self in
    let h : c.loop-place.place < length s.watches.narrow.items = grind (arith, common_steps, ap (λ (w : Watches). length w.narrow.items) c.loop-place.invariant.watches) in
    record {
      gone = gone_trans c.args.self.now s c.force.new.self c.loop-place.invariant.gone c.force.ensures.gone;
      watches = c.force.ensures.watches ∙ c.loop-place.invariant.watches;
      trues = trues_more s c.force.new.self c.loop-place.place _ c.loop-place.invariant.trues c.force.ensures.gone c.force.ensures.watches h c.index-number.ensures (c.force.ensures.forced c.if-force.false);
    }

pub returns-clause-ends : goal.returns-clause-ends
returns-clause-ends c =
    trues_all c.loop-place.self c.loop-place.place c.loop-place.invariant.trues (grind (arith, common_steps, ap (λ (w : Watches). length w.narrow.items) c.loop-place.invariant.watches))
