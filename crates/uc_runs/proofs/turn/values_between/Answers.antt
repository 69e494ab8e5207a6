use Rattle.uc_meaning.specs.Code.{counted_up}
use Rattle.uc_runs.proofs.Counting.{turn_pushed}
use Rattle.uc_runs.proofs.turn.values_between.Goals as goal

pub loop-step-init : goal.loop-step-init
unfolding counted_up
loop-step-init c = c.new-values.ensures.items

pub loop-step-preserved : goal.loop-step-preserved
loop-step-preserved c =
    turn_pushed c.args.from c.loop-step.step _ _ _ _ c.in_ok-push.ensures.items c.in_ok-value.ensures c.loop-step.invariant
