use Rattle.uc_step_cycles.proofs.Stepped.{steps_begin, steps_end, steps_more}
use Rattle.uc_step_cycles.proofs.steps.steps_in.Goals as goal

pub loop-act-init : goal.loop-act-init
loop-act-init c = steps_begin c.args.acts.now _ c.new-steps.ensures

pub loop-act-preserved : goal.loop-act-preserved
loop-act-preserved c = steps_more _ _ _ _ c.act-item.result _ c.loop-act.invariant c.loop-act-test.true c.act-item.is c.in_ok-enter.ensures

pub returns : goal.returns
returns c = steps_end _ _ _ c.loop-act.invariant c.loop-act-test.false
