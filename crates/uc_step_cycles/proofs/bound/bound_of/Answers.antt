use Rattle.uc_step_cycles.proofs.Bounds.{bound_begin, bound_end, bound_more}
use Rattle.uc_step_cycles.proofs.bound.bound_of.Goals as goal

pub loop-binding-init : goal.loop-binding-init
loop-binding-init c = bound_begin c.args.bindings.now _ c.new-bound.ensures

pub loop-binding-preserved : goal.loop-binding-preserved
loop-binding-preserved c =
    bound_more _ _ _ _ c.binding-item.result _ _ c.loop-binding.invariant c.loop-binding-test.true c.binding-item.is c.name_in.ensures c.in_ok-enter.ensures

pub returns : goal.returns
returns c = bound_end _ _ _ c.loop-binding.invariant c.loop-binding-test.false
