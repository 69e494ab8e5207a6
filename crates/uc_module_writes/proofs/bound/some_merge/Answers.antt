use Rattle.uc_module_writes.proofs.BoundNames.{modules_begin, modules_end, modules_more}
use Rattle.uc_module_writes.proofs.bound.some_merge.Goals as goal

pub loop-module-init : goal.loop-module-init
loop-module-init c = modules_begin c.args.modules.now

pub loop-module-preserved : goal.loop-module-preserved
loop-module-preserved c =
    modules_more c.args.modules.now _ c.module-item.result _ _ c.loop-module.invariant c.loop-module-test.true c.module-item.is c.as_slice.ensures (c.in_ok-merges.ensures c.if-merges.false)

pub returns : goal.returns
returns c = λ no. modules_end c.args.modules.now _ c.loop-module.invariant c.loop-module-test.false
