use Rattle.uc_module_writes.proofs.BoundNames.{instances_begin, instances_end, instances_more}
use Rattle.uc_module_writes.proofs.bound.some_merge_in.Goals as goal

pub loop-declaration-init : goal.loop-declaration-init
loop-declaration-init c = instances_begin c.args.declarations.now

pub loop-declaration-preserved : goal.loop-declaration-preserved
loop-declaration-preserved c =
    instances_more c.args.declarations.now _ c.declaration-item.result _ _ c.loop-declaration.invariant c.loop-declaration-test.true c.declaration-item.is c.bindings_of.ensures (c.in_ok-merges.ensures c.if-merges.false)

pub returns : goal.returns
returns c = λ no. instances_end c.args.declarations.now _ c.loop-declaration.invariant c.loop-declaration-test.false
