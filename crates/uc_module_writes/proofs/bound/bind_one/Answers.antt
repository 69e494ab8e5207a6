use Rattle.std.proofs.Common.{◌∙◌, sym}
use Rattle.uc_module_writes.proofs.BoundNames.{apart_begin, apart_end, apart_more}
use Rattle.uc_module_writes.proofs.bound.bind_one.Goals as goal

pub loop-binding-init : goal.loop-binding-init
loop-binding-init c = apart_begin c.args.bindings.now _

pub loop-binding-preserved : goal.loop-binding-preserved
loop-binding-preserved c =
    apart_more c.args.bindings.now _ c.loop-binding.seen _ c.binding-item.result _ c.name_in-outer.result c.loop-binding.invariant c.loop-binding-test.true c.binding-item.is c.name_in-outer.ensures (sym c.is_seen.ensures ∙ c.if-is_seen.false)
    c.in_ok-see.ensures

pub returns : goal.returns
returns c = λ no. apart_end c.args.bindings.now _ _ c.loop-binding.invariant c.loop-binding-test.false
