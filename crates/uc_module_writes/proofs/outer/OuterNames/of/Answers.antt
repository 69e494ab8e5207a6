use Rattle.std.proofs.Common.{nat_eq}
use Rattle.indexmap.specs.IndexMap.{get}
use Rattle.uc_module_writes.proofs.StepPartsBound.{bound_all, bound_begin, bound_more}
use Rattle.uc_module_writes.proofs.outer.OuterNames.of.Goals as goal

pub loop-binding-init : goal.loop-binding-init
loop-binding-init c = bound_begin (get nat_eq c.new-names.result.things) c.args.bindings.now c.new-names.ensures

pub loop-binding-preserved : goal.loop-binding-preserved
loop-binding-preserved c =
    bound_more (get nat_eq c.loop-binding.names.things) (get nat_eq c.enter.new.self.things) c.args.bindings.now _ c.binding-item.result c.binding-item.result c.name_in.result c.loop-binding.invariant c.loop-binding-test.true
    c.binding-item.is c.name_in.ensures c.in_ok-enter.ensures

pub returns : goal.returns
returns c = λ i is. bound_all (get nat_eq c.loop-binding.names.things) c.args.bindings.now _ i c.loop-binding.invariant c.loop-binding-test.false is
