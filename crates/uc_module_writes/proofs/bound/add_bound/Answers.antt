use Rattle.std.proofs.Common.{◌∷◌, []}
use Rattle.uc_module_writes.proofs.Growing.{grown_begin, grown_more, grown_ones}
use Rattle.uc_module_writes.proofs.bound.add_bound.Goals as goal

pub loop-binding-init : goal.loop-binding-init
loop-binding-init c = grown_begin (λ b. b.identifier.name ∷ []) c.args.bindings.now c.args.names.now

pub loop-binding-preserved : goal.loop-binding-preserved
loop-binding-preserved c =
    grown_more (λ b. b.identifier.name ∷ []) c.args.bindings.now c.args.names.now _ _ _ c.binding-item.result _ c.loop-binding.invariant c.loop-binding-test.true c.binding-item.is c.in_ok-add_name.ensures

pub returns : goal.returns
returns c = grown_ones (λ b. b.identifier.name) c.args.bindings.now c.args.names.now _ _ c.loop-binding.invariant c.loop-binding-test.false
