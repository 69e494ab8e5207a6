use Rattle.std.proofs.Common.{ap, map}
use Rattle.uc_syntax.specs.declared.declaration.Binding.{Binding}
use Rattle.uc_module_writes.specs.Bound.{bound_in}
use Rattle.uc_module_writes.proofs.Growing.{grown_begin, grown_end, grown_more, same_as}
use Rattle.uc_module_writes.proofs.bound.add_declared.Goals as goal

pub loop-declaration-init : goal.loop-declaration-init
loop-declaration-init c = grown_begin bound_in c.args.declarations.now c.args.names.now

pub loop-declaration-preserved : goal.loop-declaration-preserved
loop-declaration-preserved c =
    grown_more bound_in c.args.declarations.now c.args.names.now _ _ _ c.declaration-item.result _ c.loop-declaration.invariant c.loop-declaration-test.true c.declaration-item.is
    (same_as _ _ _ _ c.in_ok-add_bound.ensures (ap (map (λ (b : Binding). b.identifier.name)) c.bindings_of.ensures))

pub returns : goal.returns
returns c = grown_end bound_in c.args.declarations.now c.args.names.now _ _ c.loop-declaration.invariant c.loop-declaration-test.false
