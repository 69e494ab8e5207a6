use Rattle.std.proofs.Common.{[], ap, subst, sym}
use Rattle.std.specs.List.{flat_map}
use Rattle.uc_module_writes.specs.Bound.{all_bound, bound_in}
use Rattle.uc_module_writes.proofs.Growing.{Grown, grown_begin, grown_end, grown_more, same_as}
use Rattle.uc_module_writes.proofs.bound.all_bound.Goals as goal

pub loop-module-init : goal.loop-module-init
loop-module-init c = subst (λ ns. Grown (λ m. flat_map bound_in m.decls) c.args.modules.now [] 0 ns) (sym c.new-names.ensures) (grown_begin (λ m. flat_map bound_in m.decls) c.args.modules.now [])

pub loop-module-preserved : goal.loop-module-preserved
loop-module-preserved c =
    grown_more (λ m. flat_map bound_in m.decls) c.args.modules.now [] _ _ _ c.module-item.result _ c.loop-module.invariant c.loop-module-test.true c.module-item.is
    (same_as _ _ _ _ c.in_ok-add_declared.ensures (ap (flat_map bound_in) c.as_slice.ensures))

pub returns : goal.returns
unfolding all_bound
returns c = grown_end (λ m. flat_map bound_in m.decls) c.args.modules.now [] _ _ c.loop-module.invariant c.loop-module-test.false
