use Rattle.std.proofs.Common.{refl}
use Rattle.uc_step_cycles.proofs.Entered.{declared_all, declared_more, enters_begin, enters_by}
use Rattle.uc_step_cycles.proofs.own.own_cells.Goals as goal

pub loop-declaration-init : goal.loop-declaration-init
loop-declaration-init c = enters_begin c.args.node c.args.cells.now c.new-own.result _ c.new-own.ensures (λ x. refl)

pub loop-declaration-preserved : goal.loop-declaration-preserved
loop-declaration-preserved c =
    enters_by c.args.node c.args.cells.now _ _ _ _ (declared_more c.args.is_root c.args.bound.now c.args.declarations.now _ c.declaration-item.result _ c.loop-declaration-test.true c.declaration-item.is)
    (c.in_ok-enter_declared.ensures c.args.cells.now _ c.loop-declaration.invariant)

pub returns : goal.returns
returns c =
    enters_by c.args.node c.args.cells.now _ _ _ _ (declared_all c.args.is_root c.args.bound.now c.args.declarations.now _ c.loop-declaration-test.false) c.loop-declaration.invariant
