use Rattle.std.proofs.Common.{refl}
use Rattle.uc_step_cycles.proofs.Entered.{enters_by, names_all, names_more, names_none}
use Rattle.uc_step_cycles.proofs.own.enter_names.Goals as goal

pub loop-identifier-init : goal.loop-identifier-init
loop-identifier-init c = λ before expect h. enters_by c.args.node before _ _ _ _ (names_none c.args.is_root c.args.bound.now expect c.args.kind) h

pub loop-identifier-preserved : goal.loop-identifier-preserved
loop-identifier-preserved c = λ before expect h.
    enters_by c.args.node before _ _ _ _ (names_more c.args.is_root c.args.bound.now expect c.args.kind c.args.names.now _ _ _ _ c.loop-identifier-test.true refl c.is_cell-is_cell.ensures)
    (c.in_ok-enter_where.ensures before _ (c.loop-identifier.invariant before expect h))

pub returns : goal.returns
returns c = λ before expect h.
    enters_by c.args.node before _ _ _ _ (names_all c.args.is_root c.args.bound.now expect c.args.kind c.args.names.now _ c.loop-identifier-test.false) (c.loop-identifier.invariant before expect h)
