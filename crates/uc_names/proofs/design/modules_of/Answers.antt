use Rattle.uc_names.proofs.PlaceNumbers.{modules_begin, modules_end, modules_more}
use Rattle.uc_names.proofs.design.modules_of.Goals as goal

pub loop-number-init : goal.loop-number-init
loop-number-init c = modules_begin c.args.modules.now c.new-table.result c.new-table.ensures

pub loop-number-preserved : goal.loop-number-preserved
loop-number-preserved c =
    modules_more c.args.modules.now c.loop-number.table c.enter.new.self c.loop-number.number c.index-modules-number.result c.index-modules-number.result
    c.loop-number.invariant c.loop-number-test.true c.index-modules-number.is c.in_ok-enter.ensures

pub returns : goal.returns
returns c = modules_end c.args.modules.now c.loop-number.table c.loop-number.number c.loop-number.invariant c.loop-number-test.false
