use Rattle.uc_names.proofs.PlaceNumbers.{numbered_begin, numbered_end, numbered_turn}
use Rattle.uc_names.proofs.enums.EnumNumbers.of.Goals as goal

pub loop-number-init : goal.loop-number-init
loop-number-init c = numbered_begin _ c.args.enums.now c.new-numbers.ensures

pub loop-number-preserved : goal.loop-number-preserved
loop-number-preserved c = numbered_turn c.loop-number.numbers c.enter.new.self c.args.enums.now c.loop-number.number _ c.loop-number.invariant c.loop-number-test.true c.in_ok-enter.ensures

pub returns : goal.returns
returns c = numbered_end c.loop-number.numbers c.args.enums.now c.loop-number.number c.loop-number.invariant c.loop-number-test.false
