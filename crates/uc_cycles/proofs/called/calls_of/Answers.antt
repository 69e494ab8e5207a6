use Rattle.uc_cycles.proofs.Places.{calls_begin, calls_end, calls_more}
use Rattle.uc_cycles.proofs.called.calls_of.Goals as goal

pub loop-number-init : goal.loop-number-init
loop-number-init c = calls_begin c.args.declarations.now c.new-calls.result c.new-calls.ensures

pub loop-number-preserved : goal.loop-number-preserved
loop-number-preserved c =
    calls_more c.args.declarations.now c.loop-number.calls c.enter_call.new.calls c.loop-number.number c.index-declarations-number.result c.index-declarations-number.result
    c.loop-number.invariant c.loop-number-test.true c.index-declarations-number.is c.in_ok-enter_call.ensures

pub returns : goal.returns
returns c = calls_end c.args.declarations.now c.loop-number.calls c.loop-number.number c.loop-number.invariant c.loop-number-test.false
