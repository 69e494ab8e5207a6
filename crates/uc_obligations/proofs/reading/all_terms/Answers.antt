use Rattle.std.proofs.Common.{arith}
use Rattle.uc_obligations.proofs.Read.{numbers_none, numbers_more, numbers_end}
use Rattle.uc_obligations.proofs.reading.all_terms.Goals as goal

pub loop-number-init : goal.loop-number-init
loop-number-init c = numbers_none _ c.new-all.ensures

pub loop-number-preserved : goal.loop-number-preserved
loop-number-preserved c = numbers_more _ _ _ _ c.loop-number.invariant c.new-term.ensures c.in_ok-push.ensures.ok

pub returns : goal.returns
returns c = numbers_end _ _ _ c.loop-number.invariant (omega (arith, c.loop-number.auto)) c.loop-number-test.false
