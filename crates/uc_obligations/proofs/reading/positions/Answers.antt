use Rattle.std.proofs.Common.{refl}
use Rattle.uc_obligations.specs.Reading.{position_read}
use Rattle.uc_obligations.proofs.Read.{mapped_more, mapped_end}
use Rattle.uc_obligations.proofs.reading.positions.Goals as goal

pub loop-state-preserved : goal.loop-state-preserved
loop-state-preserved c = mapped_more (position_read c.args.values.now) _ _ _ _ _ _ c.loop-state.invariant c.loop-state-test.true c.state-item.is c.in_ok-position.ensures c.in_ok-push.ensures.ok

pub returns : goal.returns
returns c = mapped_end (position_read c.args.values.now) _ _ _ _ c.loop-state.invariant c.loop-state-test.false refl
