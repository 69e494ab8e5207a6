use Rattle.std.proofs.Common.{refl}
use Rattle.uc_obligations.specs.Reading.{hit_read}
use Rattle.uc_obligations.proofs.Read.{listed_more, listed_end}
use Rattle.uc_obligations.proofs.reading.sites.Goals as goal

pub loop-hit-preserved : goal.loop-hit-preserved
loop-hit-preserved c = listed_more (hit_read c.args.values.now) _ _ _ _ _ _ c.loop-hit.invariant c.loop-hit-test.true c.hit-item.is c.in_ok-more.ensures c.in_ok-append.ensures

pub returns : goal.returns
returns c = listed_end (hit_read c.args.values.now) _ _ _ _ c.loop-hit.invariant c.loop-hit-test.false refl
