use Rattle.uc_uses.proofs.Counting.{none_counted, one_counted}
use Rattle.uc_uses.proofs.counts.count_one.Goals as goal

pub returns-then-count-limit : goal.returns-then-count-limit
returns-then-count-limit c = one_counted _ _ c.if-count-limit.true

pub returns-else-count-limit : goal.returns-else-count-limit
returns-else-count-limit c = none_counted _ _ c.if-count-limit.false
