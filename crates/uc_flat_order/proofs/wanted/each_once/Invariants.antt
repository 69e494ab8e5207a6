use Rattle.uc_flat_order.proofs.Kept.{OnceUpTo}
use Rattle.uc_flat_order.proofs.wanted.each_once.Given as goal

abbrev pub invariant-loop-name : goal.invariant-loop-name
invariant-loop-name l = OnceUpTo l.names l.name-index l.all
