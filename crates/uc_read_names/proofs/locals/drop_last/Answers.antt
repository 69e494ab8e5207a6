use Rattle.std.proofs.Common.{reverse}
use Rattle.uc_read_names.proofs.Dropped.{dropped_turn}
use Rattle.uc_read_names.proofs.locals.drop_last.Goals as goal

pub loop-turn-preserved : goal.loop-turn-preserved
loop-turn-preserved c = dropped_turn c.pop.result c.loop-turn.known c.pop.new.self (reverse c.args.known.now) c.loop-turn._turn c.pop.ensures c.loop-turn.invariant
