use Rattle.uc_sizes.proofs.Levels.{from_none}
use Rattle.uc_sizes.proofs.spent_nodes.counted_in.Goals as goal

pub returns : goal.returns
returns c s = from_none s _ _ _ c.in_ok-add_nodes.ensures (c.new-counted.ensures s)
