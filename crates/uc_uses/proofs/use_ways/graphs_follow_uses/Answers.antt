use Rattle.uc_uses.proofs.UseWaysFollowed.{graphs_follow_uses}
use Rattle.uc_uses.proofs.use_ways.graphs_follow_uses.Goals as goal

pub returns : goal.returns
returns c = graphs_follow_uses
