use Rattle.uc_uses.proofs.Paths as paths
use Rattle.uc_uses.proofs.instance_tree_law.trees_have_paths.Goals as goal

pub returns : goal.returns
returns c = paths.trees_have_paths
