use Rattle.uc_order_rules.specs.Roots.{rooted}
use Rattle.uc_step_cycles.proofs.Rooted.{root_tree}
use Rattle.uc_step_cycles.proofs.cycles.note_root.Goals as goal

pub returns : goal.returns
returns c = λ s k knows at known has judged. c.in_ok-note_tree.ensures (rooted s k) (root_tree s known has k c.args.root.now at judged c.in_ok-tree.tree (c.in_ok-tree.ensures s k knows at))
