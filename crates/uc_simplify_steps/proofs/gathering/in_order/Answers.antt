use Rattle.uc_simplify_steps.proofs.Members.{sorted_members}
use Rattle.uc_simplify_steps.proofs.gathering.in_order.Goals as goal

pub returns : goal.returns
returns c = sorted_members c.args.all.items c.sort_by_key.new.self.items c.dedup.new.self.items c.sort_by_key.ensures.permutation c.dedup.ensures.filtered
