use Rattle.uc_uses.proofs.UseBoundsJudged.{judged_instances_are_all}
use Rattle.uc_uses.proofs.use_bounds.judged_instances_are_all.Goals as goal

pub returns : goal.returns
returns c = judged_instances_are_all
