use Rattle.uc_step_cycles.proofs.SteppedBlocksFollowed.{steps_are_followed}
use Rattle.uc_step_cycles.proofs.stepped_block_laws.steps_are_followed.Goals as goal

pub returns : goal.returns
returns c = steps_are_followed
