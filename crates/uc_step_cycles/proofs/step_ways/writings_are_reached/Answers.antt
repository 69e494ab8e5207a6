use Rattle.uc_step_cycles.proofs.Reading.{writings_are_reached}
use Rattle.uc_step_cycles.proofs.step_ways.writings_are_reached.Goals as goal

pub returns : goal.returns
returns c = writings_are_reached
