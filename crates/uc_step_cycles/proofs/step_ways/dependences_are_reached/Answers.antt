use Rattle.uc_step_cycles.proofs.Reading.{dependences_are_reached}
use Rattle.uc_step_cycles.proofs.step_ways.dependences_are_reached.Goals as goal

pub returns : goal.returns
returns c = dependences_are_reached
