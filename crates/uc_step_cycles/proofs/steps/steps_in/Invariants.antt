use Rattle.std.proofs.Common.{take}
use Rattle.uc_step_cycles.specs.Steps.{KnowsSteps}
use Rattle.uc_step_cycles.proofs.steps.steps_in.Given as goal

abbrev pub invariant-loop-act : goal.invariant-loop-act
invariant-loop-act l = KnowsSteps (take l.act-index l.acts) l.steps
