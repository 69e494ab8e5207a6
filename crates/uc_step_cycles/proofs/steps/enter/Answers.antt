use Rattle.std.proofs.Common.{refl}
use Rattle.uc_step_cycles.proofs.Stepped.{not_entered, step_entered}
use Rattle.uc_step_cycles.proofs.steps.enter.Goals as goal

pub returns-in-Writes : goal.returns-in-Writes
returns-in-Writes c = λ x. not_entered c.args.steps.now _ _ x c.in-Writes.is refl

pub returns-in_ok-enter-in-Steps : goal.returns-in_ok-enter-in-Steps
returns-in_ok-enter-in-Steps c = λ x. step_entered c.args.steps.now c.enter.new.self _ _ _ x c.in-Steps.is (c.in_ok-enter-in-Steps.ensures x)
