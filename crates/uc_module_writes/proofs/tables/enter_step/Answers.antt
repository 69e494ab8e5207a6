use Rattle.uc_module_writes.proofs.Entered.{step_entered}
use Rattle.uc_module_writes.proofs.tables.enter_step.Goals as goal

pub returns-clause-instances : goal.returns-clause-instances
returns-clause-instances c =
    λ names known i before x named step.
    step_entered names known i before x c.args.name _ c.args.step _ _ _ _ named step c.in_ok-stepped.ensures.parts c.in_ok-stepped.ensures.meet (c.in_ok-enter_instance.ensures.steps x) (c.in_ok-enter.ensures.steps x)
