use Rattle.std.proofs.Common.{refl}
use Rattle.uc_lookup.specs.Parts.{instance_parts}
use Rattle.uc_module_writes.specs.Stepped.{summary_by}
use Rattle.uc_module_writes.proofs.Entered.{none_entered, some_entered}
use Rattle.uc_module_writes.proofs.tables.enter_instance.Goals as goal

pub returns-in-None-clause-instances : goal.returns-in-None-clause-instances
returns-in-None-clause-instances c = λ before x. none_entered c.args.names.now (summary_by c.args.places.now c.args.summaries.now) x before _ _ _ c.in-None.ensures

pub returns-in_ok-enter_step-in-Some-clause-instances : goal.returns-in_ok-enter_step-in-Some-clause-instances
returns-in_ok-enter_step-in-Some-clause-instances c =
    λ before x entered.
    some_entered c.args.names.now (summary_by c.args.places.now c.args.summaries.now) x before _ (instance_parts c.in-Some.instance) _ _ c.in-Some.ensures
    (c.in_ok-enter_step-in-Some.ensures.instances c.args.names.now (summary_by c.args.places.now c.args.summaries.now) (instance_parts c.in-Some.instance) before x refl c.in_ok-step-in-Some.ensures entered)
