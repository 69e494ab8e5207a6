use Rattle.std.proofs.Common.{refl}
use Rattle.uc_lookup.specs.Parts.{instance_parts}
use Rattle.uc_module_writes.proofs.Outside.{idle_step, some_step}
use Rattle.uc_module_writes.proofs.tables.step_for.Goals as goal

pub returns-in-None : goal.returns-in-None
returns-in-None c = idle_step c.args.names.now _ (instance_parts c.args.instance) _ c.in-None.ensures c.new-idle.ensures.parts c.new-idle.ensures.kept c.new-idle.ensures.pairs

pub returns-in_ok-step-in-Some : goal.returns-in_ok-step-in-Some
returns-in_ok-step-in-Some c = some_step c.args.names.now _ (instance_parts c.args.instance) _ _ c.in-Some.ensures (c.in_ok-step-in-Some.ensures (instance_parts c.args.instance) refl refl)
