use Rattle.std.proofs.Common.{◌++◌, ap, ◌∙◌}
use Rattle.uc_cycles.specs.Numbers.{instance_name, name_places}
use Rattle.uc_cycles.proofs.Steps.{names_more, names_none}
use Rattle.uc_cycles.proofs.instances.declared_instances.Goals as goal

pub loop-declaration-init : goal.loop-declaration-init
loop-declaration-init c = c.new-needs.ensures ∙ names_none c.args.numbers.now

pub loop-declaration-preserved : goal.loop-declaration-preserved
loop-declaration-preserved c =
    names_more c.args.numbers.now c.args.declarations.now c.loop-declaration.declaration-index c.declaration-item.result c.loop-declaration.needs c.add_instance.new.needs c.loop-declaration-test.true c.loop-declaration.invariant
    (c.in_ok-add_instance.ensures ∙ ap (λ d. c.loop-declaration.needs ++ name_places c.args.numbers.now (instance_name d)) c.declaration-item.is)
