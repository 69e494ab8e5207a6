use Rattle.std.proofs.Common.{◌≡◌, take}
use Rattle.uc_cycles.specs.Numbers.{instance_names, name_places}
use Rattle.uc_cycles.proofs.instances.declared_instances.Given as goal

abbrev pub invariant-loop-declaration : goal.invariant-loop-declaration
invariant-loop-declaration l = l.needs ≡ name_places l.numbers (instance_names (take l.declaration-index l.declarations))
