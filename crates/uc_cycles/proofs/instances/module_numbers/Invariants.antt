use Rattle.uc_cycles.specs.Numbers.{HasModules}
use Rattle.uc_cycles.proofs.instances.module_numbers.Given as goal

abbrev pub invariant-loop-home : goal.invariant-loop-home
invariant-loop-home l = HasModules l.homes l.home l.numbers
