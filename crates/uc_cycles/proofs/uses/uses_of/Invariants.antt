use Rattle.uc_names.specs.Senses.{module_in}
use Rattle.uc_cycles.specs.Uses.{UsesTo}
use Rattle.uc_cycles.proofs.uses.uses_of.Given as goal

abbrev pub invariant-loop-number : goal.invariant-loop-number
invariant-loop-number l = UsesTo l.homes (module_in l.homes.modules l.home) l.uses l.number
