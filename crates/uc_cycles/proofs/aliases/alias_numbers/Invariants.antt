use Rattle.uc_cycles.specs.Numbers.{HasAliases}
use Rattle.uc_cycles.proofs.aliases.alias_numbers.Given as goal

abbrev pub invariant-loop-home : goal.invariant-loop-home
invariant-loop-home l = HasAliases l.homes l.home l.numbers
