use Rattle.uc_declared_types.specs.Aliases.{HasAliases}
use Rattle.uc_declared_types.proofs.listed.aliases_of.Given as goal

abbrev pub invariant-loop-home : goal.invariant-loop-home
invariant-loop-home l = HasAliases l.homes l.home l.listed
