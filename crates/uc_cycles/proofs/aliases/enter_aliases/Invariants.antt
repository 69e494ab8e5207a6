use Rattle.std.proofs.Common.{take}
use Rattle.std.specs.List.{flat_map}
use Rattle.uc_cycles.specs.Numbers.{EntersAliases, KnowsTypes, alias_of}
use Rattle.uc_cycles.proofs.aliases.enter_aliases.Given as goal

abbrev pub invariant-loop-declaration : goal.invariant-loop-declaration
invariant-loop-declaration l = KnowsTypes l.fn.numbers → EntersAliases (flat_map (alias_of l.owner) (take l.declaration-index l.declarations)) l.fn.numbers l.numbers
