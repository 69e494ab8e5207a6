use Rattle.std.proofs.Common.{◌≡◌, ◌++◌, take}
use Rattle.std.specs.List.{flat_map}
use Rattle.uc_meaning.specs.Lookup.{System}
use Rattle.uc_rules.specs.declared.rule.Rule.TheVariants.{Cycle}
use Rattle.uc_rules.specs.Cycles.{alias_cycle_in, on_instance_cycle}
use Rattle.uc_rules.specs.Faults.{breaks_where, first_of}
use Rattle.uc_cycles.specs.Numbers.{KnowsCycles}
use Rattle.uc_cycles.proofs.noting.note_cycles.Given as goal

abbrev pub invariant-loop-declaration : goal.invariant-loop-declaration
invariant-loop-declaration l = (s : System) → KnowsCycles s l.cycles → l.first ≡ first_of l.fn.first (breaks_where (on_instance_cycle s l.whole.name) Cycle l.whole.place ++ flat_map (alias_cycle_in s l.whole) (take l.declaration-index l.declarations))
