use Rattle.std.specs.Prelude.{nat_eq}
use Rattle.indexmap.specs.IndexMap.{get}
use Rattle.uc_meaning.specs.Lookup.{variable_in}
use Rattle.uc_lookup.specs.Parts.{variable_parts}
use Rattle.uc_flat_making.proofs.Entered.{GivenUpTo}
use Rattle.uc_flat_making.proofs.variables.variables_of.Given as goal

abbrev pub invariant-loop-decl : goal.invariant-loop-decl
invariant-loop-decl l = GivenUpTo variable_parts variable_in l.decl-items l.decl-index (get nat_eq l.variables.things)
