use Rattle.std.specs.Prelude.{nat_eq}
use Rattle.indexmap.specs.IndexMap.{get}
use Rattle.uc_meaning.specs.Lookup.{some_if, is_named}
use Rattle.uc_lookup.specs.Parts.{variable_parts}
use Rattle.uc_flat_making.proofs.Entered.{EnteredUpTo}
use Rattle.uc_flat_making.proofs.variables.enter_names.Given as goal

abbrev pub invariant-loop-identifier : goal.invariant-loop-identifier
invariant-loop-identifier l = EnteredUpTo variable_parts (λ x i. some_if (is_named x i) (variable_parts l.variable)) l.names (get nat_eq l.initial.variables.things) l.identifier-index (get nat_eq l.variables.things)
