use Rattle.std.proofs.Common.{◌∷◌, []}
use Rattle.uc_lexer.specs.declared.place.Place.{Place}
use Rattle.uc_order_rules.specs.Writes.{part_of_name}
use Rattle.uc_module_writes.specs.Found.{single}
use Rattle.uc_module_writes.proofs.Going.{OnFrom}
use Rattle.uc_module_writes.proofs.leaves.write_names.Given as goal

abbrev pub invariant-loop-identifier : goal.invariant-loop-identifier
invariant-loop-identifier l = (place : Place) → OnFrom l.names (λ t meets. single place (part_of_name t.name) meets ∷ []) l.written l.fn.all l.identifier-index l.all
