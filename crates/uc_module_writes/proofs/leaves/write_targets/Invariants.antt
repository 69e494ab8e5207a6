use Rattle.std.proofs.Common.{◌∷◌, []}
use Rattle.uc_lexer.specs.declared.place.Place.{Place}
use Rattle.uc_order_rules.specs.Writes.{part_of_target}
use Rattle.uc_module_writes.specs.Found.{single}
use Rattle.uc_module_writes.proofs.Going.{OnFrom}
use Rattle.uc_module_writes.proofs.leaves.write_targets.Given as goal

abbrev pub invariant-loop-target : goal.invariant-loop-target
invariant-loop-target l = (place : Place) → OnFrom l.names (λ t meets. single place (part_of_target t) meets ∷ []) l.targets l.fn.all l.target-index l.all
