use Rattle.std.proofs.Common.{◌≡◌, map, take}
use Rattle.uc_meaning.specs.Types.{type_of_written}
use Rattle.uc_layout.proofs.instances_symbols.parameter_types.Given as goal

abbrev pub invariant-loop-parameter : goal.invariant-loop-parameter
invariant-loop-parameter l = l.types ≡ map (λ p. type_of_written l.tables l.code p.ty) (take l.parameter-index l.parameters)
