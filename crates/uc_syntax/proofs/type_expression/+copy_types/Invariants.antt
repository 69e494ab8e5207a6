use Rattle.std.proofs.Common.{◌≡◌, take}
use Rattle.uc_syntax.proofs.type_expression.+copy_types.Given as goal

abbrev pub invariant-copy_parameters-loop-parameter : goal.invariant-copy_parameters-loop-parameter
invariant-copy_parameters-loop-parameter l = l.copies ≡ take l.parameter-index l.parameters
