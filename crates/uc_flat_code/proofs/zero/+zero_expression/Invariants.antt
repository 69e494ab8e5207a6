use Rattle.std.proofs.Common.{◌≡◌, take, map}
use Rattle.uc_flat_code.specs.Zero.{zero_of}
use Rattle.uc_flat_code.proofs.zero.+zero_expression.Given as goal

abbrev pub invariant-zero_parts-loop-field : goal.invariant-zero_parts-loop-field
invariant-zero_parts-loop-field l = l.parts ≡ map (λ f. zero_of f.ty) (take l.field-index l.fields)
