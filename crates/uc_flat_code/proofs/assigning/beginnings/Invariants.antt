use Rattle.std.proofs.Common.{◌≡◌, take, map}
use Rattle.uc_flat_code.specs.Zero.{zero_of}
use Rattle.uc_flat_code.proofs.assigning.beginnings.Given as goal

abbrev pub invariant-loop-value : goal.invariant-loop-value
invariant-loop-value l = l.all ≡ map (λ x. zero_of x.ty) (take l.value-index l.values)
