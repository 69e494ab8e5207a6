use Rattle.std.proofs.Common.{◌≡◌, ◌++◌, map}
use Rattle.uc_flat_making.proofs.constants.types_in.Given as goal

abbrev pub invariant-loop-constant : goal.invariant-loop-constant
invariant-loop-constant l = l.types ++ map (λ c. c.ty) l.constant-iterator.rest.items ≡ map (λ c. c.ty) l.fn.constants
