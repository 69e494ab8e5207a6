use Rattle.std.proofs.Common.{◌≡◌, drop}
use Rattle.uc_flat_code.specs.Code.{are_different}
use Rattle.uc_flat_code.proofs.parts.are_different.Given as goal

abbrev pub invariant-loop-k : goal.invariant-loop-k
invariant-loop-k l = are_different (drop l.k l.fields) ≡ are_different l.fields
