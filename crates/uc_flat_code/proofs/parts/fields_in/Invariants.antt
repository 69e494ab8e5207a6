use Rattle.std.proofs.Common.{◌≡◌, ◌++◌, drop}
use Rattle.uc_flat.specs.declared.expression.Expression.TheVariants.{Cell as ReadCell}
use Rattle.uc_flat_code.specs.Code.{fields_in}
use Rattle.uc_flat_code.specs.Walk.{behind}
use Rattle.uc_flat_code.proofs.parts.fields_in.Given as goal

abbrev pub invariant-loop-k : goal.invariant-loop-k
invariant-loop-k l = l.all ++ fields_in (behind (ReadCell l.cell) l.places) l.k (drop l.k l.fields) ≡ fields_in (behind (ReadCell l.cell) l.places) 0 l.fields
