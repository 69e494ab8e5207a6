use Rattle.std.proofs.Common.{◌≡◌, drop}
use Rattle.uc_flat.specs.declared.expression.Expression.TheVariants.{Cell as ReadCell}
use Rattle.uc_flat_code.specs.Walk.{behind}
use Rattle.uc_flat_code.proofs.parts.behind.Given as goal

abbrev pub invariant-loop-place : goal.invariant-loop-place
invariant-loop-place l = behind l.whole (drop l.place-index l.places) ≡ behind (ReadCell l.cell) l.places
