use Rattle.std.proofs.Common.{◌≡◌, [], drop, reverse}
use Rattle.uc_meaning.specs.Expressions.{bind}
use Rattle.uc_readings.proofs.applying.bound_locals.Given as goal

abbrev pub invariant-loop-place : goal.invariant-loop-place
invariant-loop-place l = bind l.layout l.code (drop l.place l.parameters) (drop l.place l.arguments) (reverse l.locals.items) ≡ bind l.layout l.code l.parameters l.arguments []
