use Rattle.std.proofs.Common.{◌≡◌, ◌+◌, drop}
use Rattle.uc_meaning.specs.Shapes.{widths}
use Rattle.uc_readings.proofs.words.widths.Given as goal

abbrev pub invariant-loop-ty : goal.invariant-loop-ty
invariant-loop-ty l = l.total + widths (drop l.ty-index l.types) ≡ widths l.types
