use Rattle.std.proofs.Common.{◌≡◌}
use Rattle.uc_flat.specs.Flats.{repeated}
use Rattle.uc_flat.proofs.flat.repeat_types.Given as goal

abbrev pub invariant-loop-turn : goal.invariant-loop-turn
invariant-loop-turn l = l.all ≡ repeated l.turn l.types
