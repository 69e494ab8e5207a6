use Rattle.std.proofs.Common.{◌≡◌, take, map}
use Rattle.uc_ops.specs.Meaning.{part}
use Rattle.uc_obligations.proofs.reading.position.Given as goal

abbrev pub invariant-loop-term : goal.invariant-loop-term
invariant-loop-term l = l.cells ≡ map (part l.values) (take l.term-index l.terms)
