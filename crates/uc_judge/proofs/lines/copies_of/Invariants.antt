use Rattle.std.proofs.Common.{◌≡◌, ◌++◌, map}
use Rattle.uc_flat_laws.specs.FlatRefutationsLaws.{positions_of}
use Rattle.uc_judge.proofs.lines.copies_of.Given as goal

abbrev pub invariant-loop-positions : goal.invariant-loop-positions
invariant-loop-positions l = l.all ++ map positions_of l.positions-iterator.rest.items ≡ map positions_of l.fn.copies
