use Rattle.uc_written_once.specs.Walks.{one_target}
use Rattle.uc_written_once.proofs.WrittenOnceTurns.{EachFrom}
use Rattle.uc_written_once.proofs.noting.note_targets.Given as goal

abbrev pub invariant-loop-target : goal.invariant-loop-target
invariant-loop-target l = EachFrom (one_target l.place) l.targets l.again l.fn.seen l.fn.first l.target-index l.seen l.first
