use Rattle.uc_written_once.proofs.Noted.{NotedUpTo}
use Rattle.uc_written_once.specs.LoneFaultsWalks.{too_many_labels}
use Rattle.uc_written_once.proofs.loops.note_large_enums.Given as goal

abbrev pub invariant-loop-written : goal.invariant-loop-written
invariant-loop-written l = NotedUpTo too_many_labels l.written-items l.fn.first l.written-index l.first
