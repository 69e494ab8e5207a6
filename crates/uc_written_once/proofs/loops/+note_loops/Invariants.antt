use Rattle.uc_written_once.specs.LoneFaultsWalks.{in_arm, long_loops}
use Rattle.uc_written_once.proofs.Noted.{NotedUpTo}
use Rattle.uc_written_once.proofs.loops.+note_loops.Given as goal

abbrev pub invariant-note_in_block-loop-statement : goal.invariant-note_in_block-loop-statement
invariant-note_in_block-loop-statement l = NotedUpTo long_loops l.block l.fn.first l.statement-index l.first

abbrev pub invariant-note_in_arms-loop-arm : goal.invariant-note_in_arms-loop-arm
invariant-note_in_arms-loop-arm l = NotedUpTo (in_arm long_loops) l.arms l.fn.first l.arm-index l.first

abbrev pub invariant-note_in_arms-loop-statement : goal.invariant-note_in_arms-loop-statement
invariant-note_in_arms-loop-statement l = NotedUpTo long_loops l.block l.initial.first l.statement-index l.first
