use Rattle.uc_written_once.specs.LoneFaultsWalks.{in_arm, named_twice}
use Rattle.uc_written_once.proofs.Noted.{NotedUpTo}
use Rattle.uc_written_once.proofs.targets.+note_targets.Given as goal

abbrev pub invariant-note_in_block-loop-statement : goal.invariant-note_in_block-loop-statement
invariant-note_in_block-loop-statement l = NotedUpTo named_twice l.block l.fn.first l.statement-index l.first

abbrev pub invariant-note_in_arms-loop-arm : goal.invariant-note_in_arms-loop-arm
invariant-note_in_arms-loop-arm l = NotedUpTo (in_arm named_twice) l.arms l.fn.first l.arm-index l.first

abbrev pub invariant-note_in_arms-loop-statement : goal.invariant-note_in_arms-loop-statement
invariant-note_in_arms-loop-statement l = NotedUpTo named_twice l.block l.initial.first l.statement-index l.first
