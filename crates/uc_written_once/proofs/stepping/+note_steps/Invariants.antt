use Rattle.uc_written_once.proofs.SteppedOnceTurns.{ArmsFrom, BlockFrom}
use Rattle.uc_written_once.proofs.stepping.+note_steps.Given as goal

abbrev pub invariant-note_in_block-loop-statement : goal.invariant-note_in_block-loop-statement
invariant-note_in_block-loop-statement l = BlockFrom l.block l.again l.fn.seen l.fn.first l.statement-index l.seen l.first

abbrev pub invariant-note_in_arms-loop-arm : goal.invariant-note_in_arms-loop-arm
invariant-note_in_arms-loop-arm l = ArmsFrom l.arms l.again l.fn.seen l.fn.aside l.fn.first l.arm-index l.seen l.aside l.first

abbrev pub invariant-note_in_arms-loop-statement : goal.invariant-note_in_arms-loop-statement
invariant-note_in_arms-loop-statement l = BlockFrom l.block l.again l.initial.seen l.initial.first l.statement-index l.seen l.first
