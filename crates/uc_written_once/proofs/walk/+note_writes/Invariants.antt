use Rattle.uc_written_once.specs.Effects.{modified_by, step_by}
use Rattle.uc_written_once.specs.Walks.{walk_arm, walk_of}
use Rattle.uc_written_once.proofs.WrittenOnceTurns.{ArmsFrom, EachFrom}
use Rattle.uc_written_once.proofs.walk.+note_writes.Given as goal

abbrev pub invariant-note_in_block-loop-statement : goal.invariant-note_in_block-loop-statement
invariant-note_in_block-loop-statement l = EachFrom (walk_of (modified_by l.effects) (step_by l.effects)) l.block l.again l.fn.seen l.fn.first l.statement-index l.seen l.first

abbrev pub invariant-note_in_arms-loop-arm : goal.invariant-note_in_arms-loop-arm
invariant-note_in_arms-loop-arm l = ArmsFrom (walk_arm (modified_by l.effects) (step_by l.effects)) l.arms l.again l.fn.seen l.fn.aside l.fn.first l.arm-index l.seen l.aside l.first

abbrev pub invariant-note_in_arms-loop-statement : goal.invariant-note_in_arms-loop-statement
invariant-note_in_arms-loop-statement l = EachFrom (walk_of (modified_by l.effects) (step_by l.effects)) l.block l.again l.initial.seen l.initial.first l.statement-index l.seen l.first
