use Rattle.uc_uses.proofs.Dots.{DotsFrom}
use Rattle.uc_uses.proofs.mentioned_names.dotted.Given as goal

abbrev pub invariant-loop-selection : goal.invariant-loop-selection
invariant-loop-selection l = DotsFrom l.selections l.selection-index l.names
