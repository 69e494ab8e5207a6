use Rattle.std.proofs.Common.{take}
use Rattle.uc_graph.specs.Settling.{Enters}
use Rattle.uc_graph.proofs.reversed.add_all.Given as goal

abbrev pub invariant-loop-need : goal.invariant-loop-need
invariant-loop-need l = Enters l.node (take l.need-index l.needs) l.fn.back l.back
