use Rattle.uc_graph.proofs.NeededFirstSteps.{starts}
use Rattle.uc_graph.proofs.settling.Settling.new.Goals as goal

pub returns-clause-steady : goal.returns-clause-steady
returns-clause-steady c = λ graph pending e h. starts c.args.count _ _ _ _ c.in_ok-flags.ensures c.in_ok-passed.ensures c.new-order.ensures graph pending e h
