use Rattle.uc_uses.proofs.Rounds.{FlaggedUpTo}
use Rattle.uc_uses.proofs.ways.next_round.Given as goal

abbrev pub invariant-loop-nodes : goal.invariant-loop-nodes
invariant-loop-nodes l = FlaggedUpTo l.graph l.flags l.past l.nodes-index l.next
