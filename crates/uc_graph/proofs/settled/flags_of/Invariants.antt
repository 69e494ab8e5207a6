use Rattle.std.proofs.Common.{◌≡◌, replicate}
use Rattle.uc_graph.proofs.settled.flags_of.Given as goal

abbrev pub invariant-loop : goal.invariant-loop
invariant-loop l = l.flags ≡ replicate l.counter l.value
