use Rattle.std.proofs.Common.{◌≡◌, replicate, false}
use Rattle.uc_graph.proofs.settling.falses.Given as goal

abbrev pub invariant-loop : goal.invariant-loop
invariant-loop l = l.flags ≡ replicate l.counter false
