use Rattle.std.proofs.Common.{◌≡◌, replicate}
use Rattle.uc_graph.proofs.settling.zeros.Given as goal

abbrev pub invariant-loop : goal.invariant-loop
invariant-loop l = l.numbers ≡ replicate l.counter 0
