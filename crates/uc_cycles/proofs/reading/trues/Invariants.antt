use Rattle.std.proofs.Common.{◌≡◌, replicate, true}
use Rattle.uc_cycles.proofs.reading.trues.Given as goal

abbrev pub invariant-loop : goal.invariant-loop
invariant-loop l = l.flags ≡ replicate l.counter true
