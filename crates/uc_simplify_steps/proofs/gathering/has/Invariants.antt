use Rattle.std.proofs.Common.{◌≤◌, length}
use Rattle.uc_simplify_steps.proofs.gathering.has.Given as goal

abbrev pub invariant-loop : goal.invariant-loop
invariant-loop l = l.high ≤ length l.sorted
