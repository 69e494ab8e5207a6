use Rattle.std.proofs.Common.{◌≡◌, length}
use Rattle.uc_solve_rows.proofs.evaluating.inputs_under.Given as goal

abbrev pub invariant-loop-atom : goal.invariant-loop-atom
invariant-loop-atom l = length l.inputs.items ≡ l.atom-index
