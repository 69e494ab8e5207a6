use Rattle.std.proofs.Common.{◌*◌, ◌≤◌, length}
use Rattle.uc_learner_rows.proofs.watching.all_variables.Given as goal

abbrev pub invariant-loop-number : goal.invariant-loop-number
invariant-loop-number l = 2 * l.variables ≤ length l.rings.lists
