use Rattle.uc_judge.proofs.Listed.{IsLastBefore}
use Rattle.uc_judge.proofs.commands.count_followed.Given as goal

abbrev pub invariant-loop-number : goal.invariant-loop-number
invariant-loop-number l = IsLastBefore l.commands l.number l.count
