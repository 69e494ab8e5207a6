use Rattle.uc_judge.proofs.Walked.{IsWalked}
use Rattle.uc_judge.proofs.walk.prints_of.Given as goal

abbrev pub invariant-loop-number : goal.invariant-loop-number
invariant-loop-number l = IsWalked l.d l.lines l.commands l.number l.checked.first l.checked.end l.prints
