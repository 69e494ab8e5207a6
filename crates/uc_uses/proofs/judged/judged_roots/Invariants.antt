use Rattle.uc_uses.proofs.JudgedRoots.{JudgedTo}
use Rattle.uc_uses.proofs.judged.judged_roots.Given as goal

abbrev pub invariant-loop-number : goal.invariant-loop-number
invariant-loop-number l = JudgedTo l.design l.number l.flags
