use Rattle.uc_runs.proofs.Sites.{JudgedSo}
use Rattle.uc_runs.proofs.judging.judge_requires.Given as goal

abbrev pub invariant-loop-clause : goal.invariant-loop-clause
invariant-loop-clause l = JudgedSo l.layout l.place l.clauses l.clause-index l.number l.fn.run l.here
