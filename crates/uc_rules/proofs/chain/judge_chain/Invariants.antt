use Rattle.uc_rules.proofs.Chains.{ChainFrom}
use Rattle.uc_rules.proofs.chain.judge_chain.Given as goal

abbrev pub invariant-loop-k : goal.invariant-loop-k
invariant-loop-k l = ChainFrom l.chain l.fn.start l.marks l.types l.fn.first l.k l.t l.first
