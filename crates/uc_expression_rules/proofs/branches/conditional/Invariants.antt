use Rattle.std.proofs.Common.{[]}
use Rattle.uc_expression_rules.proofs.Turns.{OwnFrom}
use Rattle.uc_expression_rules.proofs.branches.conditional.Given as goal

abbrev pub invariant-loop-branch : goal.invariant-loop-branch
invariant-loop-branch l = OwnFrom l.fn.branches (record { faults = []; type = l.fn.otherwise }) l.fn.first l.branch-iterator.rest.items l.rest l.first
