use Rattle.std.specs.Prelude.{[]}
use Rattle.uc_lookup.specs.Parts.{system_in}
use Rattle.uc_sizes.specs.Spending.{size_in}
use Rattle.uc_sizes.proofs.Spending.{SpentUpTo}
use Rattle.uc_order_rules.specs.Uses.{clause_expressions}
use Rattle.uc_sizes.specs.Expanding.{expression_sizes}
use Rattle.uc_sizes.proofs.parts.spend_clauses.Given as goal

abbrev pub invariant-loop-clause : goal.invariant-loop-clause
invariant-loop-clause l = SpentUpTo (λ k. expression_sizes (system_in l.system) [] (clause_expressions k)) l.clauses (size_in l.fn.spent) l.clause-index (size_in l.spent)
