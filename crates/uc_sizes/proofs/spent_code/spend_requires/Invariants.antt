use Rattle.uc_lookup.specs.Parts.{system_in}
use Rattle.uc_sizes.specs.Spending.{size_in}
use Rattle.uc_sizes.proofs.Spending.{SpentUpTo}
use Rattle.uc_sizes.specs.Levels.{clause_size}
use Rattle.uc_sizes.proofs.spent_code.spend_requires.Given as goal

abbrev pub invariant-loop-clause : goal.invariant-loop-clause
invariant-loop-clause l = SpentUpTo (clause_size (system_in l.system) l.path) l.clauses (size_in l.fn.spent) l.clause-index (size_in l.spent)
