use Rattle.uc_syntax.proofs.Added.{AddedUpTo}
use Rattle.uc_meaning.specs.Code.{modifies_in}
use Rattle.uc_step_cycles.proofs.names.add_modified.Given as goal

abbrev pub invariant-loop-clause : goal.invariant-loop-clause
invariant-loop-clause l = AddedUpTo modifies_in l.clause-items l.fn.names l.clause-index l.names
