use Rattle.std.proofs.Common.{[]}
use Rattle.uc_syntax.proofs.Added.{AddedUpTo}
use Rattle.uc_meaning.specs.Code.{modifies_in}
use Rattle.uc_checks.proofs.calling.modified_in.Given as goal

abbrev pub invariant-loop-clause : goal.invariant-loop-clause
invariant-loop-clause l = AddedUpTo modifies_in l.clauses [] l.clause-index l.names
