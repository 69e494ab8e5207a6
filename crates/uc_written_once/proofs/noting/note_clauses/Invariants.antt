use Rattle.uc_written_once.specs.Walks.{one_clause}
use Rattle.uc_written_once.proofs.WrittenOnceTurns.{EachFrom}
use Rattle.uc_written_once.proofs.noting.note_clauses.Given as goal

abbrev pub invariant-loop-clause : goal.invariant-loop-clause
invariant-loop-clause l = EachFrom (one_clause l.place) l.clauses l.again l.fn.seen l.fn.first l.clause-index l.seen l.first
