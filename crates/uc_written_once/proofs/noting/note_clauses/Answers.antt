use Rattle.uc_meaning.specs.Code.{modifies_in}
use Rattle.uc_written_once.specs.Walks.{one_clause, one_name}
use Rattle.uc_written_once.proofs.Single.{clause_went, flat_went}
use Rattle.uc_written_once.proofs.WrittenOnceTurns.{each_begin, each_end, each_more}
use Rattle.uc_written_once.proofs.noting.note_clauses.Goals as goal

pub loop-clause-init : goal.loop-clause-init
loop-clause-init c = each_begin (one_clause c.args.place) _ _ _ _

pub loop-clause-preserved : goal.loop-clause-preserved
loop-clause-preserved c =
    each_more (one_clause c.args.place) _ _ _ _ _ _ _ _ _ c.clause-item.result _ c.loop-clause.invariant c.loop-clause-test.true c.clause-item.is
    (clause_went c.args.place _ _ _ _ _ _ _ c.modified_in.ensures.names c.in_ok-note_names.ensures)

pub returns : goal.returns
returns c =
    flat_went (one_name c.args.place) modifies_in c.args.clauses.now c.args.again _ _ _ _
    (each_end (one_clause c.args.place) _ _ _ _ _ _ _ c.loop-clause.invariant c.loop-clause-test.false)
