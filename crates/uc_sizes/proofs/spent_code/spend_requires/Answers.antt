use Rattle.std.proofs.Common.{sym}
use Rattle.uc_lookup.specs.Parts.{system_in}
use Rattle.uc_sizes.proofs.Spending.{sizes_of, spends_same, spent_begin, spent_end, spent_more, spent_stop, stop_out}
use Rattle.uc_sizes.specs.Levels.{clause_size}
use Rattle.uc_sizes.proofs.Codes.{clauses_are}
use Rattle.uc_sizes.proofs.spent_code.spend_requires.Goals as goal

pub loop-clause-init : goal.loop-clause-init
loop-clause-init c = spent_begin _ _ _

pub loop-clause-preserved : goal.loop-clause-preserved
loop-clause-preserved c =
    spent_more (clause_size (system_in c.args.system.now) c.args.path.now) _ _ _ _ _ c.clause-item.result _ _ c.loop-clause.invariant c.loop-clause-test.true c.clause-item.is c.in_ok-spend_clause.ensures

pub returns-in_err-spend_clause : goal.returns-in_err-spend_clause
returns-in_err-spend_clause c =
    stop_out _ _ _ _ _ c.from_residual.ensures.1
    (spends_same _ _ _ (sizes_of (clause_size (system_in c.args.system.now) c.args.path.now) c.args.clauses.now) _
    (spent_stop (clause_size (system_in c.args.system.now) c.args.path.now) c.args.clauses.now _ _ _ _ _ c.clause-item.result _ _ c.loop-clause.invariant c.loop-clause-test.true c.clause-item.is
    c.in_err-spend_clause.ensures)
    (sym (clauses_are (system_in c.args.system.now) c.args.path.now c.args.clauses.now)))

pub returns : goal.returns
returns c =
    spends_same _ _ _ (sizes_of (clause_size (system_in c.args.system.now) c.args.path.now) c.args.clauses.now) _
    (spent_end (clause_size (system_in c.args.system.now) c.args.path.now) _ _ _ _ c.loop-clause.invariant c.loop-clause-test.false) (sym (clauses_are (system_in c.args.system.now) c.args.path.now c.args.clauses.now))
