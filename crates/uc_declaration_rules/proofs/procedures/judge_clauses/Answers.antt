use Rattle.uc_statement_rules.proofs.Noted.{noted_begin, noted_end, noted_more}
use Rattle.uc_declaration_rules.specs.Procedures.{asked_faults}
use Rattle.uc_declaration_rules.proofs.procedures.judge_clauses.Goals as goal

pub loop-clause-init : goal.loop-clause-init
loop-clause-init c = noted_begin (asked_faults c.args.asked.now c.args.known.now) c.args.clauses.now c.args.first.now

pub loop-clause-preserved : goal.loop-clause-preserved
loop-clause-preserved c =
    noted_more (asked_faults c.args.asked.now c.args.known.now) c.args.clauses.now c.args.first.now c.loop-clause.clause-index c.loop-clause.first c.judge_clause.new.first c.clause-item.result c.clause-item.result
    c.loop-clause.invariant c.loop-clause-test.true c.clause-item.is c.in_ok-judge_clause.ensures

pub returns : goal.returns
returns c = noted_end (asked_faults c.args.asked.now c.args.known.now) c.args.clauses.now c.args.first.now c.loop-clause.clause-index c.loop-clause.first c.loop-clause.invariant c.loop-clause-test.false
