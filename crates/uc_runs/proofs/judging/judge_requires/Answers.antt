use Rattle.std.proofs.Common.{◌+◌, ◌∙◌, sym, subst, rules}
use Rattle.uc_meaning.specs.Expressions.{is_true}
use Rattle.uc_meaning.specs.Code.{site_unless}
use Rattle.uc_runs.specs.declared.run.Run.{Run}
use Rattle.uc_runs.specs.Runs.{Comes}
use Rattle.uc_runs.proofs.Sites.{JudgedSo, judged_start, judged_end, judged_met_end, judged_past, judged_more, judged_told}
use Rattle.uc_runs.proofs.judging.judge_requires.Goals as goal
use Rattle.uc_runs.proofs.judging.judge_requires.Goals.{in-Requires+in_ok-next+in_ok-number, in_default}

pub loop-clause-init : goal.loop-clause-init
loop-clause-init c = judged_start c.args.layout.now c.args.place c.args.clauses.now c.args.run

pub returns-clause-value : goal.returns-clause-value
returns-clause-value c = judged_end c.args.layout.now c.args.place c.args.clauses.now c.loop-clause.clause-index c.loop-clause.number c.args.run c.loop-clause.here c.loop-clause.invariant c.loop-clause-test.false

pub returns-clause-wide : goal.returns-clause-wide
returns-clause-wide c = judged_met_end c.args.layout.now c.args.place c.args.clauses.now c.loop-clause.clause-index c.loop-clause.number c.args.run c.loop-clause.here c.loop-clause.invariant c.loop-clause-test.false

pub returns-in_err-next-clause-wide : goal.returns-in_err-next-clause-wide
returns-in_err-next-clause-wide c =
    let told = judged_told c.args.layout.now c.args.place c.args.clauses.now c.loop-clause.clause-index c.loop-clause.number c.args.run c.loop-clause.here c.loop-clause.invariant c.clause-item.result c.loop-clause-test.true c.clause-item.is c.in-Requires.field-0 c.in-Requires.formula c.in-Requires.is Run Run c.in_err-next.field-0.0 c.in_err-next.ensures.wide in
    search (rules, told)

pub loop-clause-preserved : goal.loop-clause-preserved
loop-clause-preserved c =
    elim c.match-clause.branch [
      | in-Requires+in_ok-next+in_ok-number w ↦
          judged_more c.args.layout.now c.args.place c.args.clauses.now c.loop-clause.clause-index c.loop-clause.number c.args.run c.loop-clause.here c.loop-clause.invariant c.clause-item.result c.loop-clause-test.true c.clause-item.is w.in-Requires.field-0 w.in-Requires.formula w.in-Requires.is c.match-clause.here c.match-clause.number
          (subst (Comes c.loop-clause.here (site_unless (is_true c.args.layout.now c.loop-clause.here.scope w.in-Requires.formula) c.args.place c.loop-clause.number)) (sym w.here-is) w.in_ok-next.ensures.value)
          (w.number-is ∙ w.in_ok-number.ensures) w.in_ok-next.ensures.wide
      | in_default w ↦
          subst (λ n. JudgedSo c.args.layout.now c.args.place c.args.clauses.now (c.loop-clause.clause-index + 1) n c.args.run c.match-clause.here) (sym w.number-is)
          (subst (λ h. JudgedSo c.args.layout.now c.args.place c.args.clauses.now (c.loop-clause.clause-index + 1) c.loop-clause.number c.args.run h) (sym w.here-is) (judged_past c.args.layout.now c.args.place c.args.clauses.now c.loop-clause.clause-index c.loop-clause.number c.args.run c.loop-clause.here c.loop-clause.invariant c.clause-item.result c.loop-clause-test.true c.clause-item.is w.in_default.not-Requires))
    ]
