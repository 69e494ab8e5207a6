use Rattle.std.proofs.Common.{subst, rules}
use Rattle.std.specs.Prelude.{Bool, Option}
use Rattle.std.specs.Option.{option_copied}
use Rattle.uc_meaning.specs.Cells.{IsState}
use Rattle.uc_meaning.specs.Steps.{IsStep}
use Rattle.uc_checks.specs.Answers.{IsAnswer}
use Rattle.uc_checks.proofs.Walking.{walk_begin, walk_end, walk_end_told, walk_no, walk_no_told, walk_told, walk_more}
use Rattle.uc_checks.proofs.walk.steps_list.Goals as goal

pub loop-next-init : goal.loop-next-init
loop-next-init c = walk_begin c.args.walk.now.layout.now c.args.walk.now.interp.now (option_copied c.args.walk.now.site) c.args.state.now c.args.listed c.args.rest.now

pub returns-in_err-listed-clause-wide : goal.returns-in_err-listed-clause-wide
returns-in_err-listed-clause-wide c =
    let told = walk_told c.args.walk.now.layout.now c.args.walk.now.interp.now (option_copied c.args.walk.now.site) c.args.state.now c.args.listed c.args.rest.now c.loop-next.old.now c.loop-next.last c.loop-next.next-index c.loop-next.invariant c.next-item.result c.next-item.result c.loop-next-test.true c.next-item.is (Option Bool) (Option Bool) c.in_err-listed.field-0.0 c.in_err-listed.ensures.wide in
    search (rules, told)

pub returns-in-None-clause-value : goal.returns-in-None-clause-value
returns-in-None-clause-value c =
    walk_no c.args.walk.now.layout.now c.args.walk.now.interp.now (option_copied c.args.walk.now.site) c.args.state.now c.args.listed c.args.rest.now c.loop-next.old.now c.loop-next.last c.loop-next.next-index c.loop-next.invariant c.next-item.result c.next-item.result c.loop-next-test.true c.next-item.is
    (subst (IsAnswer (λ sites. IsState c.args.walk.now.layout.now c.next-item.result.0 × IsStep c.args.walk.now.layout.now c.args.walk.now.interp.now c.loop-next.old.now c.next-item.result.0 c.next-item.result.1 sites) (option_copied c.args.walk.now.site)) c.in-None.is c.in_ok-listed.ensures.value)

pub returns-in-None-clause-wide : goal.returns-in-None-clause-wide
returns-in-None-clause-wide c =
    walk_no_told c.args.walk.now.layout.now c.args.walk.now.interp.now (option_copied c.args.walk.now.site) c.args.state.now c.args.listed c.args.rest.now c.loop-next.old.now c.loop-next.last c.loop-next.next-index c.loop-next.invariant c.next-item.result c.next-item.result c.loop-next-test.true c.next-item.is c.in_ok-listed.ensures.wide
    (subst (IsAnswer (λ sites. IsState c.args.walk.now.layout.now c.next-item.result.0 × IsStep c.args.walk.now.layout.now c.args.walk.now.interp.now c.loop-next.old.now c.next-item.result.0 c.next-item.result.1 sites) (option_copied c.args.walk.now.site)) c.in-None.is c.in_ok-listed.ensures.value)

pub loop-next-preserved : goal.loop-next-preserved
loop-next-preserved c =
    walk_more c.args.walk.now.layout.now c.args.walk.now.interp.now (option_copied c.args.walk.now.site) c.args.state.now c.args.listed c.args.rest.now c.loop-next.old.now c.loop-next.last c.loop-next.next-index c.loop-next.invariant c.next-item.result c.next-item.result c.loop-next-test.true c.next-item.is c.in-Some.listed
    (subst (IsAnswer (λ sites. IsState c.args.walk.now.layout.now c.next-item.result.0 × IsStep c.args.walk.now.layout.now c.args.walk.now.interp.now c.loop-next.old.now c.next-item.result.0 c.next-item.result.1 sites) (option_copied c.args.walk.now.site)) c.in-Some.is c.in_ok-listed.ensures.value)
    c.in_ok-listed.ensures.wide

pub returns-clause-value : goal.returns-clause-value
returns-clause-value c = walk_end c.args.walk.now.layout.now c.args.walk.now.interp.now (option_copied c.args.walk.now.site) c.args.state.now c.args.listed c.args.rest.now c.loop-next.old.now c.loop-next.last c.loop-next.next-index c.loop-next.invariant c.loop-next-test.false

pub returns-clause-wide : goal.returns-clause-wide
returns-clause-wide c = walk_end_told c.args.walk.now.layout.now c.args.walk.now.interp.now (option_copied c.args.walk.now.site) c.args.state.now c.args.listed c.args.rest.now c.loop-next.old.now c.loop-next.last c.loop-next.next-index c.loop-next.invariant c.loop-next-test.false
