use Rattle.std.proofs.Common.{Some, None, rules}
use Rattle.std.specs.Prelude.{Bool, Option}
use Rattle.uc_checks.specs.declared.walk.Beginning.TheVariants.{Anywhere}
use Rattle.uc_checks.proofs.Told.{refused, none_decided, if_same}
use Rattle.uc_checks.proofs.RefutingJudging.{walk_at, walked, not_walked, no_walk_induction, no_invariants, no_hyperinvariants, induction_to, induction_from}
use Rattle.uc_checks.proofs.Inducing.{walk_told, walk_stops, invariants_told, invariants_stop, hyperinvariants_told, hyperinvariants_stop, end_told}
use Rattle.uc_checks.proofs.copies.fails_induction.Goals as goal

pub returns-in_err-listed-clause-wide : goal.returns-in_err-listed-clause-wide
returns-in_err-listed-clause-wide c =
    let told = walk_told c.args.trial.now.layout.now c.args.trial.now.line.now c.args.trial.now.steps c.args.trial.now.interp.now c.args.trial.now.copies.now (Option Bool) c.in_err-listed.field-0.0 c.in_err-listed.ensures.wide in
    search (rules, told)

pub returns-in_default-clause-value : goal.returns-in_default-clause-value
returns-in_default-clause-value c =
    let answer = walk_at Anywhere c.args.trial.now.layout.now c.args.trial.now.interp.now c.args.trial.now.line.now c.args.trial.now.steps c.args.trial.now.copies.now c.in_ok-listed.listed None c.in_default.is c.in_ok-listed.ensures.value in
    none_decided (no_walk_induction c.args.trial.now.layout.now c.args.trial.now.line.now c.args.trial.now.steps c.args.trial.now.interp.now c.args.trial.now.copies.now answer)

pub returns-in_default-clause-wide : goal.returns-in_default-clause-wide
returns-in_default-clause-wide c =
    let answer = walk_at Anywhere c.args.trial.now.layout.now c.args.trial.now.interp.now c.args.trial.now.line.now c.args.trial.now.steps c.args.trial.now.copies.now c.in_ok-listed.listed None c.in_default.is c.in_ok-listed.ensures.value in
    walk_stops c.args.trial.now.layout.now c.args.trial.now.line.now c.args.trial.now.steps c.args.trial.now.interp.now c.args.trial.now.copies.now c.in_ok-listed.ensures.wide
    (not_walked Anywhere c.args.trial.now.layout.now c.args.trial.now.line.now c.args.trial.now.steps c.args.trial.now.interp.now c.args.trial.now.copies.now answer)

pub returns-in_err-hold-clause-wide : goal.returns-in_err-hold-clause-wide
returns-in_err-hold-clause-wide c =
    let answer = walk_at Anywhere c.args.trial.now.layout.now c.args.trial.now.interp.now c.args.trial.now.line.now c.args.trial.now.steps c.args.trial.now.copies.now c.in_ok-listed.listed (Some c.in-Some.listed) c.in-Some.is c.in_ok-listed.ensures.value in
    let linked = walked Anywhere c.args.trial.now.layout.now c.args.trial.now.line.now c.args.trial.now.steps c.args.trial.now.interp.now c.args.trial.now.copies.now c.in-Some.listed answer in
    let told = invariants_told c.args.trial.now.layout.now c.args.trial.now.line.now c.args.trial.now.steps c.args.trial.now.interp.now c.args.trial.now.copies.now c.in_ok-listed.ensures.wide linked c.in_err-hold.field-0.0 c.in_err-hold.ensures.wide in
    search (rules, told)

pub returns-then-not-hold-clause-value : goal.returns-then-not-hold-clause-value
returns-then-not-hold-clause-value c =
    none_decided (no_invariants c.args.trial.now.layout.now c.args.trial.now.line.now c.args.trial.now.steps c.args.trial.now.interp.now c.args.trial.now.copies.now (refused c.in_ok-hold.hold c.in_ok-hold.ensures.value c.if-not-hold.true))

pub returns-then-not-hold-clause-wide : goal.returns-then-not-hold-clause-wide
returns-then-not-hold-clause-wide c =
    let answer = walk_at Anywhere c.args.trial.now.layout.now c.args.trial.now.interp.now c.args.trial.now.line.now c.args.trial.now.steps c.args.trial.now.copies.now c.in_ok-listed.listed (Some c.in-Some.listed) c.in-Some.is c.in_ok-listed.ensures.value in
    let linked = walked Anywhere c.args.trial.now.layout.now c.args.trial.now.line.now c.args.trial.now.steps c.args.trial.now.interp.now c.args.trial.now.copies.now c.in-Some.listed answer in
    invariants_stop c.args.trial.now.layout.now c.args.trial.now.line.now c.args.trial.now.steps c.args.trial.now.interp.now c.args.trial.now.copies.now c.in_ok-listed.ensures.wide linked c.in_ok-hold.ensures.wide
    (refused c.in_ok-hold.hold c.in_ok-hold.ensures.value c.if-not-hold.true)

pub returns-in_err-agree-clause-wide : goal.returns-in_err-agree-clause-wide
returns-in_err-agree-clause-wide c =
    let answer = walk_at Anywhere c.args.trial.now.layout.now c.args.trial.now.interp.now c.args.trial.now.line.now c.args.trial.now.steps c.args.trial.now.copies.now c.in_ok-listed.listed (Some c.in-Some.listed) c.in-Some.is c.in_ok-listed.ensures.value in
    let linked = walked Anywhere c.args.trial.now.layout.now c.args.trial.now.line.now c.args.trial.now.steps c.args.trial.now.interp.now c.args.trial.now.copies.now c.in-Some.listed answer in
    let told = hyperinvariants_told c.args.trial.now.layout.now c.args.trial.now.line.now c.args.trial.now.steps c.args.trial.now.interp.now c.args.trial.now.copies.now c.in_ok-listed.ensures.wide linked c.in_ok-hold.ensures.wide (c.in_ok-hold.ensures.value.0 c.if-not-hold.false) c.in_err-agree.field-0.0 c.in_err-agree.ensures.wide in
    search (rules, told)

pub returns-then-not-agree-clause-value : goal.returns-then-not-agree-clause-value
returns-then-not-agree-clause-value c =
    none_decided (no_hyperinvariants c.args.trial.now.layout.now c.args.trial.now.line.now c.args.trial.now.steps c.args.trial.now.interp.now c.args.trial.now.copies.now (refused c.in_ok-agree.agree c.in_ok-agree.ensures.value c.if-not-agree.true))

pub returns-then-not-agree-clause-wide : goal.returns-then-not-agree-clause-wide
returns-then-not-agree-clause-wide c =
    let answer = walk_at Anywhere c.args.trial.now.layout.now c.args.trial.now.interp.now c.args.trial.now.line.now c.args.trial.now.steps c.args.trial.now.copies.now c.in_ok-listed.listed (Some c.in-Some.listed) c.in-Some.is c.in_ok-listed.ensures.value in
    let linked = walked Anywhere c.args.trial.now.layout.now c.args.trial.now.line.now c.args.trial.now.steps c.args.trial.now.interp.now c.args.trial.now.copies.now c.in-Some.listed answer in
    hyperinvariants_stop c.args.trial.now.layout.now c.args.trial.now.line.now c.args.trial.now.steps c.args.trial.now.interp.now c.args.trial.now.copies.now c.in_ok-listed.ensures.wide linked c.in_ok-hold.ensures.wide (c.in_ok-hold.ensures.value.0 c.if-not-hold.false) c.in_ok-agree.ensures.wide
    (refused c.in_ok-agree.agree c.in_ok-agree.ensures.value c.if-not-agree.true)

pub end_fails-requires : goal.end_fails-requires
end_fails-requires c = (walk_at Anywhere c.args.trial.now.layout.now c.args.trial.now.interp.now c.args.trial.now.line.now c.args.trial.now.steps c.args.trial.now.copies.now c.in_ok-listed.listed (Some c.in-Some.listed) c.in-Some.is c.in_ok-listed.ensures.value).1.1

pub returns-clause-value : goal.returns-clause-value
returns-clause-value c =
    let answer = walk_at Anywhere c.args.trial.now.layout.now c.args.trial.now.interp.now c.args.trial.now.line.now c.args.trial.now.steps c.args.trial.now.copies.now c.in_ok-listed.listed (Some c.in-Some.listed) c.in-Some.is c.in_ok-listed.ensures.value in
    if_same c.end_fails.result
    (induction_to c.args.trial.now.layout.now c.args.trial.now.line.now c.args.trial.now.steps c.args.trial.now.interp.now c.args.trial.now.copies.now c.in-Some.listed answer (c.in_ok-hold.ensures.value.0 c.if-not-hold.false) (c.in_ok-agree.ensures.value.0 c.if-not-agree.false))
    (induction_from c.args.trial.now.layout.now c.args.trial.now.line.now c.args.trial.now.steps c.args.trial.now.interp.now c.args.trial.now.copies.now) c.end_fails.ensures.value

pub returns-clause-wide : goal.returns-clause-wide
returns-clause-wide c =
    let answer = walk_at Anywhere c.args.trial.now.layout.now c.args.trial.now.interp.now c.args.trial.now.line.now c.args.trial.now.steps c.args.trial.now.copies.now c.in_ok-listed.listed (Some c.in-Some.listed) c.in-Some.is c.in_ok-listed.ensures.value in
    let linked = walked Anywhere c.args.trial.now.layout.now c.args.trial.now.line.now c.args.trial.now.steps c.args.trial.now.interp.now c.args.trial.now.copies.now c.in-Some.listed answer in
    end_told c.args.trial.now.layout.now c.args.trial.now.line.now c.args.trial.now.steps c.args.trial.now.interp.now c.args.trial.now.copies.now c.in_ok-listed.ensures.wide linked c.in_ok-hold.ensures.wide (c.in_ok-hold.ensures.value.0 c.if-not-hold.false)
    c.end_fails.result c.in_ok-agree.ensures.wide (c.in_ok-agree.ensures.value.0 c.if-not-agree.false) c.end_fails.ensures.wide
