use Rattle.std.proofs.Common.{Some, None, rules}
use Rattle.std.specs.Prelude.{Bool, Option}
use Rattle.uc_checks.specs.declared.walk.Beginning.TheVariants.{Initial}
use Rattle.uc_checks.specs.Refutations.{CopiesTell, AreWalked, EndTells}
use Rattle.uc_checks.proofs.Told.{none_decided, if_same, told_here, told_stop, told_next}
use Rattle.uc_checks.proofs.RefutingJudging.{walk_at, walked, not_walked, no_walk_after, after_to, after_from}
use Rattle.uc_checks.proofs.copies.fails_after.Goals as goal

pub returns-in_err-listed-clause-wide : goal.returns-in_err-listed-clause-wide
returns-in_err-listed-clause-wide c =
    let told = told_here (CopiesTell Initial c.args.trial.now.layout.now c.args.trial.now.interp.now c.args.trial.now.line.now.arity c.args.trial.now.steps c.args.trial.now.copies.now) (AreWalked Initial c.args.trial.now.layout.now c.args.trial.now.interp.now c.args.trial.now.line.now.arity c.args.trial.now.steps c.args.trial.now.copies.now) (EndTells c.args.trial.now.layout.now c.args.trial.now.line.now c.args.trial.now.steps c.args.trial.now.interp.now c.args.trial.now.copies.now) (Option Bool) Bool c.in_err-listed.field-0.0 c.in_err-listed.ensures.wide in
    search (rules, told)

pub end_fails-requires : goal.end_fails-requires
end_fails-requires c = (walk_at Initial c.args.trial.now.layout.now c.args.trial.now.interp.now c.args.trial.now.line.now c.args.trial.now.steps c.args.trial.now.copies.now c.in_ok-listed.listed (Some c.in-Some.listed) c.in-Some.is c.in_ok-listed.ensures.value).1.1

pub returns-in-Some-clause-value : goal.returns-in-Some-clause-value
returns-in-Some-clause-value c =
    let walk = walk_at Initial c.args.trial.now.layout.now c.args.trial.now.interp.now c.args.trial.now.line.now c.args.trial.now.steps c.args.trial.now.copies.now c.in_ok-listed.listed (Some c.in-Some.listed) c.in-Some.is c.in_ok-listed.ensures.value in
    if_same c.end_fails.result (after_to c.args.trial.now.layout.now c.args.trial.now.line.now c.args.trial.now.steps c.args.trial.now.interp.now c.args.trial.now.copies.now c.in-Some.listed walk) (after_from c.args.trial.now.layout.now c.args.trial.now.line.now c.args.trial.now.steps c.args.trial.now.interp.now c.args.trial.now.copies.now) c.end_fails.ensures.value

pub returns-in-Some-clause-wide : goal.returns-in-Some-clause-wide
returns-in-Some-clause-wide c =
    let walk = walk_at Initial c.args.trial.now.layout.now c.args.trial.now.interp.now c.args.trial.now.line.now c.args.trial.now.steps c.args.trial.now.copies.now c.in_ok-listed.listed (Some c.in-Some.listed) c.in-Some.is c.in_ok-listed.ensures.value in
    told_next (CopiesTell Initial c.args.trial.now.layout.now c.args.trial.now.interp.now c.args.trial.now.line.now.arity c.args.trial.now.steps c.args.trial.now.copies.now) (AreWalked Initial c.args.trial.now.layout.now c.args.trial.now.interp.now c.args.trial.now.line.now.arity c.args.trial.now.steps c.args.trial.now.copies.now) (EndTells c.args.trial.now.layout.now c.args.trial.now.line.now c.args.trial.now.steps c.args.trial.now.interp.now c.args.trial.now.copies.now) c.end_fails.result c.in_ok-listed.ensures.wide (walked Initial c.args.trial.now.layout.now c.args.trial.now.line.now c.args.trial.now.steps c.args.trial.now.interp.now c.args.trial.now.copies.now c.in-Some.listed walk) c.end_fails.ensures.wide

pub returns-in-None-clause-value : goal.returns-in-None-clause-value
returns-in-None-clause-value c =
    none_decided (no_walk_after c.args.trial.now.layout.now c.args.trial.now.line.now c.args.trial.now.steps c.args.trial.now.interp.now c.args.trial.now.copies.now (walk_at Initial c.args.trial.now.layout.now c.args.trial.now.interp.now c.args.trial.now.line.now c.args.trial.now.steps c.args.trial.now.copies.now c.in_ok-listed.listed None c.in-None.is c.in_ok-listed.ensures.value))

pub returns-in-None-clause-wide : goal.returns-in-None-clause-wide
returns-in-None-clause-wide c =
    told_stop (CopiesTell Initial c.args.trial.now.layout.now c.args.trial.now.interp.now c.args.trial.now.line.now.arity c.args.trial.now.steps c.args.trial.now.copies.now) (AreWalked Initial c.args.trial.now.layout.now c.args.trial.now.interp.now c.args.trial.now.line.now.arity c.args.trial.now.steps c.args.trial.now.copies.now) (EndTells c.args.trial.now.layout.now c.args.trial.now.line.now c.args.trial.now.steps c.args.trial.now.interp.now c.args.trial.now.copies.now) c.in_ok-listed.ensures.wide
    (not_walked Initial c.args.trial.now.layout.now c.args.trial.now.line.now c.args.trial.now.steps c.args.trial.now.interp.now c.args.trial.now.copies.now (walk_at Initial c.args.trial.now.layout.now c.args.trial.now.interp.now c.args.trial.now.line.now c.args.trial.now.steps c.args.trial.now.copies.now c.in_ok-listed.listed None c.in-None.is c.in_ok-listed.ensures.value))
