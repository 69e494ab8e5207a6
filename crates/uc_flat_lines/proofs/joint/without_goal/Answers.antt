use Rattle.uc_symstep.specs.Known.{supply_from}
use Rattle.uc_symstep.proofs.Grown.{grows_on}
use Rattle.uc_symstep.proofs.Known.{known_grows}
use Rattle.uc_symstep.proofs.Runs.{both_there}
use Rattle.uc_obligations.proofs.Terms.{truth_is}
use Rattle.uc_flat_lines.proofs.Judged.{one_of, single_is}
use Rattle.uc_flat_lines.proofs.Gathering.{given_false, goal_missed, not_asked}
use Rattle.uc_flat_lines.proofs.joint.without_goal.Goals as goal

pub returns-then-formulas-k-ne1-clause-kept : goal.returns-then-formulas-k-ne1-clause-kept
returns-then-formulas-k-ne1-clause-kept c = λ m h. h

pub returns-then-formulas-k-ne1-clause-missed : goal.returns-then-formulas-k-ne1-clause-missed
returns-then-formulas-k-ne1-clause-missed c =
    not_asked c.args.f.now c.args.run.now.start c.args.steps c.args.k _ c.args.given _ (one_of c.args.f.now c.args.k c.index-formulas-k.result _ c.as_slice-formulas.ensures c.requires.there) c.if-formulas-k-ne1.true

pub returns-then-formulas-k-ne1-clause-known : goal.returns-then-formulas-k-ne1-clause-known
returns-then-formulas-k-ne1-clause-known c = λ reads h. h

pub goal-requires-clause-single : goal.goal-requires-clause-single
goal-requires-clause-single c = single_is c.args.f.now c.args.k _ (one_of c.args.f.now c.args.k c.index-formulas-k.result _ c.as_slice-formulas.ensures c.requires.there) c.if-formulas-k-ne1.false

pub negated-requires-clause-there : goal.negated-requires-clause-there
negated-requires-clause-there c = c.in_ok-own.ensures.truth.there

pub negated-requires-clause-boolean : goal.negated-requires-clause-boolean
negated-requires-clause-boolean c = c.in_ok-own.ensures.truth.typed

pub both-requires-clause-there : goal.both-requires-clause-there
both-requires-clause-there c = (both_there _ _ _ _ _ _ c.requires.given c.in_ok-own.ensures.grown c.in_ok-holds.ensures.ok).0

pub both-requires-clause-boolean : goal.both-requires-clause-boolean
both-requires-clause-boolean c = (both_there _ _ _ _ _ _ c.requires.given c.in_ok-own.ensures.grown c.in_ok-holds.ensures.ok).1

pub returns-clause-truth : goal.returns-clause-truth
returns-clause-truth c = truth_is _ _ _ _ c.in_ok-all.ensures.ok

pub returns-clause-kept : goal.returns-clause-kept
returns-clause-kept c = given_false _ _ _ c.args.given _ _ c.requires.given (grows_on _ _ _ c.in_ok-own.ensures.grown c.in_ok-holds.ensures.grown) c.in_ok-all.ensures.ok

pub returns-clause-missed : goal.returns-clause-missed
returns-clause-missed c = goal_missed c.args.f.now c.args.run.now.start c.args.steps c.args.k _ _ _ c.args.given _ _ _ c.in_ok-own.ensures.traces c.in_ok-holds.ensures.ok c.in_ok-all.ensures.ok

pub returns-clause-known : goal.returns-clause-known
returns-clause-known c = λ reads h.
    let supply = supply_from c.args.f.now c.args.run.now.start c.args.steps in
    c.in_ok-all.ensures.known supply (known_grows supply _ _ (grows_on _ _ _ c.in_ok-own.ensures.grown c.in_ok-holds.ensures.grown) _ h) (c.in_ok-holds.ensures.known supply (c.in_ok-own.ensures.known reads))

pub returns-in_err-holds-clause-grown : goal.returns-in_err-holds-clause-grown
returns-in_err-holds-clause-grown c = grows_on _ _ _ c.in_ok-own.ensures.grown c.in_err-holds.ensures.grown

pub returns-in_err-all-clause-grown : goal.returns-in_err-all-clause-grown
returns-in_err-all-clause-grown c = grows_on _ _ _ c.in_ok-own.ensures.grown (grows_on _ _ _ c.in_ok-holds.ensures.grown c.in_err-all.ensures.grown)

pub returns-clause-grown : goal.returns-clause-grown
returns-clause-grown c = grows_on _ _ _ c.in_ok-own.ensures.grown (grows_on _ _ _ c.in_ok-holds.ensures.grown c.in_ok-all.ensures.grown)
