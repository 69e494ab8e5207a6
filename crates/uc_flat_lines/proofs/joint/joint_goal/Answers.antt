use Rattle.uc_symstep.specs.Known.{supply_from}
use Rattle.uc_symstep.proofs.Grown.{grows_on}
use Rattle.uc_obligations.proofs.Terms.{truth_is}
use Rattle.uc_obligations.proofs.Unrollings.{unrolled_grows}
use Rattle.uc_flat_lines.proofs.Gathering.{all_hit}
use Rattle.uc_flat_lines.proofs.joint.joint_goal.Goals as goal

pub without_goals-requires-clause-unrolled : goal.without_goals-requires-clause-unrolled
without_goals-requires-clause-unrolled c = unrolled_grows c.args.f.now _ _ c.args.steps c.args.run.now c.in_ok-all.ensures.grown c.requires.unrolled

pub without_goals-requires-clause-given : goal.without_goals-requires-clause-given
without_goals-requires-clause-given c = truth_is _ _ _ _ c.in_ok-all.ensures.ok

pub negated-requires-clause-there : goal.negated-requires-clause-there
negated-requires-clause-there c = c.in_ok-none.ensures.truth.there

pub negated-requires-clause-boolean : goal.negated-requires-clause-boolean
negated-requires-clause-boolean c = c.in_ok-none.ensures.truth.typed

pub returns-clause-truth : goal.returns-clause-truth
returns-clause-truth c = truth_is _ _ _ _ c.in_ok-any.ensures.ok

pub returns-clause-hit : goal.returns-clause-hit
returns-clause-hit c = all_hit c.args.f.now c.args.run.now.start c.args.steps _ _ _ _ c.in_ok-none.ensures.missed c.in_ok-any.ensures.ok

pub returns-clause-known : goal.returns-clause-known
returns-clause-known c = λ reads.
    let supply = supply_from c.args.f.now c.args.run.now.start c.args.steps in
    c.in_ok-any.ensures.known supply (c.in_ok-none.ensures.known reads (c.in_ok-all.ensures.known supply))

pub returns-in_err-none-clause-grown : goal.returns-in_err-none-clause-grown
returns-in_err-none-clause-grown c = grows_on _ _ _ c.in_ok-all.ensures.grown c.in_err-none.ensures.grown

pub returns-in_err-any-clause-grown : goal.returns-in_err-any-clause-grown
returns-in_err-any-clause-grown c = grows_on _ _ _ c.in_ok-all.ensures.grown (grows_on _ _ _ c.in_ok-none.ensures.grown c.in_err-any.ensures.grown)

pub returns-clause-grown : goal.returns-clause-grown
returns-clause-grown c = grows_on _ _ _ c.in_ok-all.ensures.grown (grows_on _ _ _ c.in_ok-none.ensures.grown c.in_ok-any.ensures.grown)
