use Rattle.std.proofs.Common.{subst, sym}
use Rattle.std.specs.Prelude.{IfErr}
use Rattle.std.proofs.lemmas.Result.{err_from_is_err_and}
use Rattle.uc_symstep.specs.Known.{supply_from}
use Rattle.uc_obligations.proofs.Unrollings.{unrolled_grows}
use Rattle.uc_obligations.specs.Goals.{IsTold}
use Rattle.uc_flat_lines.specs.Deciding.{IsSolution, IsHonestAfter, IsOpenedAfter}
use Rattle.uc_flat_lines.proofs.Outcomes.{none_all, one_all, honest_after, opened_after, never_untold}
use Rattle.uc_flat_lines.proofs.deciding.refutation.Goals as goal

pub solution-requires-clause-there : goal.solution-requires-clause-there
solution-requires-clause-there g c = c.in_ok-goal.ensures.truth.there

pub solution-requires-clause-boolean : goal.solution-requires-clause-boolean
solution-requires-clause-boolean g c = c.in_ok-goal.ensures.truth.typed

pub solution-requires-clause-known : goal.solution-requires-clause-known
solution-requires-clause-known g c = (supply_from c.args.f.now c.args.run.now.start c.args.steps, c.in_ok-goal.ensures.known c.requires.own)

pub build-requires-clause-unrolled : goal.build-requires-clause-unrolled
build-requires-clause-unrolled g c = unrolled_grows c.args.f.now _ _ c.args.steps c.args.run.now c.in_ok-goal.ensures.grown c.requires.unrolled

pub build-requires-clause-there : goal.build-requires-clause-there
build-requires-clause-there g c = c.in_ok-goal.ensures.truth.there

pub returns-in-None-clause-outcome : goal.returns-in-None-clause-outcome
returns-in-None-clause-outcome g c =
    none_all c.args.f.now c.args.run.now.start c.args.k c.args.steps _ _ c.in_ok-goal.ensures.traces
    (subst (IsSolution c.goal.new.terms c.in_ok-goal.goal) c.in-None.is c.in_ok-solution.ensures.solution)

pub unreachable-requires : goal.unreachable-requires
unreachable-requires g c =
    never_untold c.args.f.now c.args.run.now.start c.args.steps _ c.in_ok-goal.goal c.in-Some.model
    (subst (IsSolution c.goal.new.terms c.in_ok-goal.goal) c.in-Some.is c.in_ok-solution.ensures.solution) (c.in_ok-goal.ensures.known c.requires.own) c.requires.valid
    (subst (IsTold c.args.f.now c.args.run.now.start c.args.steps c.goal.new.terms c.in_ok-goal.goal c.in-Some.model) c.in-None-2.is c.in_ok-trace-in-Some.ensures.told)

pub returns-in-Some-2-clause-outcome : goal.returns-in-Some-2-clause-outcome
returns-in-Some-2-clause-outcome g c =
    one_all c.args.f.now c.args.run.now.start c.args.k c.args.steps _ _ c.in-Some-2.trace c.requires.single c.in_ok-goal.ensures.goal
    (subst (IsTold c.args.f.now c.args.run.now.start c.args.steps c.goal.new.terms c.in_ok-goal.goal c.in-Some.model) c.in-Some-2.is c.in_ok-trace-in-Some.ensures.told)

pub returns-in_err-solution-clause-honest : goal.returns-in_err-solution-clause-honest
returns-in_err-solution-clause-honest g c =
    let p = err_from_is_err_and c.from_residual-in_err-solution.result c.from_residual-in_err-solution.ensures.1 in
    let own = honest_after c.args.f.now c.args.run.now.start c.args.budget c.args.steps _ _ c.in_err-solution.field-0.0 (c.in_ok-goal.ensures.known c.requires.own) c.in_err-solution.ensures.honest in
    let why = IsHonestAfter c.args.f.now c.args.run.now.start c.args.budget c.args.steps in
    subst (λ r. IfErr r why) (sym p.1) (subst why (sym p.2) own)

pub returns-in_err-solution-clause-opened : goal.returns-in_err-solution-clause-opened
returns-in_err-solution-clause-opened g c =
    let p = err_from_is_err_and c.from_residual-in_err-solution.result c.from_residual-in_err-solution.ensures.1 in
    let why = IsOpenedAfter c.args.f.now c.args.run.now.start c.args.k c.args.steps (g.M.Meter.opened c.solution.new.meter) (g.M.Meter.here c.solution.new.meter) c.args.budget in
    let own = opened_after c.args.f.now c.args.run.now.start c.args.k c.args.steps _ c.in_ok-goal.goal _ _ c.args.budget c.in_err-solution.field-0.0 c.in_ok-goal.ensures.goal c.in_err-solution.ensures.opened in
    subst (λ r. IfErr r why) (sym p.1) (subst why (sym p.2) own)
