use Rattle.std.proofs.Common.{◌≡◌, Some, subst}
use Rattle.std.specs.Prelude.{IfSome}
use Rattle.uc_simplify_steps.specs.declared.step.Step.TheVariants.{Other}
use Rattle.uc_simplify_steps.specs.Steps.{Replaces, IsRight}
use Rattle.uc_simplify_steps.proofs.Steps.{Replaces-itself, after_call}
use Rattle.uc_simplify_steps.proofs.settling.+settled.Goals as goal

pub returns-then-steps-eq0 : goal.returns-then-steps-eq0
returns-then-steps-eq0 t c = Replaces-itself c.args.terms.now c.args.op c.args.parts c.requires.there c.requires.suits

pub returns-in-Some-Other : goal.returns-in-Some-Other
returns-in-Some-Other t c =
    let e : c.in_ok-next.field-0 ≡ Some (Other c.in-Some-Other.next c.in-Some-Other.own) = cc in
    let right = subst (λ o. IfSome o (IsRight c.args.terms.now c.args.op c.as_slice.result.now)) e c.in_ok-next.ensures in
    after_call c.args.terms.now c.settled.result c.in-Some-Other.next c.args.op c.in-Some-Other.own c.args.parts c.settled.ensures (subst (Replaces c.args.terms.now c.in-Some-Other.next c.in-Some-Other.own c.args.op) c.as_slice.ensures right)

pub returns : goal.returns
returns t c = Replaces-itself c.args.terms.now c.args.op c.args.parts c.requires.there c.requires.suits
