use Rattle.std.proofs.Common.{◌∙◌, sym, ap, Some, subst}
use Rattle.uc_ops.specs.declared.op.Op.TheVariants.{And, Or}
use Rattle.uc_simplify_steps.specs.Junctions.{IsJunction}
use Rattle.uc_simplify_steps.proofs.Applied.{applied}
use Rattle.uc_simplify_steps.proofs.gathering.inner.Goals as goal

pub returns-in-true-And : goal.returns-in-true-And
returns-in-true-And c =
    subst (λ b. IsJunction c.args.terms.now b c.args.t c.parts-parts.result.now) (sym c.in-true-And.is-0)
    (applied c.args.terms.now c.args.t And c.parts-parts.result.now c.op.ensures.well c.requires (c.op.ensures.op ∙ ap Some c.in-true-And.is-1) c.parts-parts.ensures.parts)

pub returns-in-false-Or : goal.returns-in-false-Or
returns-in-false-Or c =
    subst (λ b. IsJunction c.args.terms.now b c.args.t c.parts-parts.result.now) (sym c.in-false-Or.is-0)
    (applied c.args.terms.now c.args.t Or c.parts-parts.result.now c.op.ensures.well c.requires (c.op.ensures.op ∙ ap Some c.in-false-Or.is-1) c.parts-parts.ensures.parts)
