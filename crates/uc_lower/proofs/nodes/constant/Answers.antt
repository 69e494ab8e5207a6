use Rattle.std.proofs.Common.{◌∙◌, sym, subst}
use Rattle.uc_ops.specs.declared.op.Op.TheVariants.{Const}
use Rattle.uc_values.specs.declared.ty.Ty.TheVariants.{Bool, Bv}
use Rattle.uc_lower.specs.Made.{truth, bits}
use Rattle.uc_lower.specs.Steps.{IsReady, IsLowOf}
use Rattle.uc_lower.proofs.Chosen.{label_ready, constant_kept, constant_label}
use Rattle.uc_lower.proofs.nodes.constant.Goals as goal

pub made-requires-clause-suits : goal.made-requires-clause-suits
made-requires-clause-suits c =
    label_ready c.args.terms.now c.args.lowered.now c.args.t c.in-Enum.field-0 c.in-Enum.labels c.label_width-width.result c.from.result c.args.value.now c.requires.well
    (subst (λ ty. IsReady c.args.terms.now c.args.lowered.now c.args.t (Const ty c.args.value.now)) c.in-Enum.is c.requires.ready) c.label_width-width.ensures.width c.label_width-width.ensures.high (c.from.ensures ∙ c.label.ensures)

pub returns-in_ok-low-in-Enum-clause-low : goal.returns-in_ok-low-in-Enum-clause-low
returns-in_ok-low-in-Enum-clause-low c =
    subst (IsLowOf c.args.terms.now c.made.new.terms c.args.lowered.now c.args.t) (sym c.in_ok-low-in-Enum.ensures)
    (constant_label c.args.terms.now c.made.new.terms c.args.lowered.now c.args.t c.in_ok-bits-in-Enum.bits c.in-Enum.field-0 c.in-Enum.labels c.label_width-width.result c.from.result c.args.value.now c.requires.well
    (subst (λ ty. IsReady c.args.terms.now c.args.lowered.now c.args.t (Const ty c.args.value.now)) c.in-Enum.is c.requires.ready) c.label_width-width.ensures.width (c.from.ensures ∙ c.label.ensures) c.in_ok-bits-in-Enum.ensures.made)

pub returns-in_ok-low-in-Bool-clause-low : goal.returns-in_ok-low-in-Bool-clause-low
returns-in_ok-low-in-Bool-clause-low c =
    subst (IsLowOf c.args.terms.now c.args.terms.now c.args.lowered.now c.args.t) (sym c.in_ok-low-in-Bool.ensures)
    (constant_kept c.args.terms.now c.args.lowered.now c.args.t Bool c.args.value.now c.requires.well (subst (λ ty. IsReady c.args.terms.now c.args.lowered.now c.args.t (Const ty c.args.value.now)) c.in-Bool.is c.requires.ready) truth)

pub returns-in_ok-low-in-Bv-clause-low : goal.returns-in_ok-low-in-Bv-clause-low
returns-in_ok-low-in-Bv-clause-low c =
    subst (IsLowOf c.args.terms.now c.args.terms.now c.args.lowered.now c.args.t) (sym c.in_ok-low-in-Bv.ensures)
    (constant_kept c.args.terms.now c.args.lowered.now c.args.t (Bv c.in-Bv.field-0) c.args.value.now c.requires.well (subst (λ ty. IsReady c.args.terms.now c.args.lowered.now c.args.t (Const ty c.args.value.now)) c.in-Bv.is c.requires.ready) (bits c.in-Bv.field-0))
