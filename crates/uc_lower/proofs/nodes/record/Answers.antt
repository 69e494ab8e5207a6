use Rattle.std.proofs.Common.{◌∙◌, sym, ap, subst}
use Rattle.uc_lower.specs.Steps.{IsLowOf, joined_lows}
use Rattle.uc_lower.proofs.Inner.{record_low}
use Rattle.uc_lower.proofs.nodes.record.Goals as goal

pub returns : goal.returns
returns c =
    subst (IsLowOf c.args.terms.now c.args.terms.now c.args.lowered.now c.args.t) (sym (c.in_ok-low.ensures ∙ ap (joined_lows c.args.lowered.now) c.parts.ensures.parts))
    (record_low c.args.terms.now c.args.lowered.now c.args.t c.args.ty.now c.requires.well c.requires.ready)
