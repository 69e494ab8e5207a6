use Rattle.std.proofs.Common.{◌≡◌, ◌∙◌, sym, ap, ◌+◌, rules}
use Rattle.uc_ops.specs.declared.op.Op.TheVariants.{Extract, ZeroExt, SignExt}
use Rattle.uc_simplify_steps.proofs.Combined.{cut_found, zeros_found, signs_found}
use Rattle.uc_simplify_steps.proofs.extracts.cut.Goals as goal

pub returns-in_ok-low-in-Extract : goal.returns-in_ok-low-in-Extract
returns-in_ok-low-in-Extract c =
    let top : c.in_ok-top-in-Extract.top ≡ c.args.high + c.in-Extract.bottom = search rules in
    let low : c.in_ok-low-in-Extract.low ≡ c.args.low + c.in-Extract.bottom = search rules in
    cut_found c.args.width c.args.high c.args.low c.in-Extract.field-0 c.in-Extract.bottom c.in_ok-top-in-Extract.top c.in_ok-low-in-Extract.low c.args.inner.now c.in-Extract.is top low

pub returns-in-ZeroExt : goal.returns-in-ZeroExt
returns-in-ZeroExt c = zeros_found c.args.width c.args.high c.args.low c.in-ZeroExt.field-0 c.args.inner.now c.within.result c.in-ZeroExt.is c.within.ensures

pub returns-in-SignExt : goal.returns-in-SignExt
returns-in-SignExt c = signs_found c.args.width c.args.high c.args.low c.in-SignExt.field-0 c.args.inner.now c.within-in-SignExt.result c.in-SignExt.is c.within-in-SignExt.ensures
