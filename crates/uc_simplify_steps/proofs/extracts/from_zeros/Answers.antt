use Rattle.std.proofs.Common.{◌≡◌, ◌+◌, ◌-◌, arith, rules}
use Rattle.uc_values.specs.declared.ty.Ty.TheVariants.{Bv}
use Rattle.uc_ops.specs.Typing.{type_at}
use Rattle.uc_simplify_steps.proofs.Singles.{zeros_right}
use Rattle.uc_simplify_steps.proofs.extracts.from_zeros.Goals as goal

pub returns : goal.returns
returns c =
    let typed : type_at c.args.terms.now c.in-Some-ZeroExt-default.part ≡ Bv c.in-Bv.width = search rules in
    let count : c.in_ok-count.count ≡ c.args.high - c.args.low + 1 = search rules in
    zeros_right c.args.terms.now c.args.a c.in-Some-ZeroExt-default.part c.in-Bv.width c.args.high c.args.low c.in-Some-ZeroExt-default.field-0-0-0 c.in_ok-count.count c.in-Some-ZeroExt-default.field-0-0.now c.zero.result c.len-count.ensures.well c.requires.there
    c.in-Some-ZeroExt-default.field-0-0-is c.in-Some-ZeroExt-default.ensures.applied c.in-Some-ZeroExt-default.ensures.there typed (omega arith) c.requires.suits count c.zero.ensures
