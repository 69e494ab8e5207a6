use Rattle.std.proofs.Common.{◌++◌, ap, ◌∙◌, sym}
use Rattle.std.specs.Prelude.{replicate}
use Rattle.uc_syntax.specs.declared.declaration.Decl.TheVariants.{Variables}
use Rattle.uc_layout.specs.InstancesSymbols.{constants_typed}
use Rattle.uc_layout.proofs.Listed.{on_ok_as, each_typed}
use Rattle.uc_layout.proofs.instances_symbols.add_constants_in.Goals as goal

pub returns-in_ok-ty-in-Constant : goal.returns-in_ok-ty-in-Constant
returns-in_ok-ty-in-Constant c =
    on_ok_as c.add_copies.result
    (λ is. is ∙ ap (λ ys. c.args.types.now ++ ys)
    ((λ k. replicate (c.len.ensures k) (c.in_ok-ty-in-Constant.ensures k))
    ∙ each_typed c.args.tables.now c.args.code.now c.in-Variables.field-0 c.in-Variables.names c.in-Variables.ty
    ∙ sym (ap (λ kind. constants_typed c.args.tables.now c.args.code.now (Variables c.in-Variables.field-0 kind c.in-Variables.names c.in-Variables.ty)) c.in-Constant.is)
    ∙ sym (ap (constants_typed c.args.tables.now c.args.code.now) c.in-Variables.is)))
    c.add_copies.ensures
