use Rattle.std.proofs.Common.{ap, sym, subst, ◌∙◌}
use Rattle.uc_uses.specs.Inputs.{KnowsInputs}
use Rattle.uc_uses.specs.Sources.{bound_below}
use Rattle.uc_uses.specs.declared.uses.UseKind.TheVariants.{Input}
use Rattle.uc_uses.proofs.Entered.{enters_by}
use Rattle.uc_uses.proofs.Firsts.{bound_is}
use Rattle.uc_uses.proofs.table.input_uses.Goals as goal

pub returns-in_ok-table-in-Some : goal.returns-in_ok-table-in-Some
returns-in_ok-table-in-Some c =
    enters_by Input c.args.number c.args.uses.now _ _ c.in_ok-table-in-Some.table c.bound_uses.new.uses
    (λ x.
    bound_is c.args.node.code.now.decls c.in_ok-inputs-in-Some.inputs (subst (λ ds. KnowsInputs ds c.in_ok-inputs-in-Some.inputs) c.as_slice.ensures c.in_ok-inputs-in-Some.ensures) c.in-Some.step.node x c.args.node.bindings.now
    ∙ sym (ap (bound_below c.args.node x) c.in-Some.is))
    c.in_ok-table-in-Some.ensures
