use Rattle.std.proofs.Common.{map, ap, ◌∙◌, subst}
use Rattle.std.specs.Bool.{Decides}
use Rattle.uc_meaning.specs.Types.{type_of_written}
use Rattle.uc_meaning.specs.Cells.{FitAll}
use Rattle.uc_checks.proofs.bodies.fit_parameters.Goals as goal

pub returns : goal.returns
returns c =
    subst (λ ts. Decides c.fit_all.result (FitAll ts c.args.arguments.now))
    (c.as_slice.ensures ∙ c.in_ok-types.ensures ∙ ap (λ s. map (λ q. type_of_written s c.args.code.now q.ty) c.as_slice-parameters.result.now) c.tables.ensures
    ∙ ap (map (λ q. type_of_written c.args.layout.now c.args.code.now q.ty)) c.as_slice-parameters.ensures) c.fit_all.ensures
