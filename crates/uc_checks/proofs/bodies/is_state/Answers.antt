use Rattle.std.proofs.Common.{map, ap, ◌∙◌, subst}
use Rattle.std.specs.Bool.{Decides}
use Rattle.uc_meaning.specs.Cells.{FitAll, cells_of}
use Rattle.uc_checks.proofs.bodies.is_state.Goals as goal

pub returns : goal.returns
returns c =
    subst (λ ts. Decides c.fit_all.result (FitAll ts c.args.state.now.cells)) (c.as_slice.ensures ∙ c.in_ok-types.ensures ∙ ap (λ s. map (λ d. d.type) (cells_of s)) c.tables.ensures)
    (subst (λ vs. Decides c.fit_all.result (FitAll c.as_slice.result.now vs)) c.as_slice-2.ensures c.fit_all.ensures)
