use Rattle.std.proofs.Common.{subst}
use Rattle.std.specs.Bool.{Decides}
use Rattle.uc_meaning.specs.Cells.{FitAll}
use Rattle.uc_checks.proofs.walk.is_state.Goals as goal

pub returns : goal.returns
returns c =
    subst (λ ts. Decides c.fit_all.result (FitAll ts c.args.state.now.cells)) c.requires
    (subst (λ vs. Decides c.fit_all.result (FitAll c.args.walk.now.types.now vs)) c.as_slice.ensures c.fit_all.ensures)
