use Rattle.std.proofs.Common.{ap, ◌∙◌, sym, subst}
use Rattle.std.specs.Bool.{Decides}
use Rattle.uc_meaning.specs.Cells.{IsInterpretation}
use Rattle.uc_layout.specs.Fits.{all_fit, tables_fit}
use Rattle.uc_layout.proofs.Fits.{no_constants, interpretation}
use Rattle.uc_layout.proofs.interpretation.is_interpretation.Goals as goal

pub returns-then-not-all_fit : goal.returns-then-not-all_fit
returns-then-not-all_fit c =
    no_constants c.args.tables.now c.args.interp.now c.as_slice.result.now (c.as_slice.ensures ∙ c.in_ok-constants.ensures)
    (sym (c.if-not-all_fit.ensures ∙ ap (all_fit c.as_slice.result.now) c.as_slice-2.ensures))

pub returns : goal.returns
returns c =
    subst (λ b. Decides b (IsInterpretation c.args.tables.now c.args.interp.now))
    (sym (c.tables_fit.ensures ∙ ap (tables_fit c.as_slice-3.result.now) c.as_slice-4.ensures))
    (interpretation c.args.tables.now c.args.interp.now c.as_slice.result.now (c.as_slice.ensures ∙ c.in_ok-constants.ensures)
    (sym (c.if-not-all_fit.ensures ∙ ap (all_fit c.as_slice.result.now) c.as_slice-2.ensures))
    c.as_slice-3.result.now (c.as_slice-3.ensures ∙ c.in_ok-functions.ensures))
