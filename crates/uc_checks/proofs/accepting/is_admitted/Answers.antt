use Rattle.std.proofs.Common.{subst}
use Rattle.std.specs.Bool.{Decides}
use Rattle.uc_meaning.specs.Cells.{IsInterpretation}
use Rattle.uc_executions.specs.Formulas.{axioms_asked}
use Rattle.uc_checks.specs.Tellings.{Of}
use Rattle.uc_checks.proofs.Told.{refused, none_decided, if_same, of_met, where_none, where_told}
use Rattle.uc_checks.proofs.accepting.is_admitted.Goals as goal

pub returns-then-not-fits-clause-value : goal.returns-then-not-fits-clause-value
returns-then-not-fits-clause-value c =
    none_decided (λ a. refused c.in_ok-fits.fits (subst (λ s. Decides c.in_ok-fits.fits (IsInterpretation s c.args.interp.now)) c.tables.ensures c.in_ok-fits.ensures) c.if-not-fits.true a.fits)

pub returns-then-not-fits-clause-wide : goal.returns-then-not-fits-clause-wide
returns-then-not-fits-clause-wide c =
    where_none (IsInterpretation c.args.layout.now c.args.interp.now) (Of (axioms_asked c.args.layout.now c.args.interp.now).met)
    (refused c.in_ok-fits.fits (subst (λ s. Decides c.in_ok-fits.fits (IsInterpretation s c.args.interp.now)) c.tables.ensures c.in_ok-fits.ensures) c.if-not-fits.true)

pub returns-clause-value : goal.returns-clause-value
returns-clause-value c =
    let fits = subst (λ s. Decides c.in_ok-fits.fits (IsInterpretation s c.args.interp.now)) c.tables.ensures c.in_ok-fits.ensures in
    if_same c.axioms_hold.result (λ axioms. record { fits = fits.0 c.if-not-fits.false; axioms = axioms }) (λ a. a.axioms) c.axioms_hold.ensures.value

pub returns-clause-wide : goal.returns-clause-wide
returns-clause-wide c =
    let fits = subst (λ s. Decides c.in_ok-fits.fits (IsInterpretation s c.args.interp.now)) c.tables.ensures c.in_ok-fits.ensures in
    where_told (IsInterpretation c.args.layout.now c.args.interp.now) (Of (axioms_asked c.args.layout.now c.args.interp.now).met) c.axioms_hold.result (fits.0 c.if-not-fits.false)
    (of_met (axioms_asked c.args.layout.now c.args.interp.now).met c.axioms_hold.result c.axioms_hold.ensures.wide)
