use Rattle.uc_checks.proofs.Told.{refused, none_decided, if_same}
use Rattle.uc_checks.proofs.Executed.{none_left}
use Rattle.uc_checks.proofs.bodies.is_entry.Goals as goal

pub returns-then-not-fits : goal.returns-then-not-fits
returns-then-not-fits c = none_decided (λ h. refused c.in_ok-fits.fits c.in_ok-fits.ensures c.if-not-fits.true h.state)

pub returns : goal.returns
returns c =
    if_same c.fit_parameters.result
    (λ fit. record { no_choices = none_left c.args.entry.now.1 c.is_empty-free.result c.is_empty-free.ensures c.if-not-free.false; state = c.in_ok-fits.ensures.0 c.if-not-fits.false; fit = fit })
    (λ h. h.fit) c.fit_parameters.ensures
