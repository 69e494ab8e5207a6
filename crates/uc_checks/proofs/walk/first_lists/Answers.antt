use Rattle.std.proofs.Common.{refl, rules}
use Rattle.std.specs.Prelude.{Bool, Option, List}
use Rattle.std.specs.Option.{option_copied}
use Rattle.uc_meaning.specs.declared.scope.Site.{Site}
use Rattle.uc_meaning.specs.Cells.{IsState}
use Rattle.uc_checks.specs.Walks.{Begins, BeginTells}
use Rattle.uc_checks.proofs.Told.{refused, where_none, where_err}
use Rattle.uc_checks.proofs.Walking.{answered, fits_none}
use Rattle.uc_checks.proofs.walk.first_lists.Goals as goal

pub returns-then-not-fits-clause-value : goal.returns-then-not-fits-clause-value
returns-then-not-fits-clause-value c =
    fits_none (IsState c.args.walk.now.layout.now c.args.first.now.0) (Begins c.args.walk.now.beginning c.args.walk.now.layout.now c.args.walk.now.interp.now c.args.first.now)
    (refused c.is_state-fits.result c.is_state-fits.ensures c.if-not-fits.true)

pub returns-then-not-fits-clause-wide : goal.returns-then-not-fits-clause-wide
returns-then-not-fits-clause-wide c =
    where_none (IsState c.args.walk.now.layout.now c.args.first.now.0) (BeginTells c.args.walk.now.beginning c.args.walk.now.layout.now c.args.walk.now.interp.now c.args.first.now)
    (refused c.is_state-fits.result c.is_state-fits.ensures c.if-not-fits.true)

pub returns-in_err-sites-clause-wide : goal.returns-in_err-sites-clause-wide
returns-in_err-sites-clause-wide c =
    let told = where_err (Option (List Site)) (Option Bool) (IsState c.args.walk.now.layout.now c.args.first.now.0) (BeginTells c.args.walk.now.beginning c.args.walk.now.layout.now c.args.walk.now.interp.now c.args.first.now) c.in_err-sites.field-0.0 (c.is_state-fits.ensures.0 c.if-not-fits.false) c.in_err-sites.ensures.wide in
    search (rules, told)

pub returns-clause-value : goal.returns-clause-value
returns-clause-value c =
    answered (IsState c.args.walk.now.layout.now c.args.first.now.0) (Begins c.args.walk.now.beginning c.args.walk.now.layout.now c.args.walk.now.interp.now c.args.first.now) (option_copied c.args.walk.now.site)
    c.in_ok-sites.sites c.listed_in.result (c.is_state-fits.ensures.0 c.if-not-fits.false) c.in_ok-sites.ensures.value c.listed_in.ensures

pub returns-clause-wide : goal.returns-clause-wide
returns-clause-wide c = (refl, λ state. c.in_ok-sites.ensures.wide)
