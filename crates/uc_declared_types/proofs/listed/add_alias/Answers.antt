use Rattle.uc_declared_types.proofs.Listing.{kept_push, kept_same, no_alias_declared, there_push}
use Rattle.uc_declared_types.proofs.listed.add_alias.Goals as goal

pub returns-in_ok-push-in-TypeAlias-clause-kept : goal.returns-in_ok-push-in-TypeAlias-clause-kept
returns-in_ok-push-in-TypeAlias-clause-kept c = kept_push _ _ c.args.declared c.in_ok-push-in-TypeAlias.ensures.ok

pub returns-in_ok-push-in-TypeAlias-clause-there : goal.returns-in_ok-push-in-TypeAlias-clause-there
returns-in_ok-push-in-TypeAlias-clause-there c = λ h. there_push _ _ c.args.declared c.in_ok-push-in-TypeAlias.ensures.ok

pub returns-in_default : goal.returns-in_default
returns-in_default c = record { kept = kept_same c.args.listed.now; there = λ h. no_alias_declared c.args.declaration.now (λ place i t e. c.in_default.not-TypeAlias place i t e) h }
