use Rattle.std.proofs.Common.{subst}
use Rattle.std.specs.Prelude.{IfOk}
use Rattle.uc_meaning.specs.Expressions.{meaning_of, name_meaning}
use Rattle.uc_readings.specs.Scopes.{scope_in}
use Rattle.uc_readings.specs.Readings.{reading_of}
use Rattle.uc_readings.specs.Sources.{IsKnown, StandsFor}
use Rattle.uc_readings.proofs.Found.{known_value}
use Rattle.uc_readings.proofs.meant.meaning.Goals as goal

pub returns-in_ok-said-in-Some : goal.returns-in_ok-said-in-Some
unfolding meaning_of
returns-in_ok-said-in-Some c =
    subst (λ o. IsKnown (reading_of c.in_ok-said-in-Some.said) (name_meaning c.args.layout.now (scope_in c.args.scope.now) c.args.name c.args.is_primed o))
    c.in-Some.ensures
    (known_value (reading_of c.in_ok-said-in-Some.said) _ _ c.in_ok-said-in-Some.ensures)

pub returns-in-None : goal.returns-in-None
unfolding meaning_of
returns-in-None c =
    subst (λ o. IfOk c.global_meaning.result (λ m. StandsFor m (name_meaning c.args.layout.now (scope_in c.args.scope.now) c.args.name c.args.is_primed o)))
    c.in-None.ensures
    c.global_meaning.ensures
