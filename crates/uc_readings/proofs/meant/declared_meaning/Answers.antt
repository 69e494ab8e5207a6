use Rattle.std.proofs.Common.{ap, ◌∙◌, subst}
use Rattle.std.specs.Prelude.{IfOk}
use Rattle.uc_meaning.specs.Lookup.{first_some, variable_in}
use Rattle.uc_meaning.specs.Expressions.{declared_meaning}
use Rattle.uc_readings.specs.Scopes.{scope_in}
use Rattle.uc_readings.specs.Sources.{StandsFor}
use Rattle.uc_readings.proofs.meant.declared_meaning.Goals as goal

pub returns-in-Some : goal.returns-in-Some
returns-in-Some c =
    subst (λ o. IfOk c.variable_meaning.result (λ m. StandsFor m (declared_meaning c.args.layout.now (scope_in c.args.scope.now) c.args.code.now c.args.name c.args.is_primed o)))
    (c.in-Some.ensures ∙ ap (first_some (variable_in c.args.name)) c.as_slice.ensures)
    c.variable_meaning.ensures
