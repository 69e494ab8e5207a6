use Rattle.std.proofs.Common.{◌∙◌, false, ap, sym, subst}
use Rattle.uc_meaning.specs.Expressions.{reading, meaning_of}
use Rattle.uc_readings.specs.Scopes.{scope_in}
use Rattle.uc_readings.specs.Readings.{reading_of}
use Rattle.uc_readings.specs.Sources.{IsKnown, StandsFor}
use Rattle.uc_runs.proofs.choosing.type_now.Goals as goal

pub returns-in-Known : goal.returns-in-Known
returns-in-Known c =
    let known : IsKnown (reading_of c.in-Known.said) (meaning_of c.args.layout.now (scope_in c.of-here.result) c.args.name false) =
    subst (λ m. StandsFor m (meaning_of c.args.layout.now (scope_in c.of-here.result) c.args.name false)) c.in-Known.is c.in_ok-meant.ensures
    in
    sym (ap (λ r. r.type) (known.reading (reading c.args.layout.now))) ∙ ap (λ s. (meaning_of c.args.layout.now s c.args.name false).type) c.of-here.ensures
