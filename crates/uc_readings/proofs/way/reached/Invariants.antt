use Rattle.std.proofs.Common.{◌≡◌, drop, None}
use Rattle.uc_lookup.specs.Parts.{system_in}
use Rattle.uc_meaning.specs.Expressions.{reached}
use Rattle.uc_readings.specs.Scopes.{scope_in}
use Rattle.uc_readings.specs.Scopes.{scope_at}
use Rattle.uc_readings.proofs.way.reached.Given as goal

abbrev pub invariant-loop-used : goal.invariant-loop-used
invariant-loop-used l =
    reached (system_in l.system) (scope_at (scope_in l.scope) l.path l.is_inside) l.here l.is_primed (drop l.used l.selections)
    ≡ reached (system_in l.system) (scope_in l.scope) l.name l.is_primed l.selections
