use Rattle.std.proofs.Common.{take}
use Rattle.std.specs.List.{flat_map}
use Rattle.uc_meaning.specs.Steps.{name_parts}
use Rattle.uc_readings.specs.Scopes.{scope_in}
use Rattle.uc_checks.specs.Watches.{Grows}
use Rattle.uc_checks.proofs.seen.with_names.Given as goal

abbrev pub invariant-loop-name : goal.invariant-loop-name
invariant-loop-name l = Grows l.fn.seen (flat_map (name_parts l.layout (scope_in l.scope)) (take l.name-index l.names)) l.here
