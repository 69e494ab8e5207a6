use Rattle.std.proofs.Common.{take}
use Rattle.std.specs.List.{flat_map}
use Rattle.uc_meaning.specs.Steps.{target_parts}
use Rattle.uc_readings.specs.Scopes.{scope_in}
use Rattle.uc_checks.specs.Watches.{Grows}
use Rattle.uc_checks.proofs.seen.with_targets.Given as goal

abbrev pub invariant-loop-target : goal.invariant-loop-target
invariant-loop-target l = Grows l.fn.seen (flat_map (target_parts l.layout (scope_in l.scope)) (take l.target-index l.targets)) l.here
