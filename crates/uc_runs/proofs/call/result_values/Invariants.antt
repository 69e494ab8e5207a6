use Rattle.std.proofs.Common.{◌≡◌, map, take}
use Rattle.uc_meaning.specs.Code.{name_now}
use Rattle.uc_runs.proofs.call.result_values.Given as goal

abbrev pub invariant-loop-parameter : goal.invariant-loop-parameter
invariant-loop-parameter l = l.values ≡ map (λ p. (name_now l.layout l.scope p.identifier.name).value) (take l.parameter-index l.results)
