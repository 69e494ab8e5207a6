use Rattle.std.proofs.Common.{◌≡◌, drop}
use Rattle.uc_runs.specs.Runs.{running}
use Rattle.uc_runs.proofs.RunFormsChoices.{declare_all}
use Rattle.uc_runs.proofs.choosing.declare_results.Given as goal

abbrev pub invariant-loop-parameter : goal.invariant-loop-parameter
invariant-loop-parameter l =
    declare_all l.layout l.code (λ p. (p.identifier.name, p.ty)) (drop l.parameter-index l.results) (running l.choices l.here) ≡ declare_all l.layout l.code (λ p. (p.identifier.name, p.ty)) l.results (running l.choices l.fn.run)
