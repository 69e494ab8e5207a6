use Rattle.uc_meaning.specs.Runs.{position_at}
use Rattle.uc_executions.specs.Formulas.{invariants_asked}
use Rattle.uc_checks.specs.Tellings.{Of}
use Rattle.uc_checks.specs.Refutations.{InvariantsAt}
use Rattle.uc_checks.proofs.Told.{Reached}
use Rattle.uc_checks.proofs.positions.invariants_before.Given as goal

abbrev pub invariant-loop-position : goal.invariant-loop-position
invariant-loop-position l = Reached (λ k. Of (invariants_asked l.layout l.interp (position_at k l.copy).0).met) (InvariantsAt l.layout l.interp l.copy) l.count l.position
