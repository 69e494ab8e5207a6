use Rattle.uc_meaning.specs.Runs.{states_at}
use Rattle.uc_executions.specs.Formulas.{hyperinvariants_asked}
use Rattle.uc_checks.specs.Tellings.{Of}
use Rattle.uc_checks.specs.Refutations.{HyperinvariantsAt}
use Rattle.uc_checks.proofs.Told.{Reached}
use Rattle.uc_checks.proofs.positions.hyperinvariants_agree.Given as goal

abbrev pub invariant-loop-position : goal.invariant-loop-position
invariant-loop-position l = Reached (λ k. Of (hyperinvariants_asked l.layout l.interp l.arity (states_at k l.copies)).met) (HyperinvariantsAt l.layout l.interp l.arity l.copies) l.count l.position
