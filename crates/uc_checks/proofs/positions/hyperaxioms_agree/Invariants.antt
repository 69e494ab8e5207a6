use Rattle.std.proofs.Common.{◌+◌}
use Rattle.uc_meaning.specs.Runs.{states_at}
use Rattle.uc_executions.specs.Formulas.{hyperaxioms_asked}
use Rattle.uc_checks.specs.Tellings.{Of}
use Rattle.uc_checks.specs.Refutations.{AgreeAt}
use Rattle.uc_checks.proofs.Told.{Reached}
use Rattle.uc_checks.proofs.positions.hyperaxioms_agree.Given as goal

abbrev pub invariant-loop-position : goal.invariant-loop-position
invariant-loop-position l = Reached (λ k. Of (hyperaxioms_asked l.layout l.interp l.arity (states_at k l.copies)).met) (AgreeAt l.layout l.interp l.arity l.copies) (l.fn.last + 1) l.position
