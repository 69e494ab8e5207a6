use Rattle.uc_checks.specs.Refutations.{InvariantsBefore, InvariantsTell}
use Rattle.uc_checks.proofs.Told.{Passed}
use Rattle.uc_checks.proofs.positions.invariants_agree.Given as goal

abbrev pub invariant-loop-copy : goal.invariant-loop-copy
invariant-loop-copy l = Passed (InvariantsTell l.layout l.interp l.count) (InvariantsBefore l.layout l.interp l.count) l.copies l.copy-index
