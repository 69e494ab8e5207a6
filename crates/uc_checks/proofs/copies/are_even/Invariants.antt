use Rattle.std.proofs.Common.{◌≡◌, ◌+◌, List, length}
use Rattle.uc_meaning.specs.Runs.{Position}
use Rattle.uc_checks.specs.Tellings.{Nothing}
use Rattle.uc_checks.proofs.Told.{Passed}
use Rattle.uc_checks.proofs.copies.are_even.Given as goal

abbrev pub invariant-loop-copy : goal.invariant-loop-copy
invariant-loop-copy l = Passed (λ run. Nothing) (λ (run : List Position). length run ≡ l.fn.steps + 1) l.copies l.copy-index
