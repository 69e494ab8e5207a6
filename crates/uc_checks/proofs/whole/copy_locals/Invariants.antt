use Rattle.std.proofs.Common.{◌≡◌, take}
use Rattle.uc_checks.proofs.whole.copy_locals.Given as goal

abbrev pub invariant-loop-local : goal.invariant-loop-local
invariant-loop-local l = l.copies ≡ take l.local-index l.locals
