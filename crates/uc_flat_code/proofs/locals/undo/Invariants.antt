use Rattle.std.proofs.Common.{◌≡◌, length}
use Rattle.uc_flat_code.specs.FlatInitWalk.{undone}
use Rattle.uc_flat_code.proofs.locals.undo.Given as goal

abbrev pub invariant-loop-last : goal.invariant-loop-last
invariant-loop-last l = undone l.left l.names ≡ undone l.fn.shadowed l.initial.names

abbrev pub decreases-loop-last : goal.decreases-loop-last
decreases-loop-last l = length l.left
