use Rattle.std.specs.Prelude.{◌*◌, ◌+◌}
use Rattle.uc_simplify.specs.Records.{Comparing}
use Rattle.uc_simplify.proofs.rebuild.+rebuilt.Given as goal

abbrev pub decreases-rebuilt : goal.decreases-rebuilt
decreases-rebuilt l = 3 * l.depth + 1

abbrev pub decreases-made : goal.decreases-made
decreases-made l = 3 * l.depth

abbrev pub decreases-equalities : goal.decreases-equalities
decreases-equalities l = 3 * l.depth + 2

abbrev pub invariant-equalities-loop-place : goal.invariant-equalities-loop-place
invariant-equalities-loop-place l = Comparing l.initial.terms l.terms l.equal.items l.left l.right l.place
