use Rattle.std.proofs.Common.{◌≡◌, ◌++◌, map, take, drop}
use Rattle.uc_linear.specs.Tightening.{over}
use Rattle.uc_linear.proofs.divisor.divide.Given as goal

abbrev pub invariant-loop-place : goal.invariant-loop-place
invariant-loop-place l = l.pairs.items ≡ map (over l.divisor) (take l.place l.initial.pairs.items) ++ drop l.place l.initial.pairs.items
