use Rattle.std.proofs.Common.{take}
use Rattle.uc_linear.specs.Linear.{sum_at}
use Rattle.uc_simplify.specs.Forms.{number_at}
use Rattle.uc_simplify.specs.Integers.{Adding}
use Rattle.uc_simplify.proofs.linear.multiples.Given as goal

abbrev pub invariant-loop-place : goal.invariant-loop-place
invariant-loop-place l = Adding l.initial.terms l.terms l.parts.items l.pairs (λ m. sum_at (number_at m l.initial.terms) (take l.place l.pairs))
