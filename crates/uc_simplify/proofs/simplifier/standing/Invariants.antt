use Rattle.uc_terms.specs.Tables.{WellTyped}
use Rattle.uc_simplify.specs.Walking.{Answered}
use Rattle.uc_simplify.proofs.simplifier.standing.Given as goal

abbrev pub invariant-loop-place : goal.invariant-loop-place
invariant-loop-place l = record { answered : Answered l.initial.terms l.terms l.marks.items l.answers.items l.place; well : WellTyped l.terms }
