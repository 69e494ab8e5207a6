use Rattle.uc_terms.specs.Tables.{WellTyped}
use Rattle.uc_simplify.specs.Walking.{AllAnswered}
use Rattle.uc_simplify.proofs.simplifier.all_standing.Given as goal

abbrev pub invariant-loop-place : goal.invariant-loop-place
invariant-loop-place l = record { answered : AllAnswered l.initial.terms l.terms l.answers.items l.place; well : WellTyped l.terms }
