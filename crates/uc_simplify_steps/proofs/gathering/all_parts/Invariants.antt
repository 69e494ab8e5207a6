use Rattle.uc_simplify_steps.specs.Junctions.{Gathers}
use Rattle.uc_simplify_steps.proofs.gathering.all_parts.Given as goal

abbrev pub invariant-loop-part : goal.invariant-loop-part
invariant-loop-part l = Gathers l.terms l.neutral l.parts l.part-index l.all.items
