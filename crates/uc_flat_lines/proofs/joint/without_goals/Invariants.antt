use Rattle.uc_symstep.specs.Known.{IsKnown, ReadsOwnTypes, supply_from}
use Rattle.uc_flat_lines.proofs.Gathering.{Gathered}
use Rattle.uc_flat_lines.proofs.joint.without_goals.Given as goal

abbrev pub invariant-loop-k : goal.invariant-loop-k
invariant-loop-k l = record {
  gathered : Gathered l.f l.run.start l.steps l.k l.initial.terms l.terms l.fn.given l.none;
  known : ReadsOwnTypes l.f → IsKnown (supply_from l.f l.run.start l.steps) l.initial.terms l.fn.given → IsKnown (supply_from l.f l.run.start l.steps) l.terms l.none;
}
