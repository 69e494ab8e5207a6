use Rattle.uc_symstep.proofs.Steps.{Beginning}
use Rattle.uc_symstep.proofs.Known.{BegunKnown}
use Rattle.uc_symstep.proofs.unroll.begin.Given as goal

abbrev pub invariant-loop-ty : goal.invariant-loop-ty
invariant-loop-ty l = record {
  state : Beginning l.fn.terms l.terms l.types l.next l.truth l.cells l.choices l.number l.ty-index;
  known : BegunKnown l.terms l.types l.next l.truth l.cells l.number l.ty-index;
}
