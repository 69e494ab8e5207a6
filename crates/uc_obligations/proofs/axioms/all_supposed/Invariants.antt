use Rattle.std.proofs.Common.{List, ℕ}
use Rattle.uc_values.specs.declared.ty.Ty.{Ty}
use Rattle.uc_symstep.specs.Known.{IsKnown, KnowsState}
use Rattle.uc_obligations.specs.Unrolling.{AllReadTyped}
use Rattle.uc_obligations.proofs.Supposing.{SupposedTo}
use Rattle.uc_obligations.proofs.axioms.all_supposed.Given as goal

abbrev pub invariant-loop-place : goal.invariant-loop-place
invariant-loop-place l = record {
  term : SupposedTo l.f l.fn.terms l.terms l.all l.fn.assumed l.last l.place;
  known : (supply : List Ty) (next : ℕ) → AllReadTyped supply l.f.formulas → IsKnown supply l.fn.terms l.fn.assumed → KnowsState supply l.fn.terms l.last next → IsKnown supply l.terms l.all;
}
