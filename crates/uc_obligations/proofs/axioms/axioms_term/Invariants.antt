use Rattle.std.proofs.Common.{take, List, []}
use Rattle.std.specs.List.{list_all}
use Rattle.uc_values.specs.declared.ty.Ty.{Ty}
use Rattle.uc_values.specs.declared.ty.Ty.TheVariants.{Bool}
use Rattle.uc_values.specs.declared.value.Value.TheVariants.{Bool as Truth}
use Rattle.uc_flat.specs.Unrolled.{holds_in}
use Rattle.uc_symstep.specs.Growing.{IsTerm}
use Rattle.uc_symstep.specs.Known.{IsKnown}
use Rattle.uc_obligations.specs.Unrolling.{AllReadTyped}
use Rattle.uc_obligations.proofs.axioms.axioms_term.Given as goal

abbrev pub invariant-loop-place : goal.invariant-loop-place
invariant-loop-place l = record {
  term : IsTerm l.fn.terms l.terms l.all Bool (λ m. Truth (list_all (λ x. holds_in l.f x m []) (take l.place l.f.formulas)));
  known : (supply : List Ty) → AllReadTyped supply l.f.formulas → IsKnown supply l.terms l.all;
}
