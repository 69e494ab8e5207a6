-- What literals say.
use Rattle.std.proofs.Common.{◌≡◌, ℕ, pos, ◌^◌, List, [], Some, refl, subst}
use Rattle.std.specs.Prelude.{Bool as Truth, ◌&&◌, nat_le, nat_lt}
use Rattle.uc_values.proofs.Shapes.{and_true, valid-Bool, valid-Int}
use Rattle.uc_values.proofs.Fitting.{Truth-fits, Int-fits, fits-IsBits}
use Rattle.uc_values.specs.declared.ty.Ty.{Ty}
use Rattle.uc_values.specs.declared.ty.Ty.TheVariants.{Bool, Int, Bv}
use Rattle.uc_values.specs.declared.value.Value.{Value}
use Rattle.uc_values.specs.declared.value.Value.TheVariants.{Bool as truth, Int as whole, Bv as word}
use Rattle.uc_ops.specs.declared.model.Model.{Model}
use Rattle.uc_ops.specs.declared.op.Op.TheVariants.{Const}
use Rattle.uc_ops.proofs.Typed.{Bv-valid}
use Rattle.uc_flat.specs.declared.expression.Expression.TheVariants.{Apply}
use Rattle.uc_flat_expressions.specs.declared.typed.TypedExpression.{TypedExpression}
use Rattle.uc_flat_expressions.specs.Building.{constant}
use Rattle.uc_flat_expressions.specs.Expressions.{truth_literal, number_literal, bits_literal}
use Rattle.uc_meaning.specs.Expressions.{reads, reads_truth}
use Rattle.uc_flat_design.specs.Sayings.{Says}
use Rattle.uc_flat_design.proofs.FlatMeaningOptions.{if_some}
use Rattle.uc_flat_design.proofs.TypeKinds.{le_is, lt_is}
use Rattle.uc_flat_design.proofs.Saying.{operation_says}

module _ (constants : List Ty) (m : Model) (types : List Ty) (cells : List Value) where
  pub truth_says : (b : Truth) → Says constants m types cells (reads_truth b) (truth_literal b)
  truth_says b = operation_says constants m types cells (Const Bool (truth b)) Bool [] [] tt (refl, valid-Bool, refl, Truth-fits b) refl tt

  abbrev literal_number : ℕ → TypedExpression
  literal_number k = record { expression = Apply (Const Int (whole (pos k))) []; ty = Int; number = Some k }

  number_told : (k : ℕ) → Says constants m types cells (reads Int (whole (pos k))) (literal_number k)
  number_told k =
      let x = operation_says constants m types cells (Const Int (whole (pos k))) Int [] [] tt (refl, valid-Int, refl, Int-fits (pos k)) refl tt in
      record { typed = x.typed; reads = x.reads; own = x.own; valid = x.valid; type = x.type; value = x.value; fit = x.fit; literal = (refl, refl) }

  pub number_says : (k : ℕ) (t : TypedExpression) → number_literal k ≡ Some t → Says constants m types cells (reads Int (whole (pos k))) t
  number_says k t e =
      let x = if_some (nat_le k 64) (literal_number k) t e in
      subst (Says constants m types cells (reads Int (whole (pos k)))) x.1 (number_told k)

  pub bits_says : (k width : ℕ) (t : TypedExpression) → bits_literal k width ≡ Some t → Says constants m types cells (reads (Bv width) (word width k)) t
  bits_says k width t e =
      let x = if_some (nat_le 1 width && (nat_le width 64 && nat_lt k (2 ^ width))) (constant (Const (Bv width) (word width k)) (Bv width)) t e in
      let a = and_true x.0 in
      let b = and_true a.1 in
      let fit = fits-IsBits width k (lt_is k (2 ^ width) b.1) in
      subst (Says constants m types cells (reads (Bv width) (word width k))) x.1
      (operation_says constants m types cells (Const (Bv width) (word width k)) (Bv width) [] [] tt (refl, Bv-valid width (le_is 1 width a.0) (le_is width 64 b.0), refl, fit) refl tt)
