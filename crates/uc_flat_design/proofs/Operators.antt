-- What unary operations, comparisons and choices say.
use Rattle.std.proofs.Common.{◌≡◌, ℕ, Bool as Truth, true, false, not, List, [], ◌∷◌, Some, refl, sym, ap, ◌∙◌, subst}
use Rattle.std.specs.Prelude.{int_lt, int_le, nat_lt, nat_le, if◌then◌else◌, ◌&&◌}
use Rattle.uc_syntax.specs.declared.expression.UnaryOperator.{UnaryOperator}
use Rattle.uc_syntax.specs.declared.expression.UnaryOperator.TheVariants.{Not as not_sign, Negate, Complement}
use Rattle.uc_syntax.specs.declared.expression.Comparison.{Comparison}
use Rattle.uc_syntax.specs.declared.expression.Comparison.TheVariants.{Equal as equal_sign, Unequal, Less, AtMost, Greater, AtLeast, LessUnsigned, AtMostUnsigned, GreaterUnsigned, AtLeastUnsigned}
use Rattle.uc_values.specs.Values.{truth_of}
use Rattle.uc_values.specs.Sameness.{same}
use Rattle.uc_values.proofs.Shapes.{and_true}
use Rattle.uc_values.specs.declared.ty.Ty.{Ty}
use Rattle.uc_values.specs.declared.ty.Ty.TheVariants.{Bool}
use Rattle.uc_values.specs.declared.value.Value.{Value}
use Rattle.uc_values.specs.declared.value.Value.TheVariants.{Bool as truth, Bv as word}
use Rattle.uc_ops.specs.Decisions.{types-decided}
use Rattle.uc_ops.specs.Equality.{equal_types}
use Rattle.uc_ops.specs.declared.model.Model.{Model}
use Rattle.uc_ops.specs.declared.op.Op.{Op}
use Rattle.uc_ops.specs.declared.op.Op.TheVariants.{Eq, Ite, BvNeg, BvNot, Slt, Sle, Ult, Ule}
use Rattle.uc_ops.specs.Typing.{Suits, Pair_of_bits, Bits, part_type, type_of as result_type}
use Rattle.uc_ops.specs.Meaning.{apply}
use Rattle.uc_flat_expressions.specs.declared.typed.TypedExpression.{TypedExpression}
use Rattle.uc_flat_expressions.specs.Types.{is_boolean, is_bits, are_same_bits}
use Rattle.uc_flat_expressions.specs.Building.{operation, negation, bits_only, unary_of, ordered as ordered_by, equality, inequality, comparison, choice}
use Rattle.uc_meaning.specs.Operators.{holds, unary, ordered, ordered_unsigned, compared}
use Rattle.uc_meaning.specs.Expressions.{Reading, reads, reads_truth}
use Rattle.uc_flat_design.specs.Sayings.{Says}
use Rattle.uc_flat_design.proofs.FlatMeaningOptions.{if_some, map_some}
use Rattle.uc_flat_design.proofs.TypeKinds.{boolean_is, bits_are, same_bits_are}
use Rattle.uc_flat_design.proofs.Saying.{IsPlain, says_as, operation_says}
use Rattle.uc_flat_design.proofs.Words.{holds_is, truth_told, one_says, pair_says}
use Rattle.uc_flat_design.proofs.Junctions.{negation_says}

-- one of two readings of a type
either_reads : (b : Truth) (r q : Reading) (ty : Ty) → r.type ≡ ty → q.type ≡ ty → (if b then r else q) ≡ reads ty (if b then r.value else q.value)
either_reads true r q ty e f = ap (λ u. reads u r.value) e
either_reads false r q ty e f = ap (λ u. reads u q.value) f

module _ (constants : List Ty) (m : Model) (types : List Ty) (cells : List Value) where
  not_says : (r : Reading) (a : TypedExpression) → Says constants m types cells r a → a.ty ≡ Bool → Says constants m types cells (reads r.type (unary not_sign r.value)) (negation a)
  not_says r a h e =
      let b = truth_told constants m types cells r a h e in
      says_as constants m types cells (reads_truth (not (holds r.value))) (reads r.type (unary not_sign r.value)) (negation a)
      (ap (λ u. reads u (unary not_sign r.value)) (h.type ∙ e) ∙ ap (reads Bool) (ap (unary not_sign) b.is ∙ ap (λ u. truth (not (holds u))) (sym b.is)))
      (negation_says constants m types cells r a h e)

  bits_says : (op : Op) (g : Value → Value) (r : Reading) (a t : TypedExpression) → Says constants m types cells r a → ((us : List Ty) → Bits us → Suits op us) → ((us : List Ty) → result_type op us ≡ part_type us 0) → IsPlain op
      → ((w : ℕ) (us : List Ty) (x : ℕ) → apply m op us (word w x ∷ []) ≡ g (word w x)) → bits_only op a ≡ Some t → Says constants m types cells (reads r.type (g r.value)) t
  bits_says op g r a t h suits result plain same e =
      let x = if_some (is_bits a.ty) (operation op a.ty (a ∷ [])) t e in
      let b = bits_are a.ty x.0 in
      subst (Says constants m types cells (reads r.type (g r.value))) x.1
      (says_as constants m types cells (reads a.ty (g r.value)) (reads r.type (g r.value)) (operation op a.ty (a ∷ [])) (ap (λ u. reads u (g r.value)) h.type)
      (one_says constants m types cells op a.ty g r a b.0 h b.1 (suits (a.ty ∷ []) (b.0, ap (λ u. u ∷ []) b.1)) (result (a.ty ∷ [])) plain (same b.0)))

  pub unary_says : (operator : UnaryOperator) (r : Reading) (a t : TypedExpression) → Says constants m types cells r a → unary_of operator a ≡ Some t → Says constants m types cells (reads r.type (unary operator r.value)) t
  unary_says not_sign r a t h e =
      let x = if_some (is_boolean a.ty) (negation a) t e in
      subst (Says constants m types cells (reads r.type (unary not_sign r.value))) x.1 (not_says r a h (boolean_is a.ty x.0))
  unary_says Negate r a t h e = bits_says BvNeg (unary Negate) r a t h (λ us s. s) (λ us. refl) tt (λ w us x. refl) e
  unary_says Complement r a t h e = bits_says BvNot (unary Complement) r a t h (λ us s. s) (λ us. refl) tt (λ w us x. refl) e

  -- comparisons
  equality_says : (r q : Reading) (a b t : TypedExpression) → Says constants m types cells r a → Says constants m types cells q b → equality a b ≡ Some t → Says constants m types cells (reads_truth (same r.type r.value q.value)) t
  equality_says r q a b t h k e =
      let x = if_some (equal_types a.ty b.ty) (operation Eq Bool (a ∷ b ∷ [])) t e in
      let one : a.ty ≡ b.ty = (types-decided a.ty b.ty).0 x.0 in
      subst (Says constants m types cells (reads_truth (same r.type r.value q.value))) x.1
      (says_as constants m types cells (reads_truth (same a.ty r.value q.value)) (reads_truth (same r.type r.value q.value)) (operation Eq Bool (a ∷ b ∷ [])) (ap (λ u. reads_truth (same u r.value q.value)) h.type)
      (operation_says constants m types cells Eq Bool (r ∷ q ∷ []) (a ∷ b ∷ []) (h, (k, tt)) (b.ty, ap (λ u. u ∷ b.ty ∷ []) one) refl tt))

  inequality_says : (r q : Reading) (a b t : TypedExpression) → Says constants m types cells r a → Says constants m types cells q b → inequality a b ≡ Some t → Says constants m types cells (reads_truth (not (same r.type r.value q.value))) t
  inequality_says r q a b t h k e =
      let x = map_some negation (equality a b) t e in
      let s = equality_says r q a b x.0 h k x.1 in
      subst (Says constants m types cells (reads_truth (not (same r.type r.value q.value)))) x.2 (negation_says constants m types cells (reads_truth (same r.type r.value q.value)) x.0 s (sym s.type))

  ordered_says : (op : Op) (f : Value → Value → Truth) (r q : Reading) (a b t : TypedExpression) → Says constants m types cells r a → Says constants m types cells q b
      → ((us : List Ty) → Pair_of_bits us → Suits op us) → ((us : List Ty) → result_type op us ≡ Bool) → IsPlain op → ((w : ℕ) (us : List Ty) (x y : ℕ) → apply m op us (word w x ∷ word w y ∷ []) ≡ truth (f (word w x) (word w y)))
      → ordered_by op a b ≡ Some t → Says constants m types cells (reads_truth (f r.value q.value)) t
  ordered_says op f r q a b t h k suits result plain same e =
      let x = if_some (are_same_bits a.ty b.ty) (operation op Bool (a ∷ b ∷ [])) t e in
      let w = same_bits_are a.ty b.ty x.0 in
      subst (Says constants m types cells (reads_truth (f r.value q.value))) x.1
      (pair_says constants m types cells op Bool (λ v u. truth (f v u)) r q a b w.width h k w.first w.second suits (result (a.ty ∷ b.ty ∷ [])) plain (same w.width))

  less_says : (r q : Reading) (a b t : TypedExpression) → Says constants m types cells r a → Says constants m types cells q b → ordered_by Slt a b ≡ Some t → Says constants m types cells (reads_truth (ordered int_lt r.value q.value)) t
  less_says r q a b t h k e = ordered_says Slt (ordered int_lt) r q a b t h k (λ us s. s) (λ us. refl) tt (λ w us x y. refl) e

  at_most_says : (r q : Reading) (a b t : TypedExpression) → Says constants m types cells r a → Says constants m types cells q b → ordered_by Sle a b ≡ Some t → Says constants m types cells (reads_truth (ordered int_le r.value q.value)) t
  at_most_says r q a b t h k e = ordered_says Sle (ordered int_le) r q a b t h k (λ us s. s) (λ us. refl) tt (λ w us x y. refl) e

  below_says : (r q : Reading) (a b t : TypedExpression) → Says constants m types cells r a → Says constants m types cells q b → ordered_by Ult a b ≡ Some t → Says constants m types cells (reads_truth (ordered_unsigned nat_lt r.value q.value)) t
  below_says r q a b t h k e = ordered_says Ult (ordered_unsigned nat_lt) r q a b t h k (λ us s. s) (λ us. refl) tt (λ w us x y. refl) e

  up_to_says : (r q : Reading) (a b t : TypedExpression) → Says constants m types cells r a → Says constants m types cells q b → ordered_by Ule a b ≡ Some t → Says constants m types cells (reads_truth (ordered_unsigned nat_le r.value q.value)) t
  up_to_says r q a b t h k e = ordered_says Ule (ordered_unsigned nat_le) r q a b t h k (λ us s. s) (λ us. refl) tt (λ w us x y. refl) e

  pub comparison_says : (how : Comparison) (r q : Reading) (a b t : TypedExpression) → Says constants m types cells r a → Says constants m types cells q b → comparison how a b ≡ Some t → Says constants m types cells (reads_truth (compared how r.type r.value q.value)) t
  comparison_says equal_sign r q a b t h k e = equality_says r q a b t h k e
  comparison_says Unequal r q a b t h k e = inequality_says r q a b t h k e
  comparison_says Less r q a b t h k e = less_says r q a b t h k e
  comparison_says AtMost r q a b t h k e = at_most_says r q a b t h k e
  comparison_says Greater r q a b t h k e = less_says q r b a t k h e
  comparison_says AtLeast r q a b t h k e = at_most_says q r b a t k h e
  comparison_says LessUnsigned r q a b t h k e = below_says r q a b t h k e
  comparison_says AtMostUnsigned r q a b t h k e = up_to_says r q a b t h k e
  comparison_says GreaterUnsigned r q a b t h k e = below_says q r b a t k h e
  comparison_says AtLeastUnsigned r q a b t h k e = up_to_says q r b a t k h e

  pub choice_says : (s r q : Reading) (c a b t : TypedExpression) → Says constants m types cells s c → Says constants m types cells r a → Says constants m types cells q b → choice c a b ≡ Some t → Says constants m types cells (if holds s.value then r else q) t
  choice_says s r q c a b t g h k e =
      let x = if_some (is_boolean c.ty && equal_types a.ty b.ty) (operation Ite a.ty (c ∷ a ∷ b ∷ [])) t e in
      let both = and_true x.0 in
      let one : a.ty ≡ b.ty = (types-decided a.ty b.ty).0 both.1 in
      subst (Says constants m types cells (if holds s.value then r else q)) x.1
      (says_as constants m types cells (reads a.ty (if truth_of s.value then r.value else q.value)) (if holds s.value then r else q) (operation Ite a.ty (c ∷ a ∷ b ∷ []))
      (either_reads (holds s.value) r q a.ty h.type (k.type ∙ sym one) ∙ ap (λ d. reads a.ty (if d then r.value else q.value)) (sym (holds_is s.value)))
      (operation_says constants m types cells Ite a.ty (s ∷ r ∷ q ∷ []) (c ∷ a ∷ b ∷ []) (g, (h, (k, tt)))
      (a.ty, ap (λ u. u ∷ a.ty ∷ b.ty ∷ []) (boolean_is c.ty both.0) ∙ ap (λ u. Bool ∷ a.ty ∷ u ∷ []) (sym one)) refl tt))
