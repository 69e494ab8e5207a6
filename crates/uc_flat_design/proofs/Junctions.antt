-- What negations, junctions and implications say.
use Rattle.std.proofs.Common.{◌≡◌, ◌≢◌, Bool as Truth, true, not, ◌&&◌, ◌||◌, List, [], ◌∷◌, Some, refl, sym, ap, ◌∙◌, subst}
use Rattle.std.specs.Prelude.{All}
use Rattle.std.specs.List.{list_all, list_any}
use Rattle.std.proofs.lemmas.List.Elements.{All-nil, All-cons}
use Rattle.uc_values.specs.Values.{truth_of}
use Rattle.uc_values.proofs.Shapes.{and_true}
use Rattle.uc_values.specs.declared.ty.Ty.{Ty}
use Rattle.uc_values.specs.declared.ty.Ty.TheVariants.{Bool}
use Rattle.uc_values.specs.declared.value.Value.{Value}
use Rattle.uc_ops.specs.declared.model.Model.{Model}
use Rattle.uc_ops.specs.declared.op.Op.TheVariants.{Not, And, Or}
use Rattle.uc_ops.specs.Typing.{Some_of}
use Rattle.uc_flat_expressions.specs.declared.typed.TypedExpression.{TypedExpression}
use Rattle.uc_flat_expressions.specs.Types.{is_boolean}
use Rattle.uc_flat_expressions.specs.Building.{operation, negation, are_truths, junction, implied_parts, implication}
use Rattle.uc_meaning.specs.Operators.{holds, any_holds, all_hold, implied}
use Rattle.uc_meaning.specs.Expressions.{Reading, reads_truth}
use Rattle.uc_flat_design.specs.Sayings.{Says}
use Rattle.uc_flat_design.proofs.FlatMeaningOptions.{if_some}
use Rattle.uc_flat_design.proofs.TypeKinds.{boolean_is}
use Rattle.uc_flat_design.proofs.Saying.{types_in, values_in, AllTell, says_as, operation_says}
use Rattle.uc_flat_design.proofs.Words.{holds_is, last_holds}

abbrev all_boolean : List TypedExpression → Truth
all_boolean ts = list_all (λ t. is_boolean t.ty) ts

all_truths : (ts : List TypedExpression) → are_truths ts ≡ true → all_boolean ts ≡ true
all_truths [] h = refl
all_truths (t ∷ ts) h = h

truths_are : (ts : List TypedExpression) → all_boolean ts ≡ true → All (λ u. u ≡ Bool) (types_in ts)
truths_are [] h = All-nil (λ u. u ≡ Bool)
truths_are (t ∷ ts) h = let both = and_true h in All-cons (λ u. u ≡ Bool) t.ty (types_in ts) (boolean_is t.ty both.0) (truths_are ts both.1)

not_empty : (ts : List TypedExpression) → are_truths ts ≡ true → types_in ts ≢ []
not_empty [] h = cc
not_empty (t ∷ ts) h = λ e. cc

some_truths : (ts : List TypedExpression) → are_truths ts ≡ true → Some_of Bool (types_in ts)
some_truths ts h = (not_empty ts h, truths_are ts (all_truths ts h))

all_is : (vs : List Value) → list_all truth_of vs ≡ all_hold vs
unfolding all_hold
all_is [] = refl
all_is (v ∷ vs) = ap (λ b. b && list_all truth_of vs) (holds_is v) ∙ ap (λ b. holds v && b) (all_is vs)

any_is : (vs : List Value) → list_any truth_of vs ≡ any_holds vs
unfolding any_holds
any_is [] = refl
any_is (v ∷ vs) = ap (λ b. b || list_any truth_of vs) (holds_is v) ∙ ap (λ b. holds v || b) (any_is vs)

-- what the parts of an implication say: all but the last are negated
abbrev implied_readings : List Reading → List Reading
implied_readings [] = []
implied_readings (r ∷ []) = r ∷ []
implied_readings (r ∷ (q ∷ qs)) = reads_truth (not (holds r.value)) ∷ implied_readings (q ∷ qs)

implied_is : (r : Reading) (rs : List Reading) → list_any truth_of (values_in (implied_readings (r ∷ rs))) ≡ implied (values_in (r ∷ rs))
unfolding implied
implied_is r [] = last_holds r.value
implied_is r (q ∷ qs) = ap (λ b. not (holds r.value) || b) (implied_is q qs)

implied_types : (ts : List TypedExpression) → all_boolean ts ≡ true → types_in (implied_parts ts) ≡ types_in ts
unfolding implied_parts
implied_types [] h = refl
implied_types (t ∷ []) h = refl
implied_types (t ∷ (u ∷ us)) h =
    let both = and_true h in
    ap (λ ty. ty ∷ types_in (implied_parts (u ∷ us))) (sym (boolean_is t.ty both.0)) ∙ ap (λ tys. t.ty ∷ tys) (implied_types (u ∷ us) both.1)

module _ (constants : List Ty) (m : Model) (types : List Ty) (cells : List Value) where
  pub negation_says : (r : Reading) (a : TypedExpression) → Says constants m types cells r a → a.ty ≡ Bool → Says constants m types cells (reads_truth (not (holds r.value))) (negation a)
  negation_says r a h e =
      says_as constants m types cells (reads_truth (not (truth_of r.value))) (reads_truth (not (holds r.value))) (negation a) (ap (λ b. reads_truth (not b)) (sym (holds_is r.value)))
      (operation_says constants m types cells Not Bool (r ∷ []) (a ∷ []) (h, tt) (ap (λ u. u ∷ []) e) refl tt)

  pub and_says : (rs : List Reading) (ts : List TypedExpression) (t : TypedExpression) → AllTell constants m types cells rs ts → junction And ts ≡ Some t → Says constants m types cells (reads_truth (all_hold (values_in rs))) t
  and_says rs ts t a e =
      let x = if_some (are_truths ts) (operation And Bool ts) t e in
      subst (Says constants m types cells (reads_truth (all_hold (values_in rs)))) x.1
      (says_as constants m types cells (reads_truth (list_all truth_of (values_in rs))) (reads_truth (all_hold (values_in rs))) (operation And Bool ts) (ap reads_truth (sym (all_is (values_in rs))))
      (operation_says constants m types cells And Bool rs ts a (some_truths ts x.0) refl tt))

  pub or_says : (rs : List Reading) (ts : List TypedExpression) (t : TypedExpression) → AllTell constants m types cells rs ts → junction Or ts ≡ Some t → Says constants m types cells (reads_truth (any_holds (values_in rs))) t
  or_says rs ts t a e =
      let x = if_some (are_truths ts) (operation Or Bool ts) t e in
      subst (Says constants m types cells (reads_truth (any_holds (values_in rs)))) x.1
      (says_as constants m types cells (reads_truth (list_any truth_of (values_in rs))) (reads_truth (any_holds (values_in rs))) (operation Or Bool ts) (ap reads_truth (sym (any_is (values_in rs))))
      (operation_says constants m types cells Or Bool rs ts a (some_truths ts x.0) refl tt))

  implied_tell : (rs : List Reading) (ts : List TypedExpression) → AllTell constants m types cells rs ts → all_boolean ts ≡ true → AllTell constants m types cells (implied_readings rs) (implied_parts ts)
  unfolding implied_parts
  implied_tell [] [] a h = tt
  implied_tell [] (t ∷ ts) a h = absurd a
  implied_tell (r ∷ rs) [] a h = absurd a
  implied_tell (r ∷ []) (t ∷ []) a h = (a.0, tt)
  implied_tell (r ∷ []) (t ∷ (u ∷ us)) a h = absurd a.1
  implied_tell (r ∷ (q ∷ qs)) (t ∷ []) a h = absurd a.1
  implied_tell (r ∷ (q ∷ qs)) (t ∷ (u ∷ us)) a h =
      let both = and_true h in
      (negation_says r t a.0 (boolean_is t.ty both.0), implied_tell (q ∷ qs) (u ∷ us) a.1 both.1)

  implication_told : (rs : List Reading) (ts : List TypedExpression) → AllTell constants m types cells rs ts → are_truths ts ≡ true → Says constants m types cells (reads_truth (implied (values_in rs))) (operation Or Bool (implied_parts ts))
  implication_told rs [] a h = cc
  implication_told [] (t ∷ ts) a h = absurd a
  implication_told (r ∷ rs) (t ∷ ts) a h =
      let b = all_truths (t ∷ ts) h in
      says_as constants m types cells (reads_truth (list_any truth_of (values_in (implied_readings (r ∷ rs))))) (reads_truth (implied (values_in (r ∷ rs)))) (operation Or Bool (implied_parts (t ∷ ts)))
      (ap reads_truth (sym (implied_is r rs)))
      (operation_says constants m types cells Or Bool (implied_readings (r ∷ rs)) (implied_parts (t ∷ ts)) (implied_tell (r ∷ rs) (t ∷ ts) a b)
      (subst (Some_of Bool) (sym (implied_types (t ∷ ts) b)) (some_truths (t ∷ ts) h)) refl tt)

  pub implication_says : (rs : List Reading) (ts : List TypedExpression) (t : TypedExpression) → AllTell constants m types cells rs ts → implication ts ≡ Some t → Says constants m types cells (reads_truth (implied (values_in rs))) t
  implication_says rs ts t a e =
      let x = if_some (are_truths ts) (operation Or Bool (implied_parts ts)) t e in
      subst (Says constants m types cells (reads_truth (implied (values_in rs)))) x.1 (implication_told rs ts a x.0)
