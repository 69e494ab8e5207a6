-- What chains of operations from the left say.
use Rattle.std.proofs.Common.{◌≡◌, ℕ, ◌+◌, Bool as Truth, true, false, List, [], ◌∷◌, Some, refl, sym, ap, ◌∙◌, subst, arith, rules}
use Rattle.std.specs.Prelude.{IsTrue, if◌then◌else◌}
use Rattle.uc_syntax.specs.declared.expression.SumSign.{SumSign}
use Rattle.uc_values.specs.Values.{fits, same_truth}
use Rattle.uc_values.specs.Sameness.{same}
use Rattle.uc_values.specs.Operators.{bv_and, bv_or, bv_xor, bv_concat}
use Rattle.uc_values.specs.declared.ty.Ty.{Ty}
use Rattle.uc_values.specs.declared.ty.Ty.TheVariants.{Bool, Bv}
use Rattle.uc_values.specs.declared.ty.Ty.TheViews.{the_lemmas}
use Rattle.uc_values.specs.declared.value.Value.{Value}
use Rattle.uc_values.specs.declared.value.Value.TheVariants.{Bool as truth, Bv as word}
use Rattle.uc_ops.specs.declared.model.Model.{Model}
use Rattle.uc_ops.specs.declared.op.Op.TheVariants.{Eq, Concat}
use Rattle.uc_ops.specs.Typing.{Suits, Pair_of_bits, width_of, part_type, type_of as result_type}
use Rattle.uc_ops.specs.Meaning.{apply}
use Rattle.uc_flat_expressions.specs.declared.typed.TypedExpression.{TypedExpression}
use Rattle.uc_flat_expressions.specs.declared.building.Chain.{Chain}
use Rattle.uc_flat_expressions.specs.declared.building.Chain.TheVariants.{Equal, Or as OrBits, Xor, And as AndBits, Concat as Joined, Add, Subtract, Multiply}
use Rattle.uc_flat_expressions.specs.Types.{is_boolean, is_bits}
use Rattle.uc_flat_expressions.specs.Building.{operation, chain_op, starts, joined_type, joined, chain_from, chain, sign_chain, sum_from, sum}
use Rattle.uc_meaning.specs.Operators.{holds, equivalent, equivalent_from, chained, chained_from, plus, minus, product, summed, summed_from, concatenated}
use Rattle.uc_meaning.specs.Expressions.{Reading, reads, reads_truth, width}
use Rattle.uc_flat_design.specs.Sayings.{Says}
use Rattle.uc_flat_design.proofs.FlatMeaningOptions.{some_is, then_some, map_some, if_then}
use Rattle.uc_flat_design.proofs.TypeKinds.{joined_are, boolean_is, bits_are}
use Rattle.uc_flat_design.proofs.Saying.{IsPlain, values_in, AllTell, says_as, operation_says}
use Rattle.uc_flat_design.proofs.Words.{same_booleans, truth_told, pair_says}

-- readings that are taken together from the left
abbrev left : (Reading → Reading → Reading) → Reading → List Reading → Reading
left g r [] = r
left g r (q ∷ qs) = left g (g r q) qs

-- the type of the first stays
abbrev kept : (Value → Value → Value) → Reading → Reading → Reading
kept g r q = reads r.type (g r.value q.value)

abbrev pub type_first : List Reading → Ty
type_first [] = Bool
type_first (r ∷ rs) = r.type

left_kept : (g : Value → Value → Value) (r : Reading) (qs : List Reading) → left (kept g) r qs ≡ reads r.type (chained_from g r.value (values_in qs))
unfolding chained_from
left_kept g r [] = refl
left_kept g r (q ∷ qs) = left_kept g (kept g r q) qs

-- truth values are compared
abbrev same_of : Reading → Reading → Reading
same_of r q = reads_truth (same_truth (holds r.value) (holds q.value))

left_same : (r : Reading) (qs : List Reading) → r.type ≡ Bool → r.value ≡ truth (holds r.value) → left same_of r qs ≡ reads_truth (equivalent_from (holds r.value) (values_in qs))
unfolding equivalent_from
left_same r [] e f = ap (λ u. reads u r.value) e ∙ ap (reads Bool) f
left_same r (q ∷ qs) e f = left_same (same_of r q) qs refl refl

-- bits are put behind each other
abbrev joined_of : Reading → Reading → Reading
joined_of r q = reads (Bv (width r.type + width q.type)) (bv_concat r.value q.value)

abbrev pub widths : List Reading → ℕ
widths [] = 0
widths (r ∷ rs) = width r.type + widths rs

pub width_bits : (w : ℕ) → width (Bv w) ≡ w
width_bits w = search (rules, the_lemmas)

left_joined : (r : Reading) (qs : List Reading) (w : ℕ) → r.type ≡ Bv w → left joined_of r qs ≡ reads (Bv (width r.type + widths qs)) (chained_from concatenated r.value (values_in qs))
unfolding chained_from
left_joined r [] w e =
    let k : width r.type ≡ w = ap width e ∙ width_bits w in
    let k' : w ≡ width r.type + 0 = omega (arith, k) in
    ap (λ u. reads u r.value) (e ∙ ap Bv k')
left_joined r (q ∷ qs) w e =
    let k : width (Bv (width r.type + width q.type)) ≡ width r.type + width q.type = width_bits (width r.type + width q.type) in
    let k' : width (Bv (width r.type + width q.type)) + widths qs ≡ width r.type + (width q.type + widths qs) = omega (arith, k) in
    left_joined (joined_of r q) qs (width r.type + width q.type) refl
    ∙ ap (λ u. reads (Bv u) (chained_from concatenated (bv_concat r.value q.value) (values_in qs))) k'

module _ (constants : List Ty) (m : Model) (types : List Ty) (cells : List Value) where
  abbrev Step : Chain → (Reading → Reading → Reading) → Type 0
  Step kind g = (r q : Reading) (a b c : TypedExpression) → Says constants m types cells r a → Says constants m types cells q b → joined kind a b ≡ Some c → Says constants m types cells (g r q) c

  chain_says : (kind : Chain) (g : Reading → Reading → Reading) → Step kind g → (r : Reading) (a : TypedExpression) (qs : List Reading) (bs : List TypedExpression) (t : TypedExpression)
      → Says constants m types cells r a → AllTell constants m types cells qs bs → chain_from kind a bs ≡ Some t → Says constants m types cells (left g r qs) t
  unfolding chain_from
  chain_says kind g step r a [] [] t h all e = subst (Says constants m types cells r) (some_is a t e) h
  chain_says kind g step r a [] (b ∷ bs) t h all e = absurd all
  chain_says kind g step r a (q ∷ qs) [] t h all e = absurd all
  chain_says kind g step r a (q ∷ qs) (b ∷ bs) t h all e =
      let x = then_some (λ c. chain_from kind c bs) (joined kind a b) t e in
      chain_says kind g step (g r q) x.0 qs bs t (step r q a b x.0 h all.0 x.1) all.1 x.2

  -- an operation on words of one width
  kept_step : (kind : Chain) (g : Value → Value → Value) → ((a b ty : Ty) → joined_type kind a b ≡ Some ty → (w : ℕ) × (a ≡ Bv w) × (b ≡ Bv w) × (ty ≡ Bv w))
      → ((us : List Ty) → Pair_of_bits us → Suits (chain_op kind) us) → ((us : List Ty) → result_type (chain_op kind) us ≡ part_type us 0) → IsPlain (chain_op kind)
      → ((w : ℕ) (us : List Ty) (x y : ℕ) → apply m (chain_op kind) us (word w x ∷ word w y ∷ []) ≡ g (word w x) (word w y)) → Step kind (kept g)
  kept_step kind g widths_are suits result plain same r q a b c h k e =
      let x = map_some (λ ty. operation (chain_op kind) ty (a ∷ b ∷ [])) (joined_type kind a.ty b.ty) c e in
      let j = widths_are a.ty b.ty x.0 x.1 in
      let ty : a.ty ≡ x.0 = j.1 ∙ sym j.3 in
      subst (Says constants m types cells (kept g r q)) x.2
      (says_as constants m types cells (reads x.0 (g r.value q.value)) (kept g r q) (operation (chain_op kind) x.0 (a ∷ b ∷ [])) (ap (λ u. reads u (g r.value q.value)) (h.type ∙ ty))
      (pair_says constants m types cells (chain_op kind) x.0 g r q a b j.0 h k j.1 j.2 suits (result (a.ty ∷ b.ty ∷ []) ∙ ty) plain (same j.0)))

  kept_chain : (kind : Chain) (g : Value → Value → Value) → Step kind (kept g) → (rs : List Reading) (ts : List TypedExpression) (t : TypedExpression) → AllTell constants m types cells rs ts → chain kind ts ≡ Some t
      → Says constants m types cells (reads (type_first rs) (chained g (values_in rs))) t
  kept_chain kind g step rs [] t all e = cc
  kept_chain kind g step [] (a ∷ bs) t all e = absurd all
  kept_chain kind g step (r ∷ qs) (a ∷ bs) t all e =
      let x = if_then (starts kind a.ty) (chain_from kind a bs) t e in
      says_as constants m types cells (left (kept g) r qs) (reads r.type (chained g (values_in (r ∷ qs)))) t (sym (left_kept g r qs)) (chain_says kind (kept g) step r a qs bs t all.0 all.1 x.1)

  pub bit_or_says : (rs : List Reading) (ts : List TypedExpression) (t : TypedExpression) → AllTell constants m types cells rs ts → chain OrBits ts ≡ Some t → Says constants m types cells (reads (type_first rs) (chained bv_or (values_in rs))) t
  bit_or_says rs ts t all e = kept_chain OrBits bv_or (kept_step OrBits bv_or (λ a b ty j. joined_are OrBits a b ty j) (λ us s. s) (λ us. refl) tt (λ w us x y. refl)) rs ts t all e

  pub bit_xor_says : (rs : List Reading) (ts : List TypedExpression) (t : TypedExpression) → AllTell constants m types cells rs ts → chain Xor ts ≡ Some t → Says constants m types cells (reads (type_first rs) (chained bv_xor (values_in rs))) t
  bit_xor_says rs ts t all e = kept_chain Xor bv_xor (kept_step Xor bv_xor (λ a b ty j. joined_are Xor a b ty j) (λ us s. s) (λ us. refl) tt (λ w us x y. refl)) rs ts t all e

  pub bit_and_says : (rs : List Reading) (ts : List TypedExpression) (t : TypedExpression) → AllTell constants m types cells rs ts → chain AndBits ts ≡ Some t → Says constants m types cells (reads (type_first rs) (chained bv_and (values_in rs))) t
  bit_and_says rs ts t all e = kept_chain AndBits bv_and (kept_step AndBits bv_and (λ a b ty j. joined_are AndBits a b ty j) (λ us s. s) (λ us. refl) tt (λ w us x y. refl)) rs ts t all e

  pub product_says : (rs : List Reading) (ts : List TypedExpression) (t : TypedExpression) → AllTell constants m types cells rs ts → chain Multiply ts ≡ Some t → Says constants m types cells (reads (type_first rs) (chained product (values_in rs))) t
  product_says rs ts t all e = kept_chain Multiply product (kept_step Multiply product (λ a b ty j. joined_are Multiply a b ty j) (λ us s. s) (λ us. refl) tt (λ w us x y. refl)) rs ts t all e

  -- equivalences
  equal_step : Step Equal same_of
  equal_step r q a b c h k e =
      let x = map_some (λ ty. operation Eq ty (a ∷ b ∷ [])) (joined_type Equal a.ty b.ty) c e in
      let j = joined_are Equal a.ty b.ty x.0 x.1 in
      let us = a.ty ∷ b.ty ∷ [] in
      let same_values : same a.ty r.value q.value ≡ same_truth (holds r.value) (holds q.value) =
      ap (λ u. same u r.value q.value) j.0
      ∙ same_booleans r.value q.value (subst (λ u. IsTrue (fits u r.value)) j.0 h.fit) (subst (λ u. IsTrue (fits u q.value)) j.1 k.fit) in
      subst (Says constants m types cells (same_of r q)) x.2
      (says_as constants m types cells (reads x.0 (truth (same a.ty r.value q.value))) (same_of r q) (operation Eq x.0 (a ∷ b ∷ []))
      (ap (λ u. reads u (truth (same_truth (holds r.value) (holds q.value)))) (sym j.2) ∙ ap (λ s. reads x.0 (truth s)) (sym same_values))
      (operation_says constants m types cells Eq x.0 (r ∷ q ∷ []) (a ∷ b ∷ []) (h, (k, tt)) (Bool, ap (λ u. u ∷ b.ty ∷ []) j.0 ∙ ap (λ u. Bool ∷ u ∷ []) j.1) (sym j.2) tt))

  pub iff_says : (rs : List Reading) (ts : List TypedExpression) (t : TypedExpression) → AllTell constants m types cells rs ts → chain Equal ts ≡ Some t → Says constants m types cells (reads_truth (equivalent (values_in rs))) t
  iff_says rs [] t all e = cc
  iff_says [] (a ∷ bs) t all e = absurd all
  iff_says (r ∷ qs) (a ∷ bs) t all e =
      let x = if_then (is_boolean a.ty) (chain_from Equal a bs) t e in
      let h = all.0 in
      let is = boolean_is a.ty x.0 in
      let b = truth_told constants m types cells r a h is in
      says_as constants m types cells (left same_of r qs) (reads_truth (equivalent (values_in (r ∷ qs)))) t (sym (left_same r qs (h.type ∙ is) (b.is ∙ ap (λ u. truth (holds u)) (sym b.is))))
      (chain_says Equal same_of equal_step r a qs bs t h all.1 x.1)

  -- bits behind each other
  joined_step : Step Joined joined_of
  joined_step r q a b c h k e =
      let x = map_some (λ ty. operation Concat ty (a ∷ b ∷ [])) (joined_type Joined a.ty b.ty) c e in
      let j = joined_are Joined a.ty b.ty x.0 x.1 in
      let first : width r.type ≡ j.0 = ap width (h.type ∙ j.2) ∙ width_bits j.0 in
      let second : width q.type ≡ j.1 = ap width (k.type ∙ j.3) ∙ width_bits j.1 in
      let both : Bv (width r.type + width q.type) ≡ x.0 = ap (λ v. Bv (v + width q.type)) first ∙ ap (λ w. Bv (j.0 + w)) second ∙ sym j.4 in
      subst (Says constants m types cells (joined_of r q)) x.2
      (says_as constants m types cells (reads x.0 (bv_concat r.value q.value)) (joined_of r q) (operation Concat x.0 (a ∷ b ∷ [])) (ap (λ u. reads u (bv_concat r.value q.value)) both)
      (operation_says constants m types cells Concat x.0 (r ∷ q ∷ []) (a ∷ b ∷ []) (h, (k, tt))
      (j.0, j.1, ap (λ u. u ∷ b.ty ∷ []) j.2 ∙ ap (λ u. Bv j.0 ∷ u ∷ []) j.3, j.5)
      (ap (λ u. Bv (width_of u + width_of b.ty)) j.2 ∙ ap (λ u. Bv (j.0 + width_of u)) j.3 ∙ sym j.4) tt))

  pub concat_says : (rs : List Reading) (ts : List TypedExpression) (t : TypedExpression) → AllTell constants m types cells rs ts → chain Joined ts ≡ Some t → Says constants m types cells (reads (Bv (widths rs)) (chained concatenated (values_in rs))) t
  concat_says rs [] t all e = cc
  concat_says [] (a ∷ bs) t all e = absurd all
  concat_says (r ∷ qs) (a ∷ bs) t all e =
      let x = if_then (is_bits a.ty) (chain_from Joined a bs) t e in
      let h = all.0 in
      let b = bits_are a.ty x.0 in
      says_as constants m types cells (left joined_of r qs) (reads (Bv (widths (r ∷ qs))) (chained concatenated (values_in (r ∷ qs)))) t (sym (left_joined r qs b.0 (h.type ∙ b.1)))
      (chain_says Joined joined_of joined_step r a qs bs t h all.1 x.1)

  -- sums
  sign_step : (is_minus : Truth) (r q : Reading) (a b c : TypedExpression) → Says constants m types cells r a → Says constants m types cells q b → joined (if is_minus then Subtract else Add) a b ≡ Some c
      → Says constants m types cells (reads r.type (if is_minus then minus r.value q.value else plus r.value q.value)) c
  sign_step true r q a b c h k e = kept_step Subtract minus (λ a b ty j. joined_are Subtract a b ty j) (λ us s. s) (λ us. refl) tt (λ w us x y. refl) r q a b c h k e
  sign_step false r q a b c h k e = kept_step Add plus (λ a b ty j. joined_are Add a b ty j) (λ us s. s) (λ us. refl) tt (λ w us x y. refl) r q a b c h k e

  sum_told : (r : Reading) (a : TypedExpression) (ss : List SumSign) (qs : List Reading) (bs : List TypedExpression) (t : TypedExpression) → Says constants m types cells r a → AllTell constants m types cells qs bs → sum_from a ss bs ≡ Some t
      → Says constants m types cells (reads r.type (summed_from r.value ss (values_in qs))) t
  unfolding sum_from summed_from
  sum_told r a [] [] [] t h all e = subst (Says constants m types cells r) (some_is a t e) h
  sum_told r a (s ∷ ss) [] [] t h all e = subst (Says constants m types cells r) (some_is a t e) h
  sum_told r a [] (q ∷ qs) (b ∷ bs) t h all e = subst (Says constants m types cells r) (some_is a t e) h
  sum_told r a ss [] (b ∷ bs) t h all e = absurd all
  sum_told r a ss (q ∷ qs) [] t h all e = absurd all
  sum_told r a (s ∷ ss) (q ∷ qs) (b ∷ bs) t h all e =
      let x = then_some (λ c. sum_from c ss bs) (joined (sign_chain s) a b) t e in
      sum_told (reads r.type (if s.is_minus then minus r.value q.value else plus r.value q.value)) x.0 ss qs bs t (sign_step s.is_minus r q a b x.0 h all.0 x.1) all.1 x.2

  pub sum_says : (signs : List SumSign) (rs : List Reading) (ts : List TypedExpression) (t : TypedExpression) → AllTell constants m types cells rs ts → sum signs ts ≡ Some t → Says constants m types cells (reads (type_first rs) (summed signs (values_in rs))) t
  sum_says signs rs [] t all e = cc
  sum_says signs [] (a ∷ bs) t all e = absurd all
  sum_says signs (r ∷ qs) (a ∷ bs) t all e = let x = if_then (is_bits a.ty) (sum_from a signs bs) t e in sum_told r a signs qs bs t all.0 all.1 x.1
