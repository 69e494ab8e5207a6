-- What fields, ranges of bits and functions on bits say.
use Rattle.std.proofs.Common.{◌≡◌, ℕ, pos, ◌+◌, ◌-◌, ◌≤◌, Bool as Truth, true, false, List, [], ◌∷◌, map, slice_get, Option, Some, None, unwrap_or, refl, sym, ap, ◌∙◌, subst, rules}
use Rattle.std.specs.Prelude.{nat_eq, slice_index_or}
use Rattle.std.specs.List.{position_from}
use Rattle.std.specs.Option.{option_map}
use Rattle.std.proofs.lemmas.Option.{slice_get-map, slice_get_within, get_or_from_slice_get}
use Rattle.uc_syntax.specs.declared.expression.BitFunction.{BitFunction}
use Rattle.uc_syntax.specs.declared.expression.BitFunction.TheVariants.{ZeroExtend, SignExtend, ShiftLeft, ShiftRight, ShiftRightSigned}
use Rattle.uc_values.specs.Values.{parts_of, field_of}
use Rattle.uc_values.specs.declared.ty.Field.{Field}
use Rattle.uc_values.specs.declared.ty.Ty.{Ty}
use Rattle.uc_values.specs.declared.ty.Ty.TheVariants.{Bool, Bv, Rec, rolls-Rec}
use Rattle.uc_values.specs.declared.ty.Ty.TheOpen.{Ty-F}
use Rattle.uc_values.specs.declared.ty.Ty.TheOpen.Ty-F.{Bool as boolean_form, Int as integer_form, Bv as bits_form, Enum as enum_form, Un as open_form, Rec as record_form, Arr as array_form}
use Rattle.uc_values.specs.declared.ty.Ty.TheViews.{roll-Ty, out-Ty, the_lemmas}
use Rattle.uc_values.specs.declared.value.Value.{Value}
use Rattle.uc_values.specs.declared.value.Value.TheVariants.{Bool as truth, Int as whole, Bv as word}
use Rattle.uc_ops.specs.declared.model.Model.{Model}
use Rattle.uc_ops.specs.declared.op.Op.{Op}
use Rattle.uc_ops.specs.declared.op.Op.TheVariants.{Extract, ZeroExt, SignExt, Shl, Lshr, Ashr, GetField}
use Rattle.uc_ops.specs.Typing.{Suits, Pair_of_bits, type_or, part_type, width_of, type_of as result_type, fields_form as op_fields_form, fields_of as op_fields_of}
use Rattle.uc_ops.specs.Meaning.{apply}
use Rattle.uc_flat_expressions.specs.declared.typed.TypedExpression.{TypedExpression}
use Rattle.uc_flat_expressions.specs.Types.{are_same_bits}
use Rattle.uc_flat_expressions.specs.Building.{operation, concat_type, field_at, field_selected, is_range, range_selected, extension_op, extended, extension, shift, on_bits}
use Rattle.uc_meaning.specs.Operators.{extracted, on_bits as bits_given}
use Rattle.uc_meaning.specs.Expressions.{Reading, reads, width, fields_form, fields_of, field_number, field_reading, extension as extension_by, on_bits_type}
use Rattle.uc_flat_design.specs.Sayings.{Says, IsNumber}
use Rattle.uc_flat_design.proofs.FlatMeaningOptions.{some_is, if_some, map_some, then_some}
use Rattle.uc_flat_design.proofs.TypeKinds.{concat_is, range_is, same_bits_are}
use Rattle.uc_flat_design.proofs.Saying.{IsPlain, says_as, operation_says}
use Rattle.uc_flat_design.proofs.Words.{one_says, pair_says}
use Rattle.uc_flat_design.proofs.Chains.{width_bits}

rolled : (t : Ty) → roll-Ty (out-Ty t) ≡ t
rolled t = search (rules, the_lemmas)

-- a type with a field is that of a record
record_form_is : (x : Ty-F Ty) (k : ℕ) (f : Field Ty) → slice_get (op_fields_form x) k ≡ Some f → roll-Ty x ≡ Rec (op_fields_form x)
record_form_is (record_form fs) k f h = rolls-Rec fs
record_form_is boolean_form k f h = cc
record_form_is integer_form k f h = cc
record_form_is (bits_form w) k f h = cc
record_form_is (enum_form e l) k f h = cc
record_form_is (open_form u) k f h = cc
record_form_is (array_form i e) k f h = cc

record_is : (ty : Ty) (k : ℕ) (f : Field Ty) → slice_get (op_fields_of ty) k ≡ Some f → ty ≡ Rec (op_fields_of ty)
record_is ty k f h = sym (rolled ty) ∙ record_form_is (out-Ty ty) k f h

same_fields_form : (x : Ty-F Ty) → fields_form x ≡ op_fields_form x
same_fields_form (record_form fs) = refl
same_fields_form boolean_form = refl
same_fields_form integer_form = refl
same_fields_form (bits_form w) = refl
same_fields_form (enum_form e l) = refl
same_fields_form (open_form u) = refl
same_fields_form (array_form i e) = refl

same_fields : (ty : Ty) → fields_of ty ≡ op_fields_of ty
same_fields ty = same_fields_form (out-Ty ty)

field_found : (a t : TypedExpression) (k : ℕ) (o : Option (Field Ty)) → field_at a k o ≡ Some t → (f : Field Ty) × (o ≡ Some f) × (operation (GetField k) f.ty (a ∷ []) ≡ t)
field_found a t k None h = cc
field_found a t k (Some f) h = (f, refl, some_is (operation (GetField k) f.ty (a ∷ [])) t h)

-- a field's type and value, at the first place of its name
abbrev field_at_number : List (Field Ty) → List Value → ℕ → Reading
field_at_number fs vs k = reads (slice_index_or (map (λ (d : Field Ty). d.ty) fs) k Bool) (slice_index_or vs k (truth false))

extended_found : (signed : Truth) (more : ℕ) (ty : Ty) (a t : TypedExpression) → extended signed more ty a ≡ Some t
    → (w : ℕ) × (ty ≡ Bv w) × (w + more ≤ 64) × (operation (extension_op signed more) (Bv (w + more)) (a ∷ []) ≡ t)
extended_found signed more (Bv w) a t h =
    let x = map_some (λ ty. operation (extension_op signed more) ty (a ∷ [])) (concat_type w more) t h in
    let c = concat_is w more x.0 x.1 in
    (w, refl, c.1, ap (λ ty. operation (extension_op signed more) ty (a ∷ [])) (sym c.0) ∙ x.2)
extended_found signed more other a t h = cc

extension_found : (signed : Truth) (o : Option ℕ) (a t : TypedExpression) → extension signed o a ≡ Some t → (more : ℕ) × (o ≡ Some more) × (extended signed more a.ty a ≡ Some t)
extension_found signed None a t h = cc
extension_found signed (Some more) a t h = (more, refl, h)

module _ (constants : List Ty) (m : Model) (types : List Ty) (cells : List Value) where
  pub field_says : (r : Reading) (a t : TypedExpression) (x : ℕ) → Says constants m types cells r a → field_selected a x ≡ Some t → Says constants m types cells (field_reading r x) t
  field_says r a t x h e =
      let fs = op_fields_of a.ty in
      let p = then_some (λ k. field_at a k (slice_get fs k)) (position_from (λ (d : Field Ty). nat_eq d.name x) 0 fs) t e in
      let k = p.0 in
      let g = field_found a t k (slice_get fs k) p.2 in
      let f = g.0 in
      let ty_at : slice_get (map (λ (d : Field Ty). d.ty) fs) k ≡ Some f.ty = slice_get-map (λ (d : Field Ty). d.ty) fs k ∙ ap (option_map (λ (d : Field Ty). d.ty)) g.1 in
      let fields : fields_of r.type ≡ fs = ap fields_of h.type ∙ same_fields a.ty in
      let place : field_number (fields_of r.type) x ≡ k = ap (λ gs. field_number gs x) fields ∙ ap (λ o. unwrap_or o 0) p.1 in
      let same : field_reading r x ≡ reads f.ty (field_of r.value k) =
      ap (λ gs. field_at_number gs (parts_of r.value) (field_number (fields_of r.type) x)) fields
      ∙ ap (field_at_number fs (parts_of r.value)) place
      ∙ ap (λ u. reads u (field_of r.value k)) (get_or_from_slice_get (map (λ (d : Field Ty). d.ty) fs) k f.ty Bool ty_at) in
      subst (Says constants m types cells (field_reading r x)) g.2
      (says_as constants m types cells (reads f.ty (field_of r.value k)) (field_reading r x) (operation (GetField k) f.ty (a ∷ [])) same
      (operation_says constants m types cells (GetField k) f.ty (r ∷ []) (a ∷ []) (h, tt)
      (fs, ap (λ u. u ∷ []) (record_is a.ty k f g.1), slice_get_within fs k f g.1) (ap type_or ty_at) tt))

  pub range_says : (r : Reading) (a t : TypedExpression) (high low : ℕ) → Says constants m types cells r a → range_selected a high low ≡ Some t → Says constants m types cells (reads (Bv (high - low + 1)) (extracted high low r.value)) t
  range_says r a t high low h e =
      let x = if_some (is_range high low a.ty) (operation (Extract high low) (Bv (high - low + 1)) (a ∷ [])) t e in
      let g = range_is high low a.ty x.0 in
      subst (Says constants m types cells (reads (Bv (high - low + 1)) (extracted high low r.value))) x.1
      (operation_says constants m types cells (Extract high low) (Bv (high - low + 1)) (r ∷ []) (a ∷ []) (h, tt) (g.width, ap (λ u. u ∷ []) g.is, g.order, g.within) refl tt)

  -- more bits
  zero_says : (more : ℕ) (r : Reading) (a t : TypedExpression) → Says constants m types cells r a → extended false more a.ty a ≡ Some t → Says constants m types cells (reads (Bv (width r.type + more)) (bits_given ZeroExtend (whole (pos more)) r.value)) t
  zero_says more r a t h e =
      let x = extended_found false more a.ty a t e in
      let w = x.0 in
      let g = bits_given ZeroExtend (whole (pos more)) in
      subst (Says constants m types cells (reads (Bv (width r.type + more)) (g r.value))) x.3
      (says_as constants m types cells (reads (Bv (w + more)) (g r.value)) (reads (Bv (width r.type + more)) (g r.value)) (operation (ZeroExt more) (Bv (w + more)) (a ∷ []))
      (ap (λ v. reads (Bv (v + more)) (g r.value)) (ap width (h.type ∙ x.1) ∙ width_bits w))
      (one_says constants m types cells (ZeroExt more) (Bv (w + more)) g r a w h x.1 (w, ap (λ u. u ∷ []) x.1, x.2) (ap (λ u. Bv (width_of u + more)) x.1) tt (λ us y. refl)))

  sign_says : (more : ℕ) (r : Reading) (a t : TypedExpression) → Says constants m types cells r a → extended true more a.ty a ≡ Some t → Says constants m types cells (reads (Bv (width r.type + more)) (bits_given SignExtend (whole (pos more)) r.value)) t
  sign_says more r a t h e =
      let x = extended_found true more a.ty a t e in
      let w = x.0 in
      let g = bits_given SignExtend (whole (pos more)) in
      subst (Says constants m types cells (reads (Bv (width r.type + more)) (g r.value))) x.3
      (says_as constants m types cells (reads (Bv (w + more)) (g r.value)) (reads (Bv (width r.type + more)) (g r.value)) (operation (SignExt more) (Bv (w + more)) (a ∷ []))
      (ap (λ v. reads (Bv (v + more)) (g r.value)) (ap width (h.type ∙ x.1) ∙ width_bits w))
      (one_says constants m types cells (SignExt more) (Bv (w + more)) g r a w h x.1 (w, ap (λ u. u ∷ []) x.1, x.2) (ap (λ u. Bv (width_of u + more)) x.1) tt (λ us y. refl)))

  -- what a function on bits says of a number or an amount, and of bits
  abbrev Given : BitFunction → Reading → Reading → Reading
  Given function q r = reads (on_bits_type function q.value r.type) (bits_given function q.value r.value)

  shift_says : (op : Op) (g : Value → Value → Value) (q r : Reading) (b a t : TypedExpression) → Says constants m types cells q b → Says constants m types cells r a
      → ((us : List Ty) → Pair_of_bits us → Suits op us) → ((us : List Ty) → result_type op us ≡ part_type us 0) → IsPlain op → ((w : ℕ) (us : List Ty) (x y : ℕ) → apply m op us (word w x ∷ word w y ∷ []) ≡ g (word w x) (word w y))
      → shift op b a ≡ Some t → Says constants m types cells (reads r.type (g r.value q.value)) t
  shift_says op g q r b a t k h suits result plain same e =
      let x = if_some (are_same_bits b.ty a.ty) (operation op a.ty (a ∷ b ∷ [])) t e in
      let w = same_bits_are b.ty a.ty x.0 in
      subst (Says constants m types cells (reads r.type (g r.value q.value))) x.1
      (says_as constants m types cells (reads a.ty (g r.value q.value)) (reads r.type (g r.value q.value)) (operation op a.ty (a ∷ b ∷ [])) (ap (λ u. reads u (g r.value q.value)) h.type)
      (pair_says constants m types cells op a.ty g r q a b w.width h k w.second w.first suits (result (a.ty ∷ b.ty ∷ [])) plain (same w.width)))

  pub on_bits_says : (function : BitFunction) (q r : Reading) (b a t : TypedExpression) → Says constants m types cells q b → Says constants m types cells r a → on_bits function b a ≡ Some t → Says constants m types cells (Given function q r) t
  on_bits_says ZeroExtend q r b a t k h e =
      let x = extension_found false b.number a t e in
      let l = subst (λ o. IsNumber o q) x.1 k.literal in
      says_as constants m types cells (reads (Bv (width r.type + x.0)) (bits_given ZeroExtend (whole (pos x.0)) r.value)) (Given ZeroExtend q r) t
      (ap (λ v. reads (Bv (width r.type + extension_by v)) (bits_given ZeroExtend v r.value)) l.1) (zero_says x.0 r a t h x.2)
  on_bits_says SignExtend q r b a t k h e =
      let x = extension_found true b.number a t e in
      let l = subst (λ o. IsNumber o q) x.1 k.literal in
      says_as constants m types cells (reads (Bv (width r.type + x.0)) (bits_given SignExtend (whole (pos x.0)) r.value)) (Given SignExtend q r) t
      (ap (λ v. reads (Bv (width r.type + extension_by v)) (bits_given SignExtend v r.value)) l.1) (sign_says x.0 r a t h x.2)
  on_bits_says ShiftLeft q r b a t k h e = shift_says Shl (λ v u. bits_given ShiftLeft u v) q r b a t k h (λ us s. s) (λ us. refl) tt (λ w us x y. refl) e
  on_bits_says ShiftRight q r b a t k h e = shift_says Lshr (λ v u. bits_given ShiftRight u v) q r b a t k h (λ us s. s) (λ us. refl) tt (λ w us x y. refl) e
  on_bits_says ShiftRightSigned q r b a t k h e = shift_says Ashr (λ v u. bits_given ShiftRightSigned u v) q r b a t k h (λ us s. s) (λ us. refl) tt (λ w us x y. refl) e
