-- The expression over cells by which a part behind fields is replaced.
use Rattle.std.proofs.Common.{◌≡◌, ℕ, suc, ◌+◌, ◌<◌, List, [], ◌∷◌, map, length, refl, sym, ap, ◌∙◌, subst, true, false, Bool, Some, cond, arith}
use Rattle.std.specs.Prelude.{◌||◌, nat_eq, unwrap_or, slice_get, slice_set, slice_index_or}
use Rattle.std.specs.Option.{option_map, option_and_then}
use Rattle.std.specs.List.{list_any, position_from}
use Rattle.std.proofs.lemmas.List.{map-set}
use Rattle.std.proofs.lemmas.Option.{slice_get-map, get_or_from_slice_get}
use Rattle.uc_lexer.specs.declared.place.Place.{Place}
use Rattle.uc_syntax.specs.declared.place.Identifier.{Identifier}
use Rattle.uc_syntax.specs.declared.statement.TargetPart.{TargetPart}
use Rattle.uc_syntax.specs.declared.statement.TargetPart.TheVariants.{Field as FieldPart, Element as ElementPart}
use Rattle.uc_values.specs.declared.ty.Field.{Field}
use Rattle.uc_values.specs.declared.ty.Ty.{Ty}
use Rattle.uc_values.specs.declared.ty.Ty.TheVariants.{Bool as Boolean}
use Rattle.uc_values.specs.declared.ty.Ty.TheViews.{out-Ty}
use Rattle.uc_values.specs.declared.ty.Ty.TheOpen.{Ty-F}
use Rattle.uc_values.specs.declared.ty.Ty.TheOpen.Ty-F.{Bool as boolean_type, Int as integer_type, Bv as bits_type, Rec as record_type, Arr as array_type, Enum as enum_type, Un as open_type}
use Rattle.uc_values.specs.declared.value.Value.{Value}
use Rattle.uc_values.specs.declared.value.Value.TheVariants.{Bool as truth, Rec, rolls-Rec}
use Rattle.uc_values.specs.Values.{fits, parts_of, field_of, with_field as value_with}
use Rattle.uc_meaning.specs.declared.scope.Scope.{Scope}
use Rattle.uc_meaning.specs.Lookup.{System}
use Rattle.uc_meaning.specs.Expressions.{Reading, reads, fields_form, fields_of, field_number, field_type, field_reading}
use Rattle.uc_meaning.specs.Code.{replaced}
use Rattle.uc_meaning.specs.Steps.{part_reading, fields_before, from_index}
use Rattle.uc_ops.specs.declared.model.Model.{Model}
use Rattle.uc_ops.specs.declared.op.Op.TheVariants.{MkRec, GetField}
use Rattle.uc_ops.specs.Typing.{fields_form as op_fields_form, fields_of as op_fields_of}
use Rattle.uc_ops.specs.Equality.{equal_types}
use Rattle.uc_ops.specs.Decisions.{types-decided}
use Rattle.uc_flat.specs.declared.expression.Expression.{Expression}
use Rattle.uc_flat.specs.Reading.{value_of}
use Rattle.uc_flat.proofs.Forms.{value_apply}
use Rattle.uc_flat_expressions.specs.declared.typed.TypedExpression.{TypedExpression}
use Rattle.uc_flat_code.specs.Code.{field_in, fields_in, with_field, are_different, field_place, replaced_in}
use Rattle.uc_flat_design.proofs.FlatInitLawOptions.{then_some, map_some, if_some, some_same}
use Rattle.uc_flat_design.proofs.Fields.{name_is, has_field, field_of_fit, field_fits, placed, IsPath}

same_fields_form : (x : Ty-F Ty) → fields_form x ≡ op_fields_form x
same_fields_form (record_type fs) = refl
same_fields_form boolean_type = refl
same_fields_form integer_type = refl
same_fields_form (bits_type w) = refl
same_fields_form (enum_type e l) = refl
same_fields_form (open_type u) = refl
same_fields_form (array_type i e) = refl

pub same_fields : (ty : Ty) → fields_of ty ≡ op_fields_of ty
same_fields ty = same_fields_form (out-Ty ty)

any_of_place : (f j k : ℕ) (fs : List (Field Ty)) → position_from (name_is f) j fs ≡ Some k → list_any (name_is f) fs ≡ true
any_of_place f j k [] h = absurd (cc)
any_of_place f j k (d ∷ fs) h = here (nat_eq d.name f) refl (λ q. any_of_place f (j + 1) k fs q)
  where
    here : (b : Bool) → nat_eq d.name f ≡ b → (position_from (name_is f) (j + 1) fs ≡ Some k → list_any (name_is f) fs ≡ true) → (nat_eq d.name f || list_any (name_is f) fs) ≡ true
    here true e rest = ap (λ b. b || list_any (name_is f) fs) e
    here false e rest =
        ap (λ b. b || list_any (name_is f) fs) e
        ∙ rest (sym (ap (λ b. cond b (Some j) (position_from (name_is f) (j + 1) fs)) e) ∙ h)

-- What is known of a field that has a place.
pub record HasPlace (ty : Ty) (f k : ℕ) : Type 0 where
  pub different : are_different (fields_of ty) ≡ true
  pub has : has_field ty f ≡ true
  pub number : field_number (fields_of ty) f ≡ k

pub place_known : (ty : Ty) (f k : ℕ) → field_place ty f ≡ Some k → HasPlace ty f k
place_known ty f k h =
    let fs = op_fields_of ty in
    let b = if_some (are_different fs) (position_from (name_is f) 0 fs) k h in
    record {
      different = ap are_different (same_fields ty) ∙ b.0;
      has = ap (list_any (name_is f)) (same_fields ty) ∙ any_of_place f 0 k fs b.1;
      number = ap (λ ds. field_number ds f) (same_fields ty) ∙ ap (λ o. unwrap_or o 0) b.1;
    }

pub place_type : (ty : Ty) (f k : ℕ) (d : Field Ty) → HasPlace ty f k → slice_get (op_fields_of ty) k ≡ Some d → field_type ty f ≡ d.ty
place_type ty f k d p h =
    let fs = op_fields_of ty in
    let at : slice_get (map (λ (x : Field Ty). x.ty) fs) k ≡ Some d.ty = slice_get-map (λ (x : Field Ty). x.ty) fs k ∙ ap (option_map (λ (x : Field Ty). x.ty)) h in
    ap (λ n. slice_index_or (map (λ (x : Field Ty). x.ty) (fields_of ty)) n Boolean) p.number
    ∙ ap (λ ds. slice_index_or (map (λ (x : Field Ty). x.ty) ds) k Boolean) (same_fields ty)
    ∙ get_or_from_slice_get (map (λ (x : Field Ty). x.ty) fs) k d.ty Boolean at

-- ---- values

value_field : (m : Model) (types : List Ty) (cells : List Value) (whole : Expression) (k : ℕ) → value_of m types cells (field_in whole k) ≡ field_of (value_of m types cells whole) k
value_field m types cells whole k = value_apply m types cells (GetField k) (whole ∷ [])

-- the fields of a record are its parts
values_in : (m : Model) (types : List Ty) (cells : List Value) (whole : Expression) (fs : List (Field Ty)) (j : ℕ) (xs : List Value) → length xs ≡ length fs
    → ((i : ℕ) → i < length xs → field_of (value_of m types cells whole) (i + j) ≡ slice_index_or xs i (truth false)) → map (value_of m types cells) (fields_in whole j fs) ≡ xs
unfolding fields_in
values_in m types cells whole [] j [] e h = refl
values_in m types cells whole [] j (x ∷ xs) e h = absurd (omega (arith, e))
values_in m types cells whole (d ∷ fs) j [] e h = absurd (omega (arith, e))
values_in m types cells whole (d ∷ fs) j (x ∷ xs) e h =
    ap (λ v. v ∷ map (value_of m types cells) (fields_in whole (j + 1) fs)) (value_field m types cells whole j ∙ ap (field_of (value_of m types cells whole)) (first j) ∙ h 0 (omega arith))
    ∙ ap (λ vs. x ∷ vs) (values_in m types cells whole fs (j + 1) xs (omega (arith, e)) (λ i l. ap (field_of (value_of m types cells whole)) (moved i j) ∙ h (suc i) (omega (arith, l))))
  where
    moved : (a b : ℕ) → a + (b + 1) ≡ suc a + b
    moved a b = omega arith

    first : (a : ℕ) → a ≡ 0 + a
    first a = omega arith

value_record : (m : Model) (types : List Ty) (cells : List Value) (whole e : Expression) (ty : Ty) (f k : ℕ) → HasPlace ty f k → fits ty (value_of m types cells whole) ≡ true
    → value_of m types cells (with_field whole ty k e) ≡ value_with (value_of m types cells whole) k (value_of m types cells e)
value_record m types cells whole e ty f k p g =
    let v = value_of m types cells whole in
    let fs = op_fields_of ty in
    let i = field_of_fit ty v f g p.has in
    let even : length (parts_of v) ≡ length fs = ap length i.own ∙ i.even ∙ ap length (same_fields ty) in
    value_apply m types cells (MkRec ty) (slice_set (fields_in whole 0 fs) k e)
    ∙ ap Rec (map-set (value_of m types cells) (fields_in whole 0 fs) k e)
    ∙ ap (λ xs. Rec (slice_set xs k (value_of m types cells e))) (values_in m types cells whole fs 0 (parts_of v) even (λ n l. ap (field_of v) (plain n)))
  where
    plain : (n : ℕ) → n + 0 ≡ n
    plain n = omega arith

-- An expression that stands for a value in which a part behind fields is replaced.
pub record Replaces (whole : Expression) (ty : Ty) (parts : List TargetPart) (t : TypedExpression) (e : Expression) : Type 0 where
  pub path : IsPath ty (fields_before parts)
  pub plain : from_index parts ≡ []
  pub type : (v : Value) → (part_reading (reads ty v) (fields_before parts)).type ≡ t.ty
  pub value : (m : Model) (types : List Ty) (cells : List Value) → fits ty (value_of m types cells whole) ≡ true
      → value_of m types cells e ≡ placed (reads ty (value_of m types cells whole)) (fields_before parts) (value_of m types cells t.expression)

-- one field more in front
deeper : (place : Place) (f : Identifier) (parts : List TargetPart) (whole e : Expression) (ty : Ty) (t : TypedExpression) (k : ℕ) (d : Field Ty) → HasPlace ty f.name k → slice_get (op_fields_of ty) k ≡ Some d
    → Replaces (field_in whole k) d.ty parts t e → Replaces whole ty (FieldPart place f ∷ parts) t (with_field whole ty k e)
unfolding fields_before from_index part_reading placed
deeper place f parts whole e ty t k d p at r =
    let own = place_type ty f.name k d p at in
    record {
      path = (p.different, p.has, subst (λ s. IsPath s (fields_before parts)) (sym own) r.path);
      plain = r.plain;
      type = λ v. ap (λ s. (part_reading (reads s (field_reading (reads ty v) f.name).value) (fields_before parts)).type) own ∙ r.type (field_reading (reads ty v) f.name).value;
      value = λ m types cells g.
          let v = value_of m types cells whole in
          let u = value_of m types cells t.expression in
          let part_is : value_of m types cells (field_in whole k) ≡ (field_reading (reads ty v) f.name).value =
          value_field m types cells whole k ∙ ap (λ n. slice_index_or (parts_of v) n (truth false)) (sym p.number) in
          let part_fit : fits d.ty (value_of m types cells (field_in whole k)) ≡ true =
          ap (fits d.ty) part_is ∙ ap (λ s. fits s (field_reading (reads ty v) f.name).value) (sym own) ∙ field_fits ty v f.name g p.has in
          value_record m types cells whole e ty f.name k p g
          ∙ ap (value_with v k)
          (r.value m types cells part_fit
          ∙ ap (λ x. placed (reads d.ty x) (fields_before parts) u) part_is
          ∙ ap (λ s. placed (reads s (field_reading (reads ty v) f.name).value) (fields_before parts) u) (sym own))
          ∙ ap (λ n. value_with v n (placed (field_reading (reads ty v) f.name) (fields_before parts) u)) (sym p.number);
    }

whole_replaces : (whole : Expression) (ty : Ty) (t : TypedExpression) → equal_types ty t.ty ≡ true → Replaces whole ty [] t t.expression
unfolding fields_before from_index part_reading placed
whole_replaces whole ty t h = record {
  path = tt;
  plain = refl;
  type = λ v. (types-decided ty t.ty).0 h;
  value = λ m types cells g. refl;
}

pub replaced_known : (parts : List TargetPart) (whole e : Expression) (ty : Ty) (t : TypedExpression) → replaced_in whole ty parts t ≡ Some e → Replaces whole ty parts t e
unfolding replaced_in
replaced_known [] whole e ty t h =
    let b = if_some (equal_types ty t.ty) (Some t.expression) e h in
    subst (Replaces whole ty [] t) (some_same t.expression e b.1) (whole_replaces whole ty t b.0)
replaced_known (FieldPart place f ∷ parts) whole e ty t h =
    let s = then_some (λ k. option_and_then (λ d. option_map (with_field whole ty k) (replaced_in (field_in whole k) d.ty parts t)) (slice_get (op_fields_of ty) k)) (field_place ty f.name) e h in
    let k = s.0 in
    let o = then_some (λ d. option_map (with_field whole ty k) (replaced_in (field_in whole k) d.ty parts t)) (slice_get (op_fields_of ty) k) e s.2 in
    let d = o.0 in
    let q = map_some (with_field whole ty k) (replaced_in (field_in whole k) d.ty parts t) e o.2 in
    subst (Replaces whole ty (FieldPart place f ∷ parts) t) q.2
    (deeper place f parts whole q.0 ty t k d (place_known ty f.name k s.1) o.1 (replaced_known parts (field_in whole k) q.0 d.ty t q.1))
replaced_known (ElementPart place i ∷ parts) whole e ty t h = absurd (cc)

-- ---- what a design writes

pub replaced_placed : (system : System) (s : Scope) (parts : List TargetPart) (r : Reading) (v : Value) → from_index parts ≡ [] → replaced system s r parts v ≡ placed r (fields_before parts) v
unfolding replaced from_index fields_before placed
replaced_placed system s [] r v h = refl
replaced_placed system s (FieldPart place f ∷ parts) r v h =
    rolls-Rec (slice_set (parts_of r.value) (field_number (fields_of r.type) f.name) (replaced system s (field_reading r f.name) parts v))
    ∙ ap (λ x. Rec (slice_set (parts_of r.value) (field_number (fields_of r.type) f.name) x)) (replaced_placed system s parts (field_reading r f.name) v h)
replaced_placed system s (ElementPart place i ∷ parts) r v h = absurd (cc)
