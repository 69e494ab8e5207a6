-- The expression by which a part behind fields is replaced fits the cells, and reads what its parts read.
use Rattle.std.proofs.Common.{◌≡◌, ℕ, zero, suc, ◌+◌, ◌<◌, List, [], ◌∷◌, map, length, refl, sym, ap, ◌∙◌, subst, true, false, Option, Some, None, slice_get, arith, rules}
use Rattle.std.specs.Prelude.{if◌then◌else◌, Bool as Truth, slice_set, All}
use Rattle.std.specs.Option.{option_map, option_and_then}
use Rattle.std.specs.List.{list_all}
use Rattle.std.proofs.lemmas.List.{map-set}
use Rattle.std.proofs.lemmas.List.Elements.{All-cons, All-nil, All-set}
use Rattle.std.proofs.lemmas.Option.{none-some, same_Some, slice_get-map, slice_get_within}
use Rattle.uc_syntax.specs.declared.statement.TargetPart.{TargetPart}
use Rattle.uc_syntax.specs.declared.statement.TargetPart.TheVariants.{Field as FieldPart, Element as ElementPart}
use Rattle.uc_values.specs.declared.ty.Field.{Field}
use Rattle.uc_values.specs.declared.ty.Ty.{Ty}
use Rattle.uc_values.specs.declared.ty.Ty.TheVariants.{Rec, rolls-Rec}
use Rattle.uc_values.specs.declared.ty.Ty.TheOpen.{Ty-F}
use Rattle.uc_values.specs.declared.ty.Ty.TheOpen.Ty-F.{Bool as boolean_form, Int as integer_form, Bv as bits_form, Enum as enum_form, Un as open_form, Rec as record_form, Arr as array_form}
use Rattle.uc_values.specs.declared.ty.Ty.TheViews.{roll-Ty, out-Ty, the_lemmas}
use Rattle.uc_values.specs.Types.{is_valid, field_types}
use Rattle.uc_values.proofs.Shapes.{and_true, valid-Rec}
use Rattle.uc_ops.specs.declared.op.Op.{Op}
use Rattle.uc_ops.specs.declared.op.Op.TheVariants.{Symbol, MkRec, GetField}
use Rattle.uc_ops.specs.Typing.{Valid, type_or, part_type, fields_form, fields_of}
use Rattle.uc_ops.specs.Equality.{equal_types}
use Rattle.uc_ops.specs.Decisions.{types-decided}
use Rattle.uc_flat.specs.declared.expression.Expression.{Expression}
use Rattle.uc_flat.specs.Reading.{type_of}
use Rattle.uc_flat.specs.Fine.{IsTyped}
use Rattle.uc_flat.proofs.Forms.{type_apply}
use Rattle.uc_flat.proofs.Making.{typed_apply}
use Rattle.uc_flat_design.proofs.OnlyReads.{ReadsOnly, apply_reads}
use Rattle.uc_flat_expressions.specs.declared.typed.TypedExpression.{TypedExpression}
use Rattle.uc_flat_code.specs.CellTypes.{is_cell_type}
use Rattle.uc_flat_code.proofs.CellTypes.{record_is as fields_are}
use Rattle.uc_flat_code.specs.Code.{field_in, fields_in, with_field, field_place, replaced_in}

rolled : (t : Ty) → roll-Ty (out-Ty t) ≡ t
rolled t = search (rules, the_lemmas)

record_form_is : (x : Ty-F Ty) (k : ℕ) (f : Field Ty) → slice_get (fields_form x) k ≡ Some f → roll-Ty x ≡ Rec (fields_form x)
record_form_is (record_form fs) k f h = rolls-Rec fs
record_form_is boolean_form k f h = cc
record_form_is integer_form k f h = cc
record_form_is (bits_form w) k f h = cc
record_form_is (enum_form e l) k f h = cc
record_form_is (open_form u) k f h = cc
record_form_is (array_form i e) k f h = cc

record_is : (ty : Ty) (k : ℕ) (f : Field Ty) → slice_get (fields_of ty) k ≡ Some f → ty ≡ Rec (fields_of ty)
record_is ty k f h = sym (rolled ty) ∙ record_form_is (out-Ty ty) k f h

then_parts : {X Y : Type 0} (f : X → Option Y) (o : Option X) (y : Y) → option_and_then f o ≡ Some y → (x : X) × (o ≡ Some x) × (f x ≡ Some y)
then_parts f None y h = absurd (none-some y h)
then_parts f (Some x) y h = (x, refl, h)

map_parts : {X Y : Type 0} (f : X → Y) (o : Option X) (y : Y) → option_map f o ≡ Some y → (x : X) × (o ≡ Some x) × (f x ≡ y)
map_parts f None y h = absurd (none-some y h)
map_parts f (Some x) y h = (x, refl, same_Some (f x) y h)

if_parts : {X : Type 0} (b : Truth) (x y : X) → (if b then Some x else None) ≡ Some y → (b ≡ true) × (x ≡ y)
if_parts true x y h = (refl, same_Some x y h)
if_parts false x y h = absurd (none-some y h)

-- ---- types

valid_at : (fs : List (Field Ty)) (k : ℕ) (d : Field Ty) → list_all (λ (f : Field Ty). is_valid f.ty) fs ≡ true → slice_get fs k ≡ Some d → is_valid d.ty ≡ true
valid_at [] k d h e = absurd (none-some d e)
valid_at (f ∷ fs) zero d h e = ap (λ (x : Field Ty). is_valid x.ty) (sym (same_Some f d e)) ∙ (and_true h).0
valid_at (f ∷ fs) (suc k) d h e = valid_at fs k d (and_true h).1 e

-- a part that fits the cells and has a valid type
pub record IsPart (types : List Ty) (ty : Ty) (e : Expression) : Type 0 where
  pub typed : IsTyped types e
  pub type : type_of types e ≡ ty

module _ (types : List Ty) where
  field_type_is : (whole : Expression) (ty : Ty) (k : ℕ) → type_of types whole ≡ ty → type_of types (field_in whole k) ≡ part_type (field_types (fields_of ty)) k
  field_type_is whole ty k h = type_apply types (GetField k) (whole ∷ []) ∙ ap (λ t. part_type (field_types (fields_of t)) k) h

  field_part : (whole : Expression) (ty : Ty) (k : ℕ) (d : Field Ty) → IsPart types ty whole → slice_get (fields_of ty) k ≡ Some d → IsPart types d.ty (field_in whole k)
  field_part whole ty k d h at = record {
    typed = typed_apply types (GetField k) (whole ∷ []) (fields_of ty, ap (λ t. t ∷ []) (h.type ∙ record_is ty k d at), slice_get_within (fields_of ty) k d at) (All-cons (IsTyped types) whole [] h.typed (All-nil (IsTyped types)));
    type = field_type_is whole ty k h.type ∙ ap type_or (slice_get-map (λ (f : Field Ty). f.ty) (fields_of ty) k ∙ ap (option_map (λ (f : Field Ty). f.ty)) at);
  }

  item_at : (fs : List (Field Ty)) (k : ℕ) → k < length fs → (d : Field Ty) × (slice_get fs k ≡ Some d)
  item_at [] k l = absurd (omega (arith, l))
  item_at (d ∷ fs) zero l = (d, refl)
  item_at (d ∷ fs) (suc k) l = item_at fs k (omega (arith, l))

  all_fields : (whole : Expression) (ty : Ty) → IsPart types ty whole → (fs : List (Field Ty)) (j : ℕ) → ((i : ℕ) → i < length fs → i + j < length (fields_of ty)) → All (IsTyped types) (fields_in whole j fs)
  unfolding fields_in
  all_fields whole ty h [] j l = All-nil (IsTyped types)
  all_fields whole ty h (d ∷ fs) j l =
      let here = item_at (fields_of ty) j (omega (arith, l 0 (omega arith))) in
      All-cons (IsTyped types) (field_in whole j) (fields_in whole (j + 1) fs) (field_part whole ty j here.0 h here.1).typed
      (all_fields whole ty h fs (j + 1) (λ i m. omega (arith, l (suc i) (omega (arith, m)))))

  types_in : (whole : Expression) (ty : Ty) → type_of types whole ≡ ty → (fs : List (Field Ty)) (j : ℕ) → ((i : ℕ) → i < length fs → part_type (field_types (fields_of ty)) (i + j) ≡ part_type (field_types fs) i)
      → map (type_of types) (fields_in whole j fs) ≡ field_types fs
  unfolding fields_in
  types_in whole ty h [] j e = refl
  types_in whole ty h (d ∷ fs) j e =
      ap (λ t. t ∷ map (type_of types) (fields_in whole (j + 1) fs)) (field_type_is whole ty j h ∙ ap (part_type (field_types (fields_of ty))) (first j) ∙ e 0 (omega arith))
      ∙ ap (λ ts. d.ty ∷ ts) (types_in whole ty h fs (j + 1) (λ i m. ap (part_type (field_types (fields_of ty))) (moved i j) ∙ e (suc i) (omega (arith, m))))
    where
      first : (a : ℕ) → a ≡ 0 + a
      first a = omega arith

      moved : (a b : ℕ) → a + (b + 1) ≡ suc a + b
      moved a b = omega arith

  set_own : (fs : List (Field Ty)) (k : ℕ) (d : Field Ty) → slice_get fs k ≡ Some d → slice_set (field_types fs) k d.ty ≡ field_types fs
  set_own [] k d e = absurd (none-some d e)
  set_own (f ∷ fs) zero d e = ap (λ (x : Field Ty). x.ty ∷ field_types fs) (sym (same_Some f d e))
  set_own (f ∷ fs) (suc k) d e = ap (λ ts. f.ty ∷ ts) (set_own fs k d e)

  with_part : (whole e : Expression) (ty : Ty) (k : ℕ) (d : Field Ty) → IsPart types ty whole → Valid ty → slice_get (fields_of ty) k ≡ Some d → IsPart types d.ty e → IsPart types ty (with_field whole ty k e)
  with_part whole e ty k d h valid at g =
      let fs = fields_of ty in
      let es = slice_set (fields_in whole 0 fs) k e in
      let same : map (type_of types) es ≡ field_types fs =
      map-set (type_of types) (fields_in whole 0 fs) k e
      ∙ ap (λ ts. slice_set ts k (type_of types e)) (types_in whole ty h.type fs 0 (λ i l. ap (part_type (field_types fs)) (plain i)))
      ∙ ap (slice_set (field_types fs) k) g.type
      ∙ set_own fs k d at in
      record {
        typed = typed_apply types (MkRec ty) es (fs, record_is ty k d at, same, valid)
            (All-set (IsTyped types) (fields_in whole 0 fs) k e g.typed (all_fields whole ty h fs 0 (λ i l. omega (arith, l))));
        type = type_apply types (MkRec ty) es;
      }
    where
      plain : (a : ℕ) → a + 0 ≡ a
      plain a = omega arith

  pub replaced_part : (parts : List TargetPart) (whole e : Expression) (ty : Ty) (t : TypedExpression) → IsPart types ty whole → Valid ty → IsPart types t.ty t.expression → replaced_in whole ty parts t ≡ Some e → IsPart types ty e
  unfolding replaced_in
  replaced_part [] whole e ty t h valid g r =
      let b = if_parts (equal_types ty t.ty) t.expression e r in
      subst (λ u. IsPart types u e) (sym ((types-decided ty t.ty).0 b.0)) (subst (IsPart types t.ty) b.1 g)
  replaced_part (FieldPart place f ∷ parts) whole e ty t h valid g r =
      let s = then_parts (λ k. option_and_then (λ d. option_map (with_field whole ty k) (replaced_in (field_in whole k) d.ty parts t)) (slice_get (fields_of ty) k)) (field_place ty f.name) e r in
      let k = s.0 in
      let o = then_parts (λ d. option_map (with_field whole ty k) (replaced_in (field_in whole k) d.ty parts t)) (slice_get (fields_of ty) k) e s.2 in
      let d = o.0 in
      let q = map_parts (with_field whole ty k) (replaced_in (field_in whole k) d.ty parts t) e o.2 in
      let deeper : Valid d.ty = valid_at (fields_of ty) k d (sym (valid-Rec (fields_of ty)) ∙ ap is_valid (sym (record_is ty k d o.1)) ∙ valid) o.1 in
      subst (IsPart types ty) q.2
      (with_part whole q.0 ty k d h valid o.1 (replaced_part parts (field_in whole k) q.0 d.ty t (field_part whole ty k d h o.1) deeper g q.1))
  replaced_part (ElementPart place i ∷ parts) whole e ty t h valid g r = absurd (none-some e r)

-- ---- constants

abbrev IsPlain : Op → Type 0
IsPlain (Symbol k ty) = ⊥
IsPlain other = Unit {0}

plain_reads : (A : ℕ → Ty → Type 0) (op : Op) → IsPlain op → (k : ℕ) (ty : Ty) → op ≡ Symbol k ty → A k ty
plain_reads A op h k ty e = absurd (subst IsPlain e h)

module _ (A : ℕ → Ty → Type 0) where
  field_reads : (whole : Expression) (k : ℕ) → ReadsOnly A whole → ReadsOnly A (field_in whole k)
  field_reads whole k h = apply_reads A (GetField k) (whole ∷ []) (plain_reads A (GetField k) tt) (All-cons (ReadsOnly A) whole [] h (All-nil (ReadsOnly A)))

  all_read : (whole : Expression) (fs : List (Field Ty)) (j : ℕ) → ReadsOnly A whole → All (ReadsOnly A) (fields_in whole j fs)
  unfolding fields_in
  all_read whole [] j h = All-nil (ReadsOnly A)
  all_read whole (d ∷ fs) j h = All-cons (ReadsOnly A) (field_in whole j) (fields_in whole (j + 1) fs) (field_reads whole j h) (all_read whole fs (j + 1) h)

  pub replaced_reads : (parts : List TargetPart) (whole e : Expression) (ty : Ty) (t : TypedExpression) → ReadsOnly A whole → ReadsOnly A t.expression → replaced_in whole ty parts t ≡ Some e → ReadsOnly A e
  unfolding replaced_in
  replaced_reads [] whole e ty t h g r = subst (ReadsOnly A) (if_parts (equal_types ty t.ty) t.expression e r).1 g
  replaced_reads (FieldPart place f ∷ parts) whole e ty t h g r =
      let s = then_parts (λ k. option_and_then (λ d. option_map (with_field whole ty k) (replaced_in (field_in whole k) d.ty parts t)) (slice_get (fields_of ty) k)) (field_place ty f.name) e r in
      let k = s.0 in
      let o = then_parts (λ d. option_map (with_field whole ty k) (replaced_in (field_in whole k) d.ty parts t)) (slice_get (fields_of ty) k) e s.2 in
      let d = o.0 in
      let q = map_parts (with_field whole ty k) (replaced_in (field_in whole k) d.ty parts t) e o.2 in
      let part_reads = replaced_reads parts (field_in whole k) q.0 d.ty t (field_reads whole k h) g q.1 in
      subst (ReadsOnly A) q.2
      (apply_reads A (MkRec ty) (slice_set (fields_in whole 0 (fields_of ty)) k q.0) (plain_reads A (MkRec ty) tt)
      (All-set (ReadsOnly A) (fields_in whole 0 (fields_of ty)) k q.0 part_reads (all_read whole (fields_of ty) 0 h)))
  replaced_reads (ElementPart place i ∷ parts) whole e ty t h g r = absurd (none-some e r)

-- ---- the type of a value that a part may take

pub replaced_type : (parts : List TargetPart) (whole e : Expression) (ty : Ty) (t : TypedExpression) → is_cell_type ty ≡ true → replaced_in whole ty parts t ≡ Some e → is_cell_type t.ty ≡ true
unfolding replaced_in
replaced_type [] whole e ty t h r = ap is_cell_type (sym ((types-decided ty t.ty).0 (if_parts (equal_types ty t.ty) t.expression e r).0)) ∙ h
replaced_type (FieldPart place f ∷ parts) whole e ty t h r =
    let s = then_parts (λ k. option_and_then (λ d. option_map (with_field whole ty k) (replaced_in (field_in whole k) d.ty parts t)) (slice_get (fields_of ty) k)) (field_place ty f.name) e r in
    let k = s.0 in
    let o = then_parts (λ d. option_map (with_field whole ty k) (replaced_in (field_in whole k) d.ty parts t)) (slice_get (fields_of ty) k) e s.2 in
    let d = o.0 in
    let q = map_parts (with_field whole ty k) (replaced_in (field_in whole k) d.ty parts t) e o.2 in
    let deeper : is_cell_type d.ty ≡ true = field_cell_type (fields_of ty) k d (sym (fields_are ty (fields_of ty) (record_is ty k d o.1)) ∙ h) o.1 in
    replaced_type parts (field_in whole k) q.0 d.ty t deeper q.1
  where
    field_cell_type : (fs : List (Field Ty)) (j : ℕ) (x : Field Ty) → list_all (λ (g : Field Ty). is_cell_type g.ty) fs ≡ true → slice_get fs j ≡ Some x → is_cell_type x.ty ≡ true
    field_cell_type [] j x a b = absurd (none-some x b)
    field_cell_type (g ∷ fs) zero x a b = ap (λ (y : Field Ty). is_cell_type y.ty) (sym (same_Some g x b)) ∙ (and_true a).0
    field_cell_type (g ∷ fs) (suc j) x a b = field_cell_type fs j x (and_true a).1 b
replaced_type (ElementPart place i ∷ parts) whole e ty t h r = absurd (none-some e r)
