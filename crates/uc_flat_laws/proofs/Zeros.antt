-- What further cells begin with is of their type, fits any cells, and reads nothing.
use Rattle.std.proofs.Common.{◌≡◌, ℕ, List, [], ◌∷◌, map, rules, refl, sym, ap, ◌∙◌, subst, true, false}
use Rattle.std.specs.Prelude.{All}
use Rattle.std.specs.List.{list_all}
use Rattle.std.proofs.lemmas.List.Elements.{All-cons, All-nil}
use Rattle.uc_values.specs.declared.ty.Field.{Field}
use Rattle.uc_values.specs.declared.ty.Ty.{Ty}
use Rattle.uc_values.specs.declared.ty.Ty.TheVariants.{Rec, rolls-Bool, rolls-Int, rolls-Bv, rolls-Enum, rolls-Un, rolls-Rec, rolls-Arr}
use Rattle.uc_values.specs.declared.ty.Ty.TheOpen.{Ty-F}
use Rattle.uc_values.specs.declared.ty.Ty.TheOpen.Ty-F.{Bool as boolean_type, Int as integer_type, Bv as bits_type, Rec as record_type, Arr as array_type, Enum as enum_type, Un as open_type}
use Rattle.uc_values.specs.declared.ty.Ty.TheViews.{roll-Ty, out-Ty, the_lemmas}
use Rattle.uc_values.specs.declared.ty.Ty.TheFolds.{fold-Ty, map-Ty, fold-roll-Ty, ind-Ty}
use Rattle.uc_values.specs.Types.{field_types}
use Rattle.uc_values.specs.Values.{zero_of as zero_value}
use Rattle.uc_values.proofs.Shapes.{and_true, with_test}
use Rattle.uc_values.proofs.Fitting.{zero-fits}
use Rattle.uc_ops.specs.declared.op.Op.{Op}
use Rattle.uc_ops.specs.declared.op.Op.TheVariants.{Symbol, Const, MkRec}
use Rattle.uc_ops.specs.Typing.{Valid, is_constant}
use Rattle.uc_flat.specs.declared.expression.Expression.{Expression}
use Rattle.uc_flat.specs.declared.expression.Expression.TheVariants.{Apply}
use Rattle.uc_flat.specs.Reading.{type_of}
use Rattle.uc_flat.specs.Fine.{IsTyped}
use Rattle.uc_flat.proofs.Forms.{type_apply}
use Rattle.uc_flat.proofs.Making.{typed_apply}
use Rattle.uc_flat_design.proofs.OnlyReads.{ReadsOnly, apply_reads}
use Rattle.uc_flat_code.specs.CellTypes.{is_cell_type}
use Rattle.uc_flat_code.specs.Zero.{Zero, parts_form, zero_form, zero_of}
use Rattle.uc_flat_code.proofs.CellTypes.{open_is, record_is, array_is}
use Rattle.uc_flat_code.proofs.Zeros.{zero_type}

abbrev zeroed : Ty → Zero
zeroed = fold-Ty Zero zero_form

rolled : (t : Ty) → roll-Ty (out-Ty t) ≡ t
rolled t = search (rules, the_lemmas)

zero_is : (x : Ty-F Ty) → zero_of (roll-Ty x) ≡ parts_form (roll-Ty x) (map-Ty Ty Zero zeroed x)
unfolding zero_of
zero_is x =
    let e = fold-roll-Ty Zero zero_form x in
    ap (λ z. z.expression) e ∙ ap (λ t. parts_form t (map-Ty Ty Zero zeroed x)) (sym (ap (λ z. z.ty) e) ∙ zero_type (roll-Ty x))

-- ---- types

parts_typed : (types : List Ty) (t : Ty) (y : Ty-F Zero) → type_of types (parts_form t y) ≡ t
parts_typed types t (record_type fields) = type_apply types (MkRec t) (map (λ f. f.ty.expression) fields)
parts_typed types t other = type_apply types (Const t (zero_value t)) []

pub type_of_zero : (types : List Ty) (ty : Ty) → type_of types (zero_of ty) ≡ ty
type_of_zero types ty =
    subst (λ u. type_of types (zero_of u) ≡ u) (rolled ty) (ap (type_of types) (zero_is (out-Ty ty)) ∙ parts_typed types (roll-Ty (out-Ty ty)) (map-Ty Ty Zero zeroed (out-Ty ty)))

-- ---- what they read

abbrev IsPlain : Op → Type 0
IsPlain (Symbol k ty) = ⊥
IsPlain other = Unit {0}

plain_reads : (A : ℕ → Ty → Type 0) (op : Op) → IsPlain op → (k : ℕ) (ty : Ty) → op ≡ Symbol k ty → A k ty
plain_reads A op h k ty e = absurd (subst IsPlain e h)

-- the parts of a record that counts as 0
abbrev field_zeros : List (Field Ty) → List Expression
field_zeros fs = map (λ f. f.ty.expression) (map (with_test zeroed) fs)

module _ (A : ℕ → Ty → Type 0) where
  abbrev Reads : Ty → Type 0
  Reads ty = ReadsOnly A (zero_of ty)

  abbrev Read : Type 0
  Read = (ty : Ty) × Reads ty

  fields_read : (ps : List (Field Read)) → All (ReadsOnly A) (field_zeros (map (with_test (λ (e : Read). e.0)) ps))
  unfolding zero_of
  fields_read [] = All-nil (ReadsOnly A)
  fields_read (p ∷ ps) = All-cons (ReadsOnly A) (zero_of p.ty.0) (field_zeros (map (with_test (λ (e : Read). e.0)) ps)) p.ty.1 (fields_read ps)

  plain_read : (t : Ty) → ReadsOnly A (Apply (Const t (zero_value t)) [])
  plain_read t = apply_reads A (Const t (zero_value t)) [] (plain_reads A (Const t (zero_value t)) tt) (All-nil (ReadsOnly A))

  read_cases : (y : Ty-F Read) → Reads (roll-Ty (map-Ty Read Ty (λ e. e.0) y))
  read_cases boolean_type = subst (ReadsOnly A) (sym (zero_is boolean_type)) (plain_read (roll-Ty boolean_type))
  read_cases integer_type = subst (ReadsOnly A) (sym (zero_is integer_type)) (plain_read (roll-Ty integer_type))
  read_cases (bits_type w) = subst (ReadsOnly A) (sym (zero_is (bits_type w))) (plain_read (roll-Ty (bits_type w)))
  read_cases (enum_type n k) = subst (ReadsOnly A) (sym (zero_is (enum_type n k))) (plain_read (roll-Ty (enum_type n k)))
  read_cases (open_type n) = subst (ReadsOnly A) (sym (zero_is (open_type n))) (plain_read (roll-Ty (open_type n)))
  read_cases (array_type i e) = subst (ReadsOnly A) (sym (zero_is (array_type i.0 e.0))) (plain_read (roll-Ty (array_type i.0 e.0)))
  read_cases (record_type ps) =
      let fs = map (with_test (λ (e : Read). e.0)) ps in
      let t = roll-Ty (record_type fs) in
      subst (ReadsOnly A) (sym (zero_is (record_type fs))) (apply_reads A (MkRec t) (field_zeros fs) (plain_reads A (MkRec t) tt) (fields_read ps))

  pub zero_reads : (ty : Ty) → ReadsOnly A (zero_of ty)
  zero_reads = ind-Ty Reads (λ x y is. subst (λ z. Reads (roll-Ty z)) is (read_cases y))

-- ---- that they fit

module _ (types : List Ty) where
  abbrev Fits : Ty → Type 0
  Fits ty = is_cell_type ty ≡ true → IsTyped types (zero_of ty)

  abbrev Fit : Type 0
  Fit = (ty : Ty) × Fits ty

  constant_fits : (x : Ty-F Ty) → parts_form (roll-Ty x) (map-Ty Ty Zero zeroed x) ≡ Apply (Const (roll-Ty x) (zero_value (roll-Ty x))) [] → is_constant (roll-Ty x) ≡ true → Fits (roll-Ty x)
  constant_fits x is constant h =
      let t = roll-Ty x in
      let valid : Valid t = (and_true h).0 in
      subst (IsTyped types) (sym (zero_is x ∙ is)) (typed_apply types (Const t (zero_value t)) [] (refl, valid, constant, zero-fits t valid) (All-nil (IsTyped types)))

  fields_fit : (ps : List (Field Fit)) → list_all (λ (f : Field Ty). is_cell_type f.ty) (map (with_test (λ (e : Fit). e.0)) ps) ≡ true → All (IsTyped types) (field_zeros (map (with_test (λ (e : Fit). e.0)) ps))
  unfolding zero_of
  fields_fit [] h = All-nil (IsTyped types)
  fields_fit (p ∷ ps) h = let b = and_true h in All-cons (IsTyped types) (zero_of p.ty.0) (field_zeros (map (with_test (λ (e : Fit). e.0)) ps)) (p.ty.1 b.0) (fields_fit ps b.1)

  field_types_are : (fs : List (Field Ty)) → map (type_of types) (field_zeros fs) ≡ field_types fs
  unfolding zero_of
  field_types_are [] = refl
  field_types_are (f ∷ fs) = ap (λ t. t ∷ map (type_of types) (field_zeros fs)) (type_of_zero types f.ty) ∙ ap (λ ts. f.ty ∷ ts) (field_types_are fs)

  false_true : (b : Ty) → is_cell_type b ≡ true → is_cell_type b ≡ false → ⊥
  false_true b h g = cc

  record_fits : (ps : List (Field Fit)) → Fits (roll-Ty (record_type (map (with_test (λ (e : Fit). e.0)) ps)))
  record_fits ps h =
      let fs = map (with_test (λ (e : Fit). e.0)) ps in
      let t = roll-Ty (record_type fs) in
      let is : t ≡ Rec fs = rolls-Rec fs in
      subst (IsTyped types) (sym (zero_is (record_type fs)))
      (typed_apply types (MkRec t) (field_zeros fs) (fs, is, field_types_are fs, (and_true h).0) (fields_fit ps (sym (record_is t fs is) ∙ h)))

  fit_cases : (y : Ty-F Fit) → Fits (roll-Ty (map-Ty Fit Ty (λ e. e.0) y))
  fit_cases boolean_type = constant_fits boolean_type refl (ap is_constant rolls-Bool)
  fit_cases integer_type = constant_fits integer_type refl (ap is_constant rolls-Int)
  fit_cases (bits_type w) = constant_fits (bits_type w) refl (ap is_constant (rolls-Bv w))
  fit_cases (enum_type n k) = constant_fits (enum_type n k) refl (ap is_constant (rolls-Enum n k))
  fit_cases (open_type n) = λ h. absurd (false_true (roll-Ty (open_type n)) h (open_is (roll-Ty (open_type n)) n (rolls-Un n)))
  fit_cases (array_type i e) = λ h. absurd (false_true (roll-Ty (array_type i.0 e.0)) h (array_is (roll-Ty (array_type i.0 e.0)) i.0 e.0 (rolls-Arr i.0 e.0)))
  fit_cases (record_type ps) = record_fits ps

  pub zero_typed : (ty : Ty) → is_cell_type ty ≡ true → IsTyped types (zero_of ty)
  zero_typed = ind-Ty Fits (λ x y is. subst (λ z. Fits (roll-Ty z)) is (fit_cases y))
