-- Parts of fitting values fit.
use Rattle.std.proofs.Common.{◌≡◌, ℕ, zero, suc, List, [], ◌∷◌, map, refl, sym, ap, ◌∙◌, subst, true, false, Bool, Some, get_or, cond, rules, arith, ◌+◌}
use Rattle.std.specs.Prelude.{◌||◌, nat_eq, unwrap_or, slice_index_or}
use Rattle.std.specs.List.{list_any, list_all, position_from}
use Rattle.uc_values.specs.declared.ty.Field.{Field}
use Rattle.uc_values.specs.declared.ty.Ty.{Ty}
use Rattle.uc_values.specs.declared.ty.Ty.TheVariants.{Bool as Boolean, Rec as Record, rolls-Rec}
use Rattle.uc_values.specs.declared.ty.Ty.TheViews.{out-Ty, roll-Ty, the_lemmas}
use Rattle.uc_values.specs.declared.ty.Ty.TheOpen.{Ty-F}
use Rattle.uc_values.specs.declared.ty.Ty.TheOpen.Ty-F.{Bool as boolean_type, Int as integer_type, Bv as bits_type, Rec as record_type, Arr as array_type, Enum as enum_type, Un as open_type}
use Rattle.uc_values.specs.declared.value.Value.{Value}
use Rattle.uc_values.specs.declared.value.Value.TheVariants.{Bool as truth}
use Rattle.uc_values.specs.Types.{field_types}
use Rattle.uc_values.specs.Values.{fits, parts_of}
use Rattle.uc_values.proofs.Shapes.{and_true}
use Rattle.uc_values.proofs.Fitting.{Fit, IsRecord-fits, parts-Rec}
use Rattle.uc_meaning.specs.Expressions.{Reading, reads, fields_form, fields_of, field_number, field_reading}
use Rattle.uc_meaning.specs.Steps.{part_reading, has_part}
use Rattle.uc_values.specs.Same.{has_no_array}
use Rattle.uc_values.proofs.SameValuesSame.{no_array-Rec}

rolled : (t : Ty) → roll-Ty (out-Ty t) ≡ t
rolled t = search (rules, the_lemmas)

-- A reading whose value fits, of a type without arrays.
pub record IsFit (r : Reading) : Type 0 where
  pub plain : has_no_array r.type ≡ true
  pub fit : fits r.type r.value ≡ true

abbrev name_is : ℕ → Field Ty → Bool
name_is f d = nat_eq d.name f

abbrev types_of_fields : List (Field Ty) → List Ty
types_of_fields fs = map (λ (d : Field Ty). d.ty) fs

-- The number of the field that a name has, counted from j, with a part of a type without arrays that fits.
record IsThere (fs : List (Field Ty)) (f j : ℕ) (xs : List Value) : Type 0 where
  number : ℕ
  is : position_from (name_is f) j fs ≡ Some (number + j)
  plain : has_no_array (get_or (types_of_fields fs) number Boolean) ≡ true
  fit : fits (get_or (types_of_fields fs) number Boolean) (get_or xs number (truth false)) ≡ true

field_there : (fs : List (Field Ty)) (f j : ℕ) (xs : List Value) → list_any (name_is f) fs ≡ true → list_all (λ (d : Field Ty). has_no_array d.ty) fs ≡ true → Fit (field_types fs) xs → IsThere fs f j xs
field_there [] f j xs h p g = absurd (cc)
field_there (d ∷ fs) f j [] h p g = absurd g
field_there (d ∷ fs) f j (x ∷ xs) h p g = here (λ q. field_there fs f (j + 1) xs q (and_true p).1 g.1) (nat_eq d.name f) refl
  where
    here : (list_any (name_is f) fs ≡ true → IsThere fs f (j + 1) xs) → (b : Bool) → nat_eq d.name f ≡ b → IsThere (d ∷ fs) f j (x ∷ xs)
    here later true e = record {
      number = zero;
      is = ap (λ b. cond b (Some j) (position_from (name_is f) (j + 1) fs)) e ∙ ap Some (omega arith);
      plain = (and_true p).0;
      fit = g.0;
    }
    here later false e =
        let rest = later (sym (ap (λ b. b || list_any (name_is f) fs) e) ∙ h) in
        record {
          number = suc rest.number;
          is = ap (λ b. cond b (Some j) (position_from (name_is f) (j + 1) fs)) e ∙ rest.is ∙ ap Some (omega arith);
          plain = rest.plain;
          fit = rest.fit;
        }

number_is : (fs : List (Field Ty)) (f k : ℕ) → position_from (name_is f) 0 fs ≡ Some (k + 0) → field_number fs f ≡ k
number_is fs f k h = ap (λ o. unwrap_or o 0) h ∙ omega arith

none : (t : Ty) (f : ℕ) → list_any (name_is f) (fields_of t) ≡ true → fields_of t ≡ [] → ⊥
none t f h e = clash (sym (ap (list_any (name_is f)) e) ∙ h)
  where
    clash : false ≡ true → ⊥
    clash q = cc

field_fit : (t : Ty) (v : Value) (f : ℕ) → has_no_array t ≡ true → fits t v ≡ true → list_any (name_is f) (fields_of t) ≡ true → (y : Ty-F Ty) → out-Ty t ≡ y → IsFit (field_reading (reads t v) f)
field_fit t v f p g h (record_type fs) e =
    let is : t ≡ Record fs = sym (rolled t) ∙ ap roll-Ty e ∙ rolls-Rec fs in
    let own : fields_of t ≡ fs = ap fields_form e in
    let i = IsRecord-fits fs v (subst (λ u. fits u v ≡ true) is g) in
    let w = field_there fs f 0 i.parts (subst (λ ds. list_any (name_is f) ds ≡ true) own h) (sym (no_array-Rec fs) ∙ subst (λ u. has_no_array u ≡ true) is p) i.fit in
    let number = number_is fs f w.number w.is in
    let values : parts_of v ≡ i.parts = ap parts_of i.is ∙ parts-Rec i.parts in
    subst (λ ds. IsFit (reads (slice_index_or (types_of_fields ds) (field_number ds f) Boolean) (slice_index_or (parts_of v) (field_number ds f) (truth false)))) (sym own)
    (subst (λ xs. IsFit (reads (slice_index_or (types_of_fields fs) (field_number fs f) Boolean) (slice_index_or xs (field_number fs f) (truth false)))) (sym values)
    (subst (λ k. IsFit (reads (slice_index_or (types_of_fields fs) k Boolean) (slice_index_or i.parts k (truth false)))) (sym number)
    (record { plain = w.plain; fit = w.fit })))
field_fit t v f p g h boolean_type e = absurd (none t f h (ap fields_form e))
field_fit t v f p g h integer_type e = absurd (none t f h (ap fields_form e))
field_fit t v f p g h (bits_type w) e = absurd (none t f h (ap fields_form e))
field_fit t v f p g h (enum_type a b) e = absurd (none t f h (ap fields_form e))
field_fit t v f p g h (open_type a) e = absurd (none t f h (ap fields_form e))
field_fit t v f p g h (array_type a b) e = absurd (none t f h (ap fields_form e))

-- fields lead from a fitting value to one
pub parts_fit : (fields : List ℕ) (r : Reading) → IsFit r → has_part r.type fields ≡ true → IsFit (part_reading r fields)
unfolding part_reading has_part
parts_fit [] r g h = g
parts_fit (f ∷ fields) r g h =
    let b = and_true h in
    parts_fit fields (field_reading r f) (field_fit r.type r.value f g.plain g.fit b.0 (out-Ty r.type) refl) b.1
