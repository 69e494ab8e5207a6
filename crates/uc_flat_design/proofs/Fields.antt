-- Parts of values behind fields: what is read of a value in which a part was replaced.
use Rattle.std.proofs.Common.{◌≡◌, ◌≢◌, ℕ, zero, suc, ◌+◌, ◌<◌, List, [], ◌∷◌, map, length, refl, sym, ap, ◌∙◌, subst, true, false, Bool, Some, cond, rules, arith}
use Rattle.std.specs.Prelude.{◌||◌, ◌&&◌, nat_eq, unwrap_or, slice_get, slice_set, slice_index_or}
use Rattle.std.specs.List.{list_any, position_from}
use Rattle.std.proofs.lemmas.List.{get_or-set_same, get_or-set_other, set-get_or, length-map}
use Rattle.std.proofs.lemmas.Bool.Decides.{nat_tests}
use Rattle.uc_values.specs.declared.ty.Field.{Field}
use Rattle.uc_values.specs.declared.ty.Ty.{Ty}
use Rattle.uc_values.specs.declared.ty.Ty.TheVariants.{Bool as Boolean, Rec as Record, rolls-Rec}
use Rattle.uc_values.specs.declared.ty.Ty.TheViews.{out-Ty, roll-Ty, the_lemmas}
use Rattle.uc_values.specs.declared.ty.Ty.TheOpen.{Ty-F}
use Rattle.uc_values.specs.declared.ty.Ty.TheOpen.Ty-F.{Bool as boolean_type, Int as integer_type, Bv as bits_type, Rec as record_type, Arr as array_type, Enum as enum_type, Un as open_type}
use Rattle.uc_values.specs.declared.value.Value.{Value}
use Rattle.uc_values.specs.declared.value.Value.TheVariants.{Bool as truth, Rec}
use Rattle.uc_values.specs.Types.{field_types}
use Rattle.uc_values.specs.Values.{fits, parts_of, with_field}
use Rattle.uc_values.proofs.Shapes.{and_true}
use Rattle.uc_values.proofs.Fitting.{Fit, IsRecord-fits, fits-IsRecord, parts-Rec}
use Rattle.uc_meaning.specs.Expressions.{Reading, reads, fields_form, fields_of, field_number, field_type, field_reading}
use Rattle.uc_meaning.specs.Steps.{part_reading, has_part, is_prefix}
use Rattle.uc_flat_code.specs.Code.{are_different}

pub rolled : (t : Ty) → roll-Ty (out-Ty t) ≡ t
rolled t = search (rules, the_lemmas)

abbrev pub name_is : ℕ → Field Ty → Bool
name_is f d = nat_eq d.name f

abbrev pub names_in : List (Field Ty) → List ℕ
names_in fs = map (λ (d : Field Ty). d.name) fs

abbrev pub has_field : Ty → ℕ → Bool
has_field t f = list_any (name_is f) (fields_of t)

pub is_nat : (a b : ℕ) → nat_eq a b ≡ true → a ≡ b
is_nat a b h = grind (arith, nat_tests)

pub not_nat : (a b : ℕ) → nat_eq a b ≡ false → a ≡ b → ⊥
not_nat a b h e = let q : true ≡ false = same b ∙ ap (λ x. nat_eq x b) (sym e) ∙ h in cc
  where
    same : (n : ℕ) → true ≡ nat_eq n n
    same n = grind (arith, nat_tests)

-- a type with a field is that of a record
record_form_is : (y : Ty-F Ty) (f : ℕ) → list_any (name_is f) (fields_form y) ≡ true → roll-Ty y ≡ Record (fields_form y)
record_form_is (record_type fs) f h = rolls-Rec fs
record_form_is boolean_type f h = absurd (cc)
record_form_is integer_type f h = absurd (cc)
record_form_is (bits_type w) f h = absurd (cc)
record_form_is (enum_type a b) f h = absurd (cc)
record_form_is (open_type a) f h = absurd (cc)
record_form_is (array_type a b) f h = absurd (cc)

pub record_is : (t : Ty) (f : ℕ) → has_field t f ≡ true → t ≡ Record (fields_of t)
record_is t f h = sym (rolled t) ∙ record_form_is (out-Ty t) f h

-- the number of the first field of a name, counted from j
record Found (fs : List (Field Ty)) (f j : ℕ) : Type 0 where
  number : ℕ
  is : position_from (name_is f) j fs ≡ Some (number + j)
  below : number < length fs
  named : slice_get (names_in fs) number ≡ Some f

found : (fs : List (Field Ty)) (f j : ℕ) → list_any (name_is f) fs ≡ true → Found fs f j
found [] f j h = absurd (cc)
found (d ∷ fs) f j h = here (λ q. found fs f (j + 1) q) (nat_eq d.name f) refl
  where
    here : (list_any (name_is f) fs ≡ true → Found fs f (j + 1)) → (b : Bool) → nat_eq d.name f ≡ b → Found (d ∷ fs) f j
    here later true e = record {
      number = zero;
      is = ap (λ b. cond b (Some j) (position_from (name_is f) (j + 1) fs)) e ∙ ap Some (omega arith);
      below = omega arith;
      named = ap Some (is_nat d.name f e);
    }
    here later false e =
        let rest = later (sym (ap (λ b. b || list_any (name_is f) fs) e) ∙ h) in
        record {
          number = suc rest.number;
          is = ap (λ b. cond b (Some j) (position_from (name_is f) (j + 1) fs)) e ∙ rest.is ∙ ap Some (omega arith);
          below = omega (arith, rest.below);
          named = rest.named;
        }

number_is : (fs : List (Field Ty)) (f k : ℕ) → position_from (name_is f) 0 fs ≡ Some (k + 0) → field_number fs f ≡ k
number_is fs f k h = ap (λ o. unwrap_or o 0) h ∙ omega arith

fit_long : (types : List Ty) (vs : List Value) → Fit types vs → length vs ≡ length types
fit_long [] [] h = refl
fit_long [] (v ∷ vs) h = absurd h
fit_long (t ∷ types) [] h = absurd h
fit_long (t ∷ types) (v ∷ vs) h = omega (arith, fit_long types vs h.1)

fit_at : (types : List Ty) (vs : List Value) (k : ℕ) → Fit types vs → k < length types → fits (slice_index_or types k Boolean) (slice_index_or vs k (truth false)) ≡ true
fit_at [] vs k h l = absurd (omega (arith, l))
fit_at (t ∷ types) [] k h l = absurd h
fit_at (t ∷ types) (v ∷ vs) zero h l = h.0
fit_at (t ∷ types) (v ∷ vs) (suc k) h l = fit_at types vs k h.1 (omega (arith, l))

fit_put : (types : List Ty) (vs : List Value) (k : ℕ) (u : Value) → Fit types vs → k < length types → fits (slice_index_or types k Boolean) u ≡ true → Fit types (slice_set vs k u)
fit_put [] vs k u h l f = absurd (omega (arith, l))
fit_put (t ∷ types) [] k u h l f = absurd h
fit_put (t ∷ types) (v ∷ vs) zero u h l f = (f, h.1)
fit_put (t ∷ types) (v ∷ vs) (suc k) u h l f = (h.0, fit_put types vs k u h.1 (omega (arith, l)) f)

-- A fitting value of a type that has a field.
pub record HasField (t : Ty) (v : Value) (f : ℕ) : Type 0 where
  pub type : t ≡ Record (fields_of t)
  pub parts : List Value
  pub is : v ≡ Rec parts
  pub fit : Fit (field_types (fields_of t)) parts
  pub number : field_number (fields_of t) f < length (fields_of t)
  pub even : length parts ≡ length (fields_of t)
  pub own : parts_of v ≡ parts
  pub named : slice_get (names_in (fields_of t)) (field_number (fields_of t) f) ≡ Some f

pub field_of_fit : (t : Ty) (v : Value) (f : ℕ) → fits t v ≡ true → has_field t f ≡ true → HasField t v f
field_of_fit t v f g h =
    let fs = fields_of t in
    let i = IsRecord-fits fs v (subst (λ u. fits u v ≡ true) (record_is t f h) g) in
    let w = found fs f 0 h in
    let number = number_is fs f w.number w.is in
    record {
      type = record_is t f h;
      parts = i.parts;
      is = i.is;
      fit = i.fit;
      number = subst (λ k. k < length fs) (sym number) w.below;
      even = fit_long (field_types fs) i.parts i.fit ∙ length-map fs (λ (d : Field Ty). d.ty);
      own = ap parts_of i.is ∙ parts-Rec i.parts;
      named = ap (slice_get (names_in fs)) number ∙ w.named;
    }

-- ---- one field

abbrev pub place_of : Ty → ℕ → ℕ
place_of t f = field_number (fields_of t) f

-- the field that was replaced
read_back : (t : Ty) (v : Value) (f : ℕ) (u : Value) → fits t v ≡ true → has_field t f ≡ true → field_reading (reads t (with_field v (place_of t f) u)) f ≡ reads (field_type t f) u
read_back t v f u g h =
    let i = field_of_fit t v f g h in
    ap (λ xs. reads (field_type t f) (slice_index_or xs (place_of t f) (truth false))) (parts-Rec (slice_set (parts_of v) (place_of t f) u))
    ∙ ap (reads (field_type t f)) (get_or-set_same (parts_of v) (place_of t f) u (truth false) (omega (arith, i.number, i.even, ap length i.own)))

some_is : (x y : ℕ) → Some x ≡ Some y → x ≡ y
some_is x y h = cc

-- another field
read_other : (t : Ty) (v : Value) (f g : ℕ) (u : Value) → fits t v ≡ true → has_field t f ≡ true → has_field t g ≡ true → nat_eq f g ≡ false
    → field_reading (reads t (with_field v (place_of t f) u)) g ≡ field_reading (reads t v) g
read_other t v f g u e h k d =
    let i = field_of_fit t v f e h in
    let j = field_of_fit t v g e k in
    let apart : place_of t g ≢ place_of t f = λ q. not_nat f g d (some_is f g (sym i.named ∙ ap (slice_get (names_in (fields_of t))) (sym q) ∙ j.named)) in
    ap (λ xs. reads (field_type t g) (slice_index_or xs (place_of t g) (truth false))) (parts-Rec (slice_set (parts_of v) (place_of t f) u))
    ∙ ap (reads (field_type t g)) (get_or-set_other (parts_of v) (place_of t f) (place_of t g) u (truth false) apart)

pub field_fits : (t : Ty) (v : Value) (f : ℕ) → fits t v ≡ true → has_field t f ≡ true → fits (field_type t f) (field_reading (reads t v) f).value ≡ true
field_fits t v f g h =
    let i = field_of_fit t v f g h in
    ap (λ xs. fits (field_type t f) (slice_index_or xs (place_of t f) (truth false))) i.own
    ∙ fit_at (field_types (fields_of t)) i.parts (place_of t f) i.fit (omega (arith, i.number, length-map (fields_of t) (λ (d : Field Ty). d.ty)))

pub with_field_fits : (t : Ty) (v : Value) (f : ℕ) (u : Value) → fits t v ≡ true → has_field t f ≡ true → fits (field_type t f) u ≡ true → fits t (with_field v (place_of t f) u) ≡ true
with_field_fits t v f u g h e =
    let i = field_of_fit t v f g h in
    let put = fit_put (field_types (fields_of t)) i.parts (place_of t f) u i.fit (omega (arith, i.number, length-map (fields_of t) (λ (d : Field Ty). d.ty))) e in
    ap (λ s. fits s (with_field v (place_of t f) u)) i.type
    ∙ fits-IsRecord (fields_of t) (slice_set (parts_of v) (place_of t f) u) (subst (λ xs. Fit (field_types (fields_of t)) (slice_set xs (place_of t f) u)) (sym i.own) put)

-- ---- a part behind several fields

-- the value of a reading with the part that fields lead to replaced
unfoldable pub placed : Reading → List ℕ → Value → Value
placed r [] v = v
placed r (f ∷ fs) v = with_field r.value (place_of r.type f) (placed (field_reading r f) fs v)

-- fields lead from one to the next
pub apart_first : (f : ℕ) (fs gs : List ℕ) (g : ℕ) → nat_eq f g ≡ true → is_prefix (f ∷ fs) (g ∷ gs) ≡ is_prefix fs gs
unfolding is_prefix
apart_first f fs gs g e = ap (λ b. b && is_prefix fs gs) e

-- each part on the way fits
pub part_fits : (fields : List ℕ) (r : Reading) → fits r.type r.value ≡ true → has_part r.type fields ≡ true → fits (part_reading r fields).type (part_reading r fields).value ≡ true
unfolding part_reading has_part
part_fits [] r g h = g
part_fits (f ∷ fields) r g h =
    let b = and_true h in
    part_fits fields (field_reading r f) (field_fits r.type r.value f g b.0) b.1

-- the type of a part is one of the type alone
pub part_type_same : (fields : List ℕ) (r s : Reading) → r.type ≡ s.type → (part_reading r fields).type ≡ (part_reading s fields).type
unfolding part_reading
part_type_same [] r s e = e
part_type_same (f ∷ fields) r s e = part_type_same fields (field_reading r f) (field_reading s f) (ap (λ t. field_type t f) e)

pub placed_fits : (fields : List ℕ) (r : Reading) (v : Value) → fits r.type r.value ≡ true → has_part r.type fields ≡ true → fits (part_reading r fields).type v ≡ true → fits r.type (placed r fields v) ≡ true
unfolding part_reading has_part placed
placed_fits [] r v g h e = e
placed_fits (f ∷ fields) r v g h e =
    let b = and_true h in
    with_field_fits r.type r.value f (placed (field_reading r f) fields v) g b.0 (placed_fits fields (field_reading r f) v (field_fits r.type r.value f g b.0) b.1 e)

pub placed_same : (fields : List ℕ) (r : Reading) (v : Value) → fits r.type r.value ≡ true → has_part r.type fields ≡ true → part_reading (reads r.type (placed r fields v)) fields ≡ reads (part_reading r fields).type v
unfolding part_reading has_part placed
placed_same [] r v g h = refl
placed_same (f ∷ fields) r v g h =
    let b = and_true h in
    ap (λ s. part_reading s fields) (read_back r.type r.value f (placed (field_reading r f) fields v) g b.0)
    ∙ placed_same fields (field_reading r f) v (field_fits r.type r.value f g b.0) b.1

-- a part that neither lies in the replaced one nor holds it
pub placed_other : (fields others : List ℕ) (r : Reading) (v : Value) → fits r.type r.value ≡ true → has_part r.type fields ≡ true → has_part r.type others ≡ true → is_prefix fields others ≡ false → is_prefix others fields ≡ false
    → part_reading (reads r.type (placed r fields v)) others ≡ part_reading r others
unfolding part_reading has_part placed is_prefix
placed_other [] others r v g h k a c = absurd (cc)
placed_other (f ∷ fields) [] r v g h k a c = absurd (cc)
placed_other (f ∷ fields) (o ∷ others) r v g h k a c =
    by_test (nat_eq f o) refl (λ x y z. placed_other fields others (field_reading r f) v (field_fits r.type r.value f g b.0) b.1 x y z)
  where
    b : (has_field r.type f ≡ true) × (has_part (field_type r.type f) fields ≡ true)
    b = and_true h

    d : (has_field r.type o ≡ true) × (has_part (field_type r.type o) others ≡ true)
    d = and_true k

    flipped : (x y : ℕ) → nat_eq x y ≡ true → nat_eq y x ≡ true
    flipped x y q = grind (arith, nat_tests)

    changed : Value
    changed = with_field r.value (place_of r.type f) (placed (field_reading r f) fields v)

    by_test : (q : Bool) → nat_eq f o ≡ q
        → (has_part (field_type r.type f) others ≡ true → is_prefix fields others ≡ false → is_prefix others fields ≡ false → part_reading (reads (field_type r.type f) (placed (field_reading r f) fields v)) others ≡ part_reading (field_reading r f) others)
        → part_reading (field_reading (reads r.type changed) o) others ≡ part_reading (field_reading r o) others
    by_test false e deeper = ap (λ s. part_reading s others) (read_other r.type r.value f o (placed (field_reading r f) fields v) g b.0 d.0 e)
    by_test true e deeper =
        let is = is_nat f o e in
        ap (λ s. part_reading s others) (ap (field_reading (reads r.type changed)) (sym is) ∙ read_back r.type r.value f (placed (field_reading r f) fields v) g b.0)
        ∙ deeper (subst (λ x. has_part (field_type r.type x) others ≡ true) (sym is) d.1)
        (sym (ap (λ z. z && is_prefix fields others) e) ∙ a)
        (sym (ap (λ z. z && is_prefix others fields) (flipped f o e)) ∙ c)
        ∙ ap (λ x. part_reading (field_reading r x) others) is

-- ---- paths

-- Fields lead to a part through records whose fields have different names.
abbrev pub IsPath : Ty → List ℕ → Type 0
IsPath t [] = Unit {0}
IsPath t (f ∷ fs) = (are_different (fields_of t) ≡ true) × (has_field t f ≡ true) × IsPath (field_type t f) fs

pub path_part : (t : Ty) (p : List ℕ) → IsPath t p → has_part t p ≡ true
unfolding has_part
path_part t [] h = refl
path_part t (f ∷ fs) h = ap (λ b. b && has_part (field_type t f) fs) h.1 ∙ path_part (field_type t f) fs h.2

-- ---- a part with its own value, or with that of another value

-- a part that has its own value again
pub placed_own : (fields : List ℕ) (r : Reading) → fits r.type r.value ≡ true → has_part r.type fields ≡ true → placed r fields (part_reading r fields).value ≡ r.value
unfolding part_reading has_part placed
placed_own [] r g h = refl
placed_own (f ∷ fields) r g h =
    let b = and_true h in
    let i = field_of_fit r.type r.value f g b.0 in
    ap (with_field r.value (place_of r.type f)) (placed_own fields (field_reading r f) (field_fits r.type r.value f g b.0) b.1)
    ∙ ap Rec (set-get_or (parts_of r.value) (place_of r.type f) (truth false))
    ∙ ap Rec i.own
    ∙ sym i.is

-- What a value has in a part like another one stays so, where a part of it is replaced by that of the other.
pub stays_part : (fields others : List ℕ) (r : Reading) (w : Value) → fits r.type r.value ≡ true → fits r.type w ≡ true → has_part r.type fields ≡ true → has_part r.type others ≡ true → part_reading r fields ≡ part_reading (reads r.type w) fields
    → part_reading (reads r.type (placed r others (part_reading (reads r.type w) others).value)) fields ≡ part_reading (reads r.type w) fields
unfolding part_reading has_part placed
stays_part [] others r w g k h j e =
    let is : r.value ≡ w = ap (λ (s : Reading). s.value) e in
    ap (λ v. reads r.type (placed r others (part_reading (reads r.type v) others).value)) (sym is) ∙ ap (reads r.type) (placed_own others r g j) ∙ ap (reads r.type) is
stays_part (f ∷ fields) [] r w g k h j e = refl
stays_part (f ∷ fields) (o ∷ others) r w g k h j e =
    by_test (nat_eq o f) refl
    (λ x y z. stays_part fields others (field_reading r o) (field_reading (reads r.type w) o).value (field_fits r.type r.value o g d.0) (field_fits r.type w o k d.0) x d.1 y)
  where
    b : (has_field r.type f ≡ true) × (has_part (field_type r.type f) fields ≡ true)
    b = and_true h

    d : (has_field r.type o ≡ true) × (has_part (field_type r.type o) others ≡ true)
    d = and_true j

    inner : Value
    inner = placed (field_reading r o) others (part_reading (field_reading (reads r.type w) o) others).value

    by_test : (q : Bool) → nat_eq o f ≡ q
        → (has_part (field_type r.type o) fields ≡ true → part_reading (field_reading r o) fields ≡ part_reading (field_reading (reads r.type w) o) fields → Unit {0}
        → part_reading (reads (field_type r.type o) inner) fields ≡ part_reading (field_reading (reads r.type w) o) fields)
        → part_reading (field_reading (reads r.type (with_field r.value (place_of r.type o) inner)) f) fields ≡ part_reading (field_reading (reads r.type w) f) fields
    by_test false t deeper = ap (λ s. part_reading s fields) (read_other r.type r.value o f inner g d.0 b.0 t) ∙ e
    by_test true t deeper =
        let is = is_nat o f t in
        subst (λ x. part_reading (field_reading (reads r.type (with_field r.value (place_of r.type o) inner)) x) fields ≡ part_reading (field_reading (reads r.type w) x) fields) is
        (ap (λ s. part_reading s fields) (read_back r.type r.value o inner g d.0)
        ∙ deeper (subst (λ x. has_part (field_type r.type x) fields ≡ true) (sym is) b.1) (subst (λ x. part_reading (field_reading r x) fields ≡ part_reading (field_reading (reads r.type w) x) fields) (sym is) e) tt)
