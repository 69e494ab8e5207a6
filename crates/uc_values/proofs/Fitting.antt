-- Which values fit which types, by cases; the value that counts as 0 fits.
use Rattle.std.specs.Prelude.{ℕ, ℤ, pos, ◌<◌, ◌^◌, Bool, true, false, ◌&&◌, nat_eq, nat_lt, IsTrue, ◌≡◌, List, [], ◌∷◌, map}
use Rattle.std.specs.List.{list_all, AllZip}
use Rattle.std.specs.Prelude.{nat_le}
use Rattle.std.proofs.Common.{rules, refl, sym, ap, ◌∙◌, subst, arith, pow_pos, ◌≢◌, ◌≤◌, inl, inr, length, suc, ◌/◌, ◌*◌}
use Rattle.std.proofs.Math.Bool.{and-false}
use Rattle.std.proofs.Math.Pow.{pow_mono}
use Rattle.std.proofs.Math.Nat.{div-eq_of_lt, lt-div-mul-add}
use Rattle.std.proofs.lemmas.Bool.Decides.{nat_tests, leb_tells, eqb_tells}
use Rattle.uc_values.specs.Values.{parts_of, Test, Exception, fits, fits_form, fit_parts, fit_rows, indices, distinct, zero_of, zero_form}
use Rattle.uc_values.specs.Types.{is_valid, field_types}
use Rattle.uc_values.proofs.Shapes.{with_test, types_mapped, and_true, valid-Enum, valid-Rec, valid-Arr}
use Rattle.uc_values.specs.declared.ty.Field.{Field}
use Rattle.uc_values.specs.declared.ty.Ty.{Ty}
use Rattle.uc_values.specs.declared.ty.Ty.TheVariants.{Bool as Boolean, Int as Integer, Bv as Bits, Rec as Record, Enum as Label, Un as Open, Arr as Array, rolls-Bool, rolls-Int, rolls-Bv, rolls-Rec, rolls-Enum, rolls-Un, rolls-Arr}
use Rattle.uc_values.specs.declared.ty.Ty.TheFolds.{fold-roll-Ty, ind-Ty, map-Ty}
use Rattle.uc_values.specs.declared.ty.Ty.TheViews.{roll-Ty}
use Rattle.uc_values.specs.declared.ty.Ty.TheOpen.{Ty-F}
use Rattle.uc_values.specs.declared.ty.Ty.TheOpen.Ty-F.{Bool as boolean_type, Int as integer_type, Bv as bits_type, Rec as record_type, Arr as array_type, Enum as enum_type, Un as open_type}
use Rattle.uc_values.specs.declared.value.Value.{Value}
use Rattle.uc_values.specs.declared.value.Value.TheVariants.{Bool as Truth, Int, Bv, Enum, Un, Rec, Arr}
use Rattle.uc_values.specs.declared.value.Value.TheVariants as value
use Rattle.uc_values.specs.declared.value.Value.TheViews.{out-Value, roll-Value, the_lemmas}
use Rattle.uc_values.specs.declared.value.Value.TheOpen.{Value-F}
use Rattle.uc_values.specs.declared.value.Value.TheOpen.Value-F.{Bool as boolean, Int as integer, Bv as bits, Enum as label, Un as member, Rec as fields, Arr as array}

abbrev step : Ty-F Test → Test
step ty v = fits_form ty (out-Value v)

rolled : (v : Value) → roll-Value (out-Value v) ≡ v
rolled v = search (rules, the_lemmas)

pub fits-Bool : (v : Value) → fits Boolean v ≡ fits_form boolean_type (out-Value v)
fits-Bool v = ap (λ ty. fits ty v) (sym rolls-Bool) ∙ ap (λ f. f v) (fold-roll-Ty Test step boolean_type)

pub fits-Int : (v : Value) → fits Integer v ≡ fits_form integer_type (out-Value v)
fits-Int v = ap (λ ty. fits ty v) (sym rolls-Int) ∙ ap (λ f. f v) (fold-roll-Ty Test step integer_type)

pub fits-Bv : (width : ℕ) (v : Value) → fits (Bits width) v ≡ fits_form (bits_type width) (out-Value v)
fits-Bv width v = ap (λ ty. fits ty v) (sym (rolls-Bv width)) ∙ ap (λ f. f v) (fold-roll-Ty Test step (bits_type width))

-- the value is of that width, and so is its number
pub record IsBits (width : ℕ) (v : Value) : Type 0 where
  pub number : ℕ
  pub is : v ≡ Bv width number
  pub small : number < 2 ^ width

bits_form : (width : ℕ) (x : Value-F Value) → fits_form (bits_type width) x ≡ true → IsBits width (roll-Value x)
bits_form width (bits w n) h =
    let same : width ≡ w = grind (arith, nat_tests) in
    let small : n < 2 ^ width = grind (arith, nat_tests) in
    record { number = n; is = value.rolls-Bv w n ∙ ap (λ k. Bv k n) (sym same); small = small }
bits_form width (boolean b) h = cc
bits_form width (integer z) h = cc
bits_form width (label e k) h = cc
bits_form width (member t k) h = cc
bits_form width (fields vs) h = cc
bits_form width (array d rows) h = cc

pub IsBits-fits : (width : ℕ) (v : Value) → IsTrue (fits (Bits width) v) → IsBits width v
IsBits-fits width v h = subst (IsBits width) (rolled v) (bits_form width (out-Value v) (sym (fits-Bv width v) ∙ h))

pub fits-IsBits : (width n : ℕ) → n < 2 ^ width → IsTrue (fits (Bits width) (Bv width n))
fits-IsBits width n h =
    let e : fits_form (bits_type width) (out-Value (Bv width n)) ≡ (nat_eq width width && nat_lt n (2 ^ width)) = search (rules, the_lemmas) in
    let t : (nat_eq width width && nat_lt n (2 ^ width)) ≡ true = grind (arith, nat_tests) in
    fits-Bv width (Bv width n) ∙ e ∙ t

pub Truth-fits : (b : Bool) → IsTrue (fits Boolean (Truth b))
Truth-fits b = fits-Bool (Truth b) ∙ search (rules, the_lemmas)

pub Int-fits : (z : ℤ) → IsTrue (fits Integer (Int z))
Int-fits z = fits-Int (Int z) ∙ search (rules, the_lemmas)

-- each value fits its type
abbrev pub Fit : List Ty → List Value → Type 0
Fit types values = AllZip (λ ty v. IsTrue (fits ty v)) types values

parts_fit : (fs : List (Field Ty)) (vs : List Value) → fit_parts (map (with_test fits) fs) vs ≡ true → Fit (field_types fs) vs
parts_fit [] [] h = tt
parts_fit [] (v ∷ vs) h = cc
parts_fit (f ∷ fs) [] h = cc
parts_fit (f ∷ fs) (v ∷ vs) h = let b = and_true h in (b.0, parts_fit fs vs b.1)

fit_parts-true : (fs : List (Field Ty)) (vs : List Value) → Fit (field_types fs) vs → fit_parts (map (with_test fits) fs) vs ≡ true
fit_parts-true [] [] h = refl
fit_parts-true [] (v ∷ vs) h = absurd h
fit_parts-true (f ∷ fs) [] h = absurd h
fit_parts-true (f ∷ fs) (v ∷ vs) h = ap (λ b. b && fit_parts (map (with_test fits) fs) vs) h.0 ∙ fit_parts-true fs vs h.1

pub fits-Rec : (fs : List (Field Ty)) (v : Value) → fits (Record fs) v ≡ fits_form (record_type (map (with_test fits) fs)) (out-Value v)
fits-Rec fs v = ap (λ ty. fits ty v) (sym (rolls-Rec fs)) ∙ ap (λ f. f v) (fold-roll-Ty Test step (record_type fs))

-- the value is a record whose parts fit the fields
pub record IsRecord (fs : List (Field Ty)) (v : Value) : Type 0 where
  pub parts : List Value
  pub is : v ≡ Rec parts
  pub fit : Fit (field_types fs) parts

record_form : (fs : List (Field Ty)) (x : Value-F Value) → fits_form (record_type (map (with_test fits) fs)) x ≡ true → IsRecord fs (roll-Value x)
record_form fs (fields vs) h = record { parts = vs; is = value.rolls-Rec vs; fit = parts_fit fs vs h }
record_form fs (boolean b) h = cc
record_form fs (integer z) h = cc
record_form fs (bits w n) h = cc
record_form fs (label e k) h = cc
record_form fs (member t k) h = cc
record_form fs (array d rows) h = cc

pub IsRecord-fits : (fs : List (Field Ty)) (v : Value) → IsTrue (fits (Record fs) v) → IsRecord fs v
IsRecord-fits fs v h = subst (IsRecord fs) (rolled v) (record_form fs (out-Value v) (sym (fits-Rec fs v) ∙ h))

pub fits-IsRecord : (fs : List (Field Ty)) (vs : List Value) → Fit (field_types fs) vs → IsTrue (fits (Record fs) (Rec vs))
fits-IsRecord fs vs h =
    let e : fits_form (record_type (map (with_test fits) fs)) (out-Value (Rec vs)) ≡ fit_parts (map (with_test fits) fs) vs = search (rules, the_lemmas) in
    fits-Rec fs (Rec vs) ∙ e ∙ fit_parts-true fs vs h

zero-Bool : zero_of Boolean ≡ Truth false
zero-Bool = ap zero_of (sym rolls-Bool) ∙ fold-roll-Ty Value zero_form boolean_type

zero-Int : zero_of Integer ≡ Int (pos 0)
zero-Int = ap zero_of (sym rolls-Int) ∙ fold-roll-Ty Value zero_form integer_type

zero-Bv : (w : ℕ) → zero_of (Bits w) ≡ Bv w 0
zero-Bv w = ap zero_of (sym (rolls-Bv w)) ∙ fold-roll-Ty Value zero_form (bits_type w)

zero-Enum : (n k : ℕ) → zero_of (Label n k) ≡ Enum n 0
zero-Enum n k = ap zero_of (sym (rolls-Enum n k)) ∙ fold-roll-Ty Value zero_form (enum_type n k)

zero-Un : (n : ℕ) → zero_of (Open n) ≡ Un n 0
zero-Un n = ap zero_of (sym (rolls-Un n)) ∙ fold-roll-Ty Value zero_form (open_type n)

zero-Arr : (i e : Ty) → zero_of (Array i e) ≡ Arr (zero_of e) []
zero-Arr i e = ap zero_of (sym (rolls-Arr i e)) ∙ fold-roll-Ty Value zero_form (array_type i e)

pub fits-Enum : (n k : ℕ) (v : Value) → fits (Label n k) v ≡ fits_form (enum_type n k) (out-Value v)
fits-Enum n k v = ap (λ ty. fits ty v) (sym (rolls-Enum n k)) ∙ ap (λ f. f v) (fold-roll-Ty Test step (enum_type n k))

pub fits-IsLabel : (n k l : ℕ) → l < k → IsTrue (fits (Label n k) (Enum n l))
fits-IsLabel n k l h =
    let e : fits_form (enum_type n k) (out-Value (Enum n l)) ≡ (nat_eq n n && nat_lt l k) = search (rules, the_lemmas) in
    let t : (nat_eq n n && nat_lt l k) ≡ true = grind (arith, nat_tests) in
    fits-Enum n k (Enum n l) ∙ e ∙ t

zero_label : (n k : ℕ) → nat_lt 0 k ≡ true → IsTrue (fits (Label n k) (Enum n 0))
zero_label n k h = fits-IsLabel n k 0 (grind (arith, nat_tests))

pub fits-Un : (n k : ℕ) → IsTrue (fits (Open n) (Un n k))
fits-Un n k =
    let e : fits_form (open_type n) (out-Value (Un n k)) ≡ nat_eq n n = search (rules, the_lemmas) in
    let t : nat_eq n n ≡ true = grind (arith, nat_tests) in
    ap (λ ty. fits ty (Un n k)) (sym (rolls-Un n)) ∙ ap (λ f. f (Un n k)) (fold-roll-Ty Test step (open_type n)) ∙ e ∙ t

pub fits-Arr : (i e : Ty) (d : Value) (rows : List Exception) → fits (Array i e) (Arr d rows) ≡ (fits e d && fit_rows (fits i) (fits e) rows)
fits-Arr i e d rows =
    let f : fits_form (array_type (fits i) (fits e)) (out-Value (Arr d rows)) ≡ (fits e d && fit_rows (fits i) (fits e) rows) = search (rules, the_lemmas) in
    ap (λ ty. fits ty (Arr d rows)) (sym (rolls-Arr i e)) ∙ ap (λ g. g (Arr d rows)) (fold-roll-Ty Test step (array_type i e)) ∙ f

zero_array : (i e : Ty) → IsTrue (fits e (zero_of e)) → IsTrue (fits (Array i e) (Arr (zero_of e) []))
zero_array i e h = fits-Arr i e (zero_of e) [] ∙ ap (λ b. b && fit_rows (fits i) (fits e) []) h

-- the value that counts as 0 fits its type
abbrev ZeroFits : Ty → Type 0
ZeroFits ty = IsTrue (is_valid ty) → IsTrue (fits ty (zero_of ty))

abbrev Proved : Type 0
Proved = (ty : Ty) × ZeroFits ty

abbrev firsts : Field Proved → Field Ty
firsts f = record { name = f.name; ty = f.ty.0 }

pub zero-Rec : (fs : List (Field Ty)) → zero_of (Record fs) ≡ Rec (map zero_of (field_types fs))
zero-Rec fs = ap zero_of (sym (rolls-Rec fs)) ∙ fold-roll-Ty Value zero_form (record_type fs) ∙ ap Rec (types_mapped zero_of fs)

fields_mapped : {A : Type 0} (g : Ty → A) (fs : List (Field Ty)) → map g (field_types fs) ≡ map (λ (f : Field Ty). g f.ty) fs
fields_mapped g [] = refl
fields_mapped g (f ∷ fs) = ap (λ xs. g f.ty ∷ xs) (fields_mapped g fs)

pub zero-fields : (fs : List (Field Ty)) → zero_of (Record fs) ≡ Rec (map (λ (f : Field Ty). zero_of f.ty) fs)
zero-fields fs = zero-Rec fs ∙ ap Rec (fields_mapped zero_of fs)

fields_zero : (ps : List (Field Proved)) → list_all (λ (f : Field Ty). is_valid f.ty) (map firsts ps) ≡ true → Fit (field_types (map firsts ps)) (map zero_of (field_types (map firsts ps)))
fields_zero [] h = tt
fields_zero (p ∷ ps) h = let b = and_true h in (p.ty.1 b.0, fields_zero ps b.1)

zero_cases : (y : Ty-F Proved) → ZeroFits (roll-Ty (map-Ty Proved Ty (λ e. e.0) y))
zero_cases boolean_type = subst ZeroFits (sym rolls-Bool) (λ v. subst (λ z. IsTrue (fits Boolean z)) (sym zero-Bool) (Truth-fits false))
zero_cases integer_type = subst ZeroFits (sym rolls-Int) (λ v. subst (λ z. IsTrue (fits Integer z)) (sym zero-Int) (Int-fits (pos 0)))
zero_cases (bits_type w) = subst ZeroFits (sym (rolls-Bv w)) (λ v. subst (λ z. IsTrue (fits (Bits w) z)) (sym (zero-Bv w)) (fits-IsBits w 0 (pow_pos w)))
zero_cases (enum_type n k) = subst ZeroFits (sym (rolls-Enum n k)) (λ v. subst (λ z. IsTrue (fits (Label n k) z)) (sym (zero-Enum n k)) (zero_label n k (sym (valid-Enum n k) ∙ v)))
zero_cases (open_type n) = subst ZeroFits (sym (rolls-Un n)) (λ v. subst (λ z. IsTrue (fits (Open n) z)) (sym (zero-Un n)) (fits-Un n 0))
zero_cases (record_type ps) = subst ZeroFits (sym (rolls-Rec (map firsts ps))) (λ v.
    subst (λ z. IsTrue (fits (Record (map firsts ps)) z)) (sym (zero-Rec (map firsts ps)))
    (fits-IsRecord (map firsts ps) (map zero_of (field_types (map firsts ps))) (fields_zero ps (sym (valid-Rec (map firsts ps)) ∙ v))))
zero_cases (array_type i e) = subst ZeroFits (sym (rolls-Arr i.0 e.0)) (λ v.
    subst (λ z. IsTrue (fits (Array i.0 e.0) z)) (sym (zero-Arr i.0 e.0)) (zero_array i.0 e.0 (e.1 (and_true (and_true (sym (valid-Arr i.0 e.0) ∙ v)).0).1)))

pub zero-fits : (ty : Ty) → ZeroFits ty
zero-fits = ind-Ty ZeroFits (λ x y is. subst (λ z. ZeroFits (roll-Ty z)) is (zero_cases y))

-- lists of different lengths do not fit
pub fit_parts-lengths : (fs : List (Field Test)) (vs : List Value) → length fs ≢ length vs → fit_parts fs vs ≡ false
fit_parts-lengths [] [] h = absurd (h refl)
fit_parts-lengths [] (v ∷ vs) h = refl
fit_parts-lengths (f ∷ fs) [] h = refl
fit_parts-lengths (f ∷ fs) (v ∷ vs) h = ap (λ b. f.ty v && b) (fit_parts-lengths fs vs (λ e. h (omega arith))) ∙ and-false (f.ty v)

-- a number of 64 bits has as many bits as asked where 64 or more are asked
pub within_wide : (width n : ℕ) → 64 ≤ width → n < 2 ^ 64 → nat_le 64 width ≡ nat_lt n (2 ^ width)
within_wide width n l h =
    let p : 2 ^ 64 ≤ 2 ^ width = pow_mono l in
    elim (leb_tells 64 width) [
      | inl y ↦ elim (leb_tells (suc n) (2 ^ width)) [ inl x ↦ y.0 ∙ sym x.0 | inr x ↦ absurd (omega (arith, x.1, p)) ]
      | inr y ↦ absurd (omega (arith, y.1))
    ]

pub within_narrow : (width n : ℕ) → nat_eq (n / 2 ^ width) 0 ≡ nat_lt n (2 ^ width)
within_narrow width n =
    elim (leb_tells (suc n) (2 ^ width)) [
      | inl x ↦ ap (λ k. nat_eq k 0) (div-eq_of_lt x.1) ∙ sym x.0
      | inr x ↦ elim (eqb_tells (n / 2 ^ width) 0) [ inl y ↦ absurd (omega (arith, x.1, ap (λ k. k * 2 ^ width) y.1, lt-div-mul-add {a = n} {b = 2 ^ width} (pow_pos width))) | inr y ↦ y.0 ∙ sym x.0 ]
    ]

-- the last of four tests counts where the others are true
pub last_counts : (a b c d : Bool) → a ≡ true → b ≡ true → c ≡ true → (a && (b && (c && d))) ≡ d
last_counts a b c d e f g = ap (λ x. x && (b && (c && d))) e ∙ ap (λ x. x && (c && d)) f ∙ ap (λ x. x && d) g

pub record IsBoolean (v : Value) : Type 0 where
  pub truth : Bool
  pub is : v ≡ Truth truth

boolean_form : (x : Value-F Value) → fits_form boolean_type x ≡ true → IsBoolean (roll-Value x)
boolean_form (boolean b) h = record { truth = b; is = value.rolls-Bool b }
boolean_form (integer z) h = cc
boolean_form (bits w n) h = cc
boolean_form (label e k) h = cc
boolean_form (member t k) h = cc
boolean_form (fields vs) h = cc
boolean_form (array d rows) h = cc

pub IsBoolean-fits : (v : Value) → IsTrue (fits Boolean v) → IsBoolean v
IsBoolean-fits v h = subst IsBoolean (rolled v) (boolean_form (out-Value v) (sym (fits-Bool v) ∙ h))

-- the value is an array whose default and exceptions fit, with distinct indices
pub record IsArray (index element : Ty) (v : Value) : Type 0 where
  pub default : Value
  pub rows : List Exception
  pub is : v ≡ Arr default rows
  pub default_fits : IsTrue (fits element default)
  pub indices_fit : list_all (λ row. fits index row.0) rows ≡ true
  pub elements_fit : list_all (λ row. fits element row.1) rows ≡ true
  pub distinct : distinct (indices rows) ≡ true

array_cases : (i e : Ty) (x : Value-F Value) → fits_form (array_type (fits i) (fits e)) x ≡ true → IsArray i e (roll-Value x)
array_cases i e (array d rows) h =
    let b = and_true h in
    let c = and_true b.1 in
    let f = and_true c.1 in
    record { default = d; rows = rows; is = value.rolls-Arr d rows; default_fits = b.0; indices_fit = c.0; elements_fit = f.0; distinct = f.1 }
array_cases i e (boolean b) h = cc
array_cases i e (integer z) h = cc
array_cases i e (bits w n) h = cc
array_cases i e (label k l) h = cc
array_cases i e (member t k) h = cc
array_cases i e (fields vs) h = cc

pub IsArray-fits : (i e : Ty) (v : Value) → IsTrue (fits (Array i e) v) → IsArray i e v
IsArray-fits i e v h =
    let f : fits (Array i e) v ≡ fits_form (array_type (fits i) (fits e)) (out-Value v) = ap (λ ty. fits ty v) (sym (rolls-Arr i e)) ∙ ap (λ g. g v) (fold-roll-Ty Test step (array_type i e)) in
    subst (IsArray i e) (rolled v) (array_cases i e (out-Value v) (sym f ∙ h))

pub fits-IsArray : (i e : Ty) (d : Value) (rows : List Exception) → IsTrue (fits e d) → list_all (λ row. fits i row.0) rows ≡ true → list_all (λ row. fits e row.1) rows ≡ true → distinct (indices rows) ≡ true → IsTrue (fits (Array i e) (Arr d rows))
fits-IsArray i e d rows a b c u =
    fits-Arr i e d rows ∙ ap (λ x. x && fit_rows (fits i) (fits e) rows) a ∙ ap (λ x. x && (list_all (λ row. fits e row.1) rows && distinct (indices rows))) b ∙ ap (λ x. x && distinct (indices rows)) c ∙ u

-- a value of an enum is one of its labels
pub record IsLabel (number labels : ℕ) (v : Value) : Type 0 where
  pub label : ℕ
  pub is : v ≡ Enum number label
  pub small : label < labels

label_form : (number labels : ℕ) (x : Value-F Value) → fits_form (enum_type number labels) x ≡ true → IsLabel number labels (roll-Value x)
label_form number labels (label e k) h =
    let same : number ≡ e = grind (arith, nat_tests) in
    let small : k < labels = grind (arith, nat_tests) in
    record { label = k; is = value.rolls-Enum e k ∙ ap (λ n. Enum n k) (sym same); small = small }
label_form number labels (boolean b) h = cc
label_form number labels (integer z) h = cc
label_form number labels (bits w n) h = cc
label_form number labels (member t k) h = cc
label_form number labels (fields vs) h = cc
label_form number labels (array d rows) h = cc

pub IsLabel-fits : (number labels : ℕ) (v : Value) → IsTrue (fits (Label number labels) v) → IsLabel number labels v
IsLabel-fits number labels v h = subst (IsLabel number labels) (rolled v) (label_form number labels (out-Value v) (sym (fits-Enum number labels v) ∙ h))

-- a value of type integer is an integer
pub record IsInteger (v : Value) : Type 0 where
  pub number : ℤ
  pub is : v ≡ Int number

integer_form : (x : Value-F Value) → fits_form integer_type x ≡ true → IsInteger (roll-Value x)
integer_form (integer z) h = record { number = z; is = value.rolls-Int z }
integer_form (boolean b) h = cc
integer_form (bits w n) h = cc
integer_form (label e k) h = cc
integer_form (member t k) h = cc
integer_form (fields vs) h = cc
integer_form (array d rows) h = cc

pub IsInteger-fits : (v : Value) → IsTrue (fits Integer v) → IsInteger v
IsInteger-fits v h = subst IsInteger (rolled v) (integer_form (out-Value v) (sym (fits-Int v) ∙ h))

-- a value of an uninterpreted type is a member of it
pub record IsMember (number : ℕ) (v : Value) : Type 0 where
  pub place : ℕ
  pub is : v ≡ Un number place

pub fits-Open : (n : ℕ) (v : Value) → fits (Open n) v ≡ fits_form (open_type n) (out-Value v)
fits-Open n v = ap (λ ty. fits ty v) (sym (rolls-Un n)) ∙ ap (λ f. f v) (fold-roll-Ty Test step (open_type n))

member_form : (number : ℕ) (x : Value-F Value) → fits_form (open_type number) x ≡ true → IsMember number (roll-Value x)
member_form number (member t k) h =
    let same : number ≡ t = grind (arith, nat_tests) in
    record { place = k; is = value.rolls-Un t k ∙ ap (λ n. Un n k) (sym same) }
member_form number (boolean b) h = cc
member_form number (integer z) h = cc
member_form number (bits w n) h = cc
member_form number (label e k) h = cc
member_form number (fields vs) h = cc
member_form number (array d rows) h = cc

pub IsMember-fits : (number : ℕ) (v : Value) → IsTrue (fits (Open number) v) → IsMember number v
IsMember-fits number v h = subst (IsMember number) (rolled v) (member_form number (out-Value v) (sym (fits-Open number v) ∙ h))

-- the parts of a record are those that it was made of
pub parts-Rec : (vs : List Value) → parts_of (Rec vs) ≡ vs
parts-Rec vs = search (rules, the_lemmas)
