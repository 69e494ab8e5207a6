-- A value is the same as itself, and two arrays that store at one index of one array are the same where what they store is.
use Rattle.std.specs.Prelude.{◌≡◌, ℕ, Bool, true, false, cond, ◌&&◌, nat_eq, List, [], ◌∷◌, map}
use Rattle.std.specs.List.{list_all}
use Rattle.std.proofs.Common.{refl, sym, ap, ◌∙◌, subst, eq-eqb}
use Rattle.std.proofs.lemmas.Bool.Decides.{Decides-int_eq}
use Rattle.uc_values.specs.declared.ty.Field.{Field}
use Rattle.uc_values.specs.declared.ty.Ty.{Ty}
use Rattle.uc_values.specs.declared.ty.Ty.TheVariants.{Bool as Boolean, Int as Integer, Bv as Bits, Rec as Record, Enum as Label, Un as Open, Arr as Array, rolls-Bool, rolls-Int, rolls-Bv, rolls-Rec, rolls-Enum, rolls-Un, rolls-Arr}
use Rattle.uc_values.specs.declared.ty.Ty.TheFolds.{ind-Ty, map-Ty}
use Rattle.uc_values.specs.declared.ty.Ty.TheViews.{roll-Ty}
use Rattle.uc_values.specs.declared.ty.Ty.TheOpen.{Ty-F}
use Rattle.uc_values.specs.declared.ty.Ty.TheOpen.Ty-F.{Bool as boolean_type, Int as integer_type, Bv as bits_type, Rec as record_type, Arr as array_type, Enum as enum_type, Un as open_type}
use Rattle.uc_values.specs.declared.value.Value.{Value}
use Rattle.uc_values.specs.Types.{is_valid, is_scalar, is_flat, field_types}
use Rattle.uc_values.specs.Values.{fits, parts_of, same_truth, same_scalar}
use Rattle.uc_values.specs.Arrays.{at, store}
use Rattle.uc_values.specs.Sameness.{Sameness, same, same_parts, sames}
use Rattle.uc_values.proofs.Shapes.{and_true, valid-Rec, valid-Arr, scalar-Rec, scalar-Arr}
use Rattle.uc_values.proofs.Fitting.{Fit, IsBits-fits, IsRecord-fits, IsBoolean-fits, IsLabel-fits, IsInteger-fits, IsMember-fits, IsArray-fits, parts-Rec}
use Rattle.uc_values.proofs.Stores.{at-store, at-fits, store-fits}
use Rattle.uc_values.proofs.Agreement.{sameness-Bool, sameness-Int, sameness-Bv, sameness-Enum, sameness-Un, same-Rec}
use Rattle.uc_values.proofs.Everywhere.{same-agrees}

truth-itself : (b : Bool) → same_truth b b ≡ true
truth-itself true = refl
truth-itself false = refl

pub both_same : (a b : ℕ) → (nat_eq a a && nat_eq b b) ≡ true
both_same a b = ap (λ x. x && nat_eq b b) (eq-eqb a a refl) ∙ eq-eqb b b refl

-- a value of the type is the same as itself, and so is a scalar
record Itself (ty : Ty) (v : Value) : Type 0 where
  whole : same ty v v ≡ true
  scalar : is_scalar ty ≡ true → same_scalar v v ≡ true

-- what is known of a valid type of arrays
pub record OfArrays (index element : Ty) : Type 0 where
  pub index_valid : is_valid index ≡ true
  pub element_valid : is_valid element ≡ true
  pub scalar : is_scalar index ≡ true

pub of_arrays : (index element : Ty) → is_valid (Array index element) ≡ true → OfArrays index element
of_arrays index element h =
    let whole = and_true {a = is_valid index && is_valid element} {b = is_scalar index && is_flat element} (sym (valid-Arr index element) ∙ h) in
    let both = and_true {a = is_valid index} {b = is_valid element} whole.0 in
    record { index_valid = both.0; element_valid = both.1; scalar = (and_true {a = is_scalar index} {b = is_flat element} whole.1).0 }

abbrev Reflects : Ty → Type 0
Reflects ty = is_valid ty ≡ true → (v : Value) → fits ty v ≡ true → Itself ty v

of_scalar : (ty : Ty) (v : Value) → same ty v v ≡ same_scalar v v → same_scalar v v ≡ true → Itself ty v
of_scalar ty v e h = record { whole = e ∙ h; scalar = λ s. h }

itself-Bool : (v : Value) → fits Boolean v ≡ true → Itself Boolean v
itself-Bool v h =
    let r = IsBoolean-fits v h in
    of_scalar Boolean v (ap (λ (s : Sameness). s.same v v) sameness-Bool) (subst (λ x. same_scalar x x ≡ true) (sym r.is) (truth-itself r.truth))

itself-Int : (v : Value) → fits Integer v ≡ true → Itself Integer v
itself-Int v h =
    let r = IsInteger-fits v h in
    of_scalar Integer v (ap (λ (s : Sameness). s.same v v) sameness-Int) (subst (λ x. same_scalar x x ≡ true) (sym r.is) ((Decides-int_eq r.number r.number).1 refl))

itself-Bv : (width : ℕ) (v : Value) → fits (Bits width) v ≡ true → Itself (Bits width) v
itself-Bv width v h =
    let r = IsBits-fits width v h in
    of_scalar (Bits width) v (ap (λ (s : Sameness). s.same v v) (sameness-Bv width)) (subst (λ x. same_scalar x x ≡ true) (sym r.is) (both_same width r.number))

itself-Enum : (number labels : ℕ) (v : Value) → fits (Label number labels) v ≡ true → Itself (Label number labels) v
itself-Enum number labels v h =
    let r = IsLabel-fits number labels v h in
    of_scalar (Label number labels) v (ap (λ (s : Sameness). s.same v v) (sameness-Enum number labels)) (subst (λ x. same_scalar x x ≡ true) (sym r.is) (both_same number r.label))

itself-Un : (number : ℕ) (v : Value) → fits (Open number) v ≡ true → Itself (Open number) v
itself-Un number v h =
    let r = IsMember-fits number v h in
    of_scalar (Open number) v (ap (λ (s : Sameness). s.same v v) (sameness-Un number)) (subst (λ x. same_scalar x x ≡ true) (sym r.is) (both_same number r.place))

abbrev Proved : Type 0
Proved = (ty : Ty) × Reflects ty

abbrev firsts : Field Proved → Field Ty
firsts f = record { name = f.name; ty = f.ty.0 }

parts_itself : (ps : List (Field Proved)) (vs : List Value) → list_all (λ (f : Field Ty). is_valid f.ty) (map firsts ps) ≡ true → Fit (field_types (map firsts ps)) vs → same_parts (sames (map firsts ps)) vs vs ≡ true
parts_itself [] [] h f = refl
parts_itself [] (v ∷ vs) h f = absurd f
parts_itself (p ∷ ps) [] h f = absurd f
parts_itself (p ∷ ps) (v ∷ vs) h f =
    let b = and_true h in
    ap (λ x. x && same_parts (sames (map firsts ps)) vs vs) (p.ty.1 b.0 v f.0).whole ∙ parts_itself ps vs b.1 f.1

itself-Rec : (ps : List (Field Proved)) → Reflects (Record (map firsts ps))
itself-Rec ps h v f =
    let fs = map firsts ps in
    let r = IsRecord-fits fs v f in
    let parts = ap parts_of r.is ∙ parts-Rec r.parts in
    record {
      whole = same-Rec fs v v ∙ (λ i. same_parts (sames fs) (parts i) (parts i)) ∙ parts_itself ps r.parts (sym (valid-Rec fs) ∙ h) r.fit;
      scalar = λ s. absurd (clash (sym (scalar-Rec fs) ∙ s));
    }
  where
    clash : false ≡ true → ⊥
    clash h = cc

itself-Arr : (index element : Ty) → Reflects element → Reflects (Array index element)
itself-Arr index element e h v f =
    let b = of_arrays index element h in
    record {
      whole = (same-agrees index element v v b.scalar f f).1 (λ i g. (e b.element_valid (at v i) (at-fits index element v i f)).whole);
      scalar = λ s. absurd (clash (sym (scalar-Arr index element) ∙ s));
    }
  where
    clash : false ≡ true → ⊥
    clash h = cc

itself_cases : (y : Ty-F Proved) → Reflects (roll-Ty (map-Ty Proved Ty (λ e. e.0) y))
itself_cases boolean_type = subst Reflects (sym rolls-Bool) (λ h v f. itself-Bool v f)
itself_cases integer_type = subst Reflects (sym rolls-Int) (λ h v f. itself-Int v f)
itself_cases (bits_type width) = subst Reflects (sym (rolls-Bv width)) (λ h v f. itself-Bv width v f)
itself_cases (enum_type n k) = subst Reflects (sym (rolls-Enum n k)) (λ h v f. itself-Enum n k v f)
itself_cases (open_type n) = subst Reflects (sym (rolls-Un n)) (λ h v f. itself-Un n v f)
itself_cases (record_type ps) = subst Reflects (sym (rolls-Rec (map firsts ps))) (itself-Rec ps)
itself_cases (array_type i e) = subst Reflects (sym (rolls-Arr i.0 e.0)) (itself-Arr i.0 e.0 e.1)

reflects : (ty : Ty) → Reflects ty
reflects = ind-Ty Reflects (λ x y is. subst (λ z. Reflects (roll-Ty z)) is (itself_cases y))

-- a fitting value of a valid type is the same as itself
pub same-itself : (ty : Ty) (v : Value) → is_valid ty ≡ true → fits ty v ≡ true → same ty v v ≡ true
same-itself ty v h f = (reflects ty h v f).whole

pub scalar-itself : (ty : Ty) (v : Value) → is_valid ty ≡ true → is_scalar ty ≡ true → fits ty v ≡ true → same_scalar v v ≡ true
scalar-itself ty v h s f = (reflects ty h v f).scalar s

-- what two arrays hold at an index, where each stores an element at the same index of one array
held_two : (index element : Ty) (a i x y j : Value) → fits (Array index element) a ≡ true
    → same element (at (store a i x) j) (at (store a i y) j) ≡ same element (cond (same_scalar i j) x (at a j)) (cond (same_scalar i j) y (at a j))
held_two index element a i x y j f =
    let r = IsArray-fits index element a f in
    let one : (z : Value) → at (store a i z) j ≡ cond (same_scalar i j) z (at a j) = λ z. subst (λ v. at (store v i z) j ≡ cond (same_scalar i j) z (at v j)) (sym r.is) (at-store r.default r.rows i z j) in
    λ k. same element (one x k) (one y k)

by_choice : (element : Ty) (b : Bool) (x y z : Value) → same element x y ≡ true → same element z z ≡ true → same element (cond b x z) (cond b y z) ≡ true
by_choice element true x y z e f = e
by_choice element false x y z e f = f

-- two truths of which each gives the other
pub equal_truths : (a b : Bool) → (a ≡ true → b ≡ true) → (b ≡ true → a ≡ true) → a ≡ b
equal_truths true b f g = sym (f refl)
equal_truths false true f g = g refl
equal_truths false false f g = refl

-- two arrays that store at one index of one array are the same where what they store is
pub stores-same : (index element : Ty) (a i x y : Value) → is_valid (Array index element) ≡ true → fits (Array index element) a ≡ true → fits index i ≡ true → fits element x ≡ true → fits element y ≡ true
    → same (Array index element) (store a i x) (store a i y) ≡ same element x y
stores-same index element a i x y h f g p q =
    let b = of_arrays index element h in
    let s = same-agrees index element (store a i x) (store a i y) b.scalar (store-fits index element a i x f g p) (store-fits index element a i y f g q) in
    let here = scalar-itself index i b.index_valid b.scalar g in
    equal_truths (same (Array index element) (store a i x) (store a i y)) (same element x y)
    (λ t. sym (held_two index element a i x y i f ∙ (λ k. same element (cond (here k) x (at a i)) (cond (here k) y (at a i)))) ∙ s.0 t i g)
    (λ t. s.1 (λ j l. held_two index element a i x y j f ∙ by_choice element (same_scalar i j) x y (at a j) t (same-itself element (at a j) b.element_valid (at-fits index element a j f))))
