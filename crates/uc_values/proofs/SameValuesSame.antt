-- Fitting values without arrays are the same exactly where they are equal.
use Rattle.std.specs.Prelude.{ℕ, ◌≡◌, Bool, true, false, ◌&&◌, nat_eq, List, [], ◌∷◌, map}
use Rattle.std.specs.Bool.{Decides}
use Rattle.std.specs.List.{list_all}
use Rattle.std.proofs.Common.{refl, sym, ap, ◌∙◌, subst, arith}
use Rattle.std.proofs.lemmas.Bool.Decides.{nat_tests, Decides-int_eq}
use Rattle.uc_values.specs.declared.ty.Field.{Field}
use Rattle.uc_values.specs.declared.ty.Ty.{Ty}
use Rattle.uc_values.specs.declared.ty.Ty.TheVariants.{Bool as Boolean, Int as Integer, Bv as Bits, Rec as Record, Enum as Label, Un as Open, Arr as Array, rolls-Bool, rolls-Int, rolls-Bv, rolls-Rec, rolls-Enum, rolls-Un, rolls-Arr}
use Rattle.uc_values.specs.declared.ty.Ty.TheFolds.{fold-roll-Ty, ind-Ty, map-Ty}
use Rattle.uc_values.specs.declared.ty.Ty.TheViews.{roll-Ty}
use Rattle.uc_values.specs.declared.ty.Ty.TheOpen.{Ty-F}
use Rattle.uc_values.specs.declared.ty.Ty.TheOpen.Ty-F.{Bool as boolean_type, Int as integer_type, Bv as bits_type, Rec as record_type, Arr as array_type, Enum as enum_type, Un as open_type}
use Rattle.uc_values.specs.declared.value.Value.{Value}
use Rattle.uc_values.specs.declared.value.Value.TheVariants.{Bool as Truth, Int, Bv, Enum, Un, Rec}
use Rattle.uc_values.specs.Types.{field_types}
use Rattle.uc_values.specs.Values.{fits, parts_of, same_truth, same_scalar}
use Rattle.uc_values.specs.Sameness.{Sameness, sameness, same, same_parts, sames}
use Rattle.uc_values.proofs.Shapes.{and_true, all_mapped}
use Rattle.uc_values.proofs.Scalars.{same_scalar-eq}
use Rattle.uc_values.proofs.Fitting.{Fit, IsBits-fits, IsRecord-fits, IsBoolean-fits, IsLabel-fits, IsInteger-fits, IsMember-fits, parts-Rec}
use Rattle.uc_values.proofs.Agreement.{sameness-Bool, sameness-Int, sameness-Bv, sameness-Enum, sameness-Un, same-Rec}
use Rattle.uc_values.specs.Same.{has_no_array, no_array_form, SameLaw}

pub no_array-Rec : (fs : List (Field Ty)) → has_no_array (Record fs) ≡ list_all (λ (f : Field Ty). has_no_array f.ty) fs
no_array-Rec fs = ap has_no_array (sym (rolls-Rec fs)) ∙ fold-roll-Ty Bool no_array_form (record_type fs) ∙ all_mapped has_no_array (λ b. b) fs

no_array-Arr : (i e : Ty) → has_no_array (Array i e) ≡ false
no_array-Arr i e = ap has_no_array (sym (rolls-Arr i e)) ∙ fold-roll-Ty Bool no_array_form (array_type i e)

same_nat : (n : ℕ) → nat_eq n n ≡ true
same_nat n = grind (arith, nat_tests)

same_truth-itself : (b : Bool) → same_truth b b ≡ true
same_truth-itself true = refl
same_truth-itself false = refl

two_true : (a b : Bool) → a ≡ true → b ≡ true → (a && b) ≡ true
two_true a b h g = ap (λ x. x && b) h ∙ g

-- a type on whose values sameness decides equality
abbrev Told : Ty → Value → Value → Type 0
Told ty a b = Decides (same ty a b) (a ≡ b)

abbrev Holds : Ty → Type 0
Holds ty = has_no_array ty ≡ true → (a b : Value) → fits ty a ≡ true → fits ty b ≡ true → Told ty a b

-- a scalar type, by what its values are
scalar : (ty : Ty) (a b : Value) → same ty a b ≡ same_scalar a b → same_scalar a a ≡ true → Told ty a b
scalar ty a b e itself = (λ h. same_scalar-eq a b (sym e ∙ h), λ q. e ∙ ap (same_scalar a) (sym q) ∙ itself)

itself-by : (a b : Value) → a ≡ b → same_scalar b b ≡ true → same_scalar a a ≡ true
itself-by a b e h = subst (λ v. same_scalar v v ≡ true) (sym e) h

told-Bool : (a b : Value) → fits Boolean a ≡ true → Told Boolean a b
told-Bool a b h =
    let i = IsBoolean-fits a h in
    scalar Boolean a b (ap (λ (s : Sameness). s.same a b) sameness-Bool) (itself-by a (Truth i.truth) i.is (same_truth-itself i.truth))

told-Int : (a b : Value) → fits Integer a ≡ true → Told Integer a b
told-Int a b h =
    let i = IsInteger-fits a h in
    scalar Integer a b (ap (λ (s : Sameness). s.same a b) sameness-Int) (itself-by a (Int i.number) i.is ((Decides-int_eq i.number i.number).1 refl))

told-Bv : (w : ℕ) (a b : Value) → fits (Bits w) a ≡ true → Told (Bits w) a b
told-Bv w a b h =
    let i = IsBits-fits w a h in
    scalar (Bits w) a b (ap (λ (s : Sameness). s.same a b) (sameness-Bv w)) (itself-by a (Bv w i.number) i.is (two_true _ _ (same_nat w) (same_nat i.number)))

told-Enum : (n k : ℕ) (a b : Value) → fits (Label n k) a ≡ true → Told (Label n k) a b
told-Enum n k a b h =
    let i = IsLabel-fits n k a h in
    scalar (Label n k) a b (ap (λ (s : Sameness). s.same a b) (sameness-Enum n k)) (itself-by a (Enum n i.label) i.is (two_true _ _ (same_nat n) (same_nat i.label)))

told-Un : (n : ℕ) (a b : Value) → fits (Open n) a ≡ true → Told (Open n) a b
told-Un n a b h =
    let i = IsMember-fits n a h in
    scalar (Open n) a b (ap (λ (s : Sameness). s.same a b) (sameness-Un n)) (itself-by a (Un n i.place) i.is (two_true _ _ (same_nat n) (same_nat i.place)))

abbrev Proved : Type 0
Proved = (ty : Ty) × Holds ty

abbrev firsts : Field Proved → Field Ty
firsts f = record { name = f.name; ty = f.ty.0 }

parts_told : (ps : List (Field Proved)) (xs ys : List Value) → list_all (λ (f : Field Ty). has_no_array f.ty) (map firsts ps) ≡ true → Fit (field_types (map firsts ps)) xs → Fit (field_types (map firsts ps)) ys
    → Decides (same_parts (sames (map firsts ps)) xs ys) (xs ≡ ys)
parts_told [] [] [] h f g = (λ t. refl, λ e. refl)
parts_told [] (x ∷ xs) ys h f g = absurd f
parts_told [] [] (y ∷ ys) h f g = absurd g
parts_told (p ∷ ps) [] ys h f g = absurd f
parts_told (p ∷ ps) (x ∷ xs) [] h f g = absurd g
parts_told (p ∷ ps) (x ∷ xs) (y ∷ ys) h f g =
    let b = and_true h in
    let first = p.ty.1 b.0 x y f.0 g.0 in
    let rest = parts_told ps xs ys b.1 f.1 g.1 in (
      λ t. let c = and_true t in ap (λ v. v ∷ xs) (first.0 c.0) ∙ ap (λ vs. y ∷ vs) (rest.0 c.1),
      λ e. two_true _ _ (first.1 (head_same x y xs ys e)) (rest.1 (tail_same x y xs ys e)),
    )
  where
    head_same : (x y : Value) (xs ys : List Value) → (x ∷ xs) ≡ (y ∷ ys) → x ≡ y
    head_same x y xs ys e = cc

    tail_same : (x y : Value) (xs ys : List Value) → (x ∷ xs) ≡ (y ∷ ys) → xs ≡ ys
    tail_same x y xs ys e = cc

told-Rec : (ps : List (Field Proved)) → Holds (Record (map firsts ps))
told-Rec ps h a b f g =
    let fs = map firsts ps in
    let i = IsRecord-fits fs a f in
    let j = IsRecord-fits fs b g in
    let told = parts_told ps i.parts j.parts (sym (no_array-Rec fs) ∙ h) i.fit j.fit in
    let pa = ap parts_of i.is ∙ parts-Rec i.parts in
    let pb = ap parts_of j.is ∙ parts-Rec j.parts in
    let e = same-Rec fs a b ∙ ap (λ xs. same_parts (sames fs) xs (parts_of b)) pa ∙ ap (same_parts (sames fs) i.parts) pb in
    (λ t. i.is ∙ ap Rec (told.0 (sym e ∙ t)) ∙ sym j.is, λ q. e ∙ told.1 (sym pa ∙ ap parts_of q ∙ pb))

cases : (y : Ty-F Proved) → Holds (roll-Ty (map-Ty Proved Ty (λ e. e.0) y))
cases boolean_type = subst Holds (sym rolls-Bool) (λ h a b f g. told-Bool a b f)
cases integer_type = subst Holds (sym rolls-Int) (λ h a b f g. told-Int a b f)
cases (bits_type w) = subst Holds (sym (rolls-Bv w)) (λ h a b f g. told-Bv w a b f)
cases (enum_type n k) = subst Holds (sym (rolls-Enum n k)) (λ h a b f g. told-Enum n k a b f)
cases (open_type n) = subst Holds (sym (rolls-Un n)) (λ h a b f g. told-Un n a b f)
cases (record_type ps) = subst Holds (sym (rolls-Rec (map firsts ps))) (told-Rec ps)
cases (array_type i e) = subst Holds (sym (rolls-Arr i.0 e.0)) (λ h. absurd (clash (sym (no_array-Arr i.0 e.0) ∙ h)))
  where
    clash : false ≡ true → ⊥
    clash h = cc

all_told : (ty : Ty) → Holds ty
all_told = ind-Ty Holds (λ x y is. subst (λ z. Holds (roll-Ty z)) is (cases y))

pub same_holds : SameLaw
same_holds ty a b h f g = all_told ty h a b f g
