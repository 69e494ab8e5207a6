-- When two values of a type are the same, by the forms of the type.
use Rattle.std.specs.Prelude.{ℕ, ◌^◌, ◌≡◌, ◌≢◌, Bool, true, false, ◌&&◌, ◌||◌, List, [], ◌∷◌, length, map, nat_eq, nat_lt}
use Rattle.std.specs.List.{list_all}
use Rattle.std.proofs.Common.{rules, refl, sym, ap, ◌∙◌, arith, ◌≤◌, drop, min, ◌<◌, inl, inr, zero, suc, cond}
use Rattle.std.proofs.Math.Bool.{and_assoc}
use Rattle.std.proofs.Math.Pow.{pow_mono}
use Rattle.std.proofs.lemmas.Bool.Decides.{eqb_tells, leb_tells}
use Rattle.std.proofs.Math.Seq.{drop-nil}
use Rattle.uc_values.specs.Values.{Exception, Form, lists, indices, parts_of, parts_form}
use Rattle.uc_values.specs.Arrays.{element_at, at}
use Rattle.uc_values.specs.Sameness.{Sameness, sameness, sameness_form, same, same_parts, same_arrays, sames, joined, are_all, all_or_listed}
use Rattle.uc_values.proofs.Shapes.{with_test}
use Rattle.uc_values.proofs.Stores.{at-Arr}
use Rattle.uc_values.specs.declared.ty.Field.{Field}
use Rattle.uc_values.specs.declared.ty.Ty.{Ty}
use Rattle.uc_values.specs.declared.ty.Ty.TheVariants.{Bool as Boolean, Int as Integer, Bv as Bits, Rec as Record, Enum as Label, Un as Open, Arr as Array, rolls-Bool, rolls-Int, rolls-Bv, rolls-Rec, rolls-Enum, rolls-Un, rolls-Arr}
use Rattle.uc_values.specs.declared.ty.Ty.TheFolds.{fold-roll-Ty}
use Rattle.uc_values.specs.declared.ty.Ty.TheOpen.Ty-F.{Bool as boolean_type, Int as integer_type, Bv as bits_type, Rec as record_type, Arr as array_type, Enum as enum_type, Un as open_type}
use Rattle.uc_values.specs.declared.value.Value.{Value}
use Rattle.uc_values.specs.declared.value.Value.TheVariants.{Rec, Arr}
use Rattle.uc_values.specs.declared.value.Value.TheVariants as value
use Rattle.uc_values.specs.declared.value.Value.TheViews.{out-Value, roll-Value, the_lemmas}
use Rattle.uc_values.specs.declared.value.Value.TheOpen.Value-F.{Bool as boolean, Int as integer, Bv as bits, Enum as label, Un as member, Rec as fields, Arr as array}

pub sameness-Bool : sameness Boolean ≡ sameness_form boolean_type
sameness-Bool = ap sameness (sym rolls-Bool) ∙ fold-roll-Ty Sameness sameness_form boolean_type

pub sameness-Int : sameness Integer ≡ sameness_form integer_type
sameness-Int = ap sameness (sym rolls-Int) ∙ fold-roll-Ty Sameness sameness_form integer_type

pub sameness-Bv : (width : ℕ) → sameness (Bits width) ≡ sameness_form (bits_type width)
sameness-Bv width = ap sameness (sym (rolls-Bv width)) ∙ fold-roll-Ty Sameness sameness_form (bits_type width)

pub sameness-Enum : (n k : ℕ) → sameness (Label n k) ≡ sameness_form (enum_type n k)
sameness-Enum n k = ap sameness (sym (rolls-Enum n k)) ∙ fold-roll-Ty Sameness sameness_form (enum_type n k)

pub sameness-Un : (n : ℕ) → sameness (Open n) ≡ sameness_form (open_type n)
sameness-Un n = ap sameness (sym (rolls-Un n)) ∙ fold-roll-Ty Sameness sameness_form (open_type n)

pub sameness-Rec : (fs : List (Field Ty)) → sameness (Record fs) ≡ sameness_form (record_type (map (with_test sameness) fs))
sameness-Rec fs = ap sameness (sym (rolls-Rec fs)) ∙ fold-roll-Ty Sameness sameness_form (record_type fs)

pub sameness-Arr : (i e : Ty) → sameness (Array i e) ≡ sameness_form (array_type (sameness i) (sameness e))
sameness-Arr i e = ap sameness (sym (rolls-Arr i e)) ∙ fold-roll-Ty Sameness sameness_form (array_type i e)

pub same-Rec : (fs : List (Field Ty)) (a b : Value) → same (Record fs) a b ≡ same_parts (sames fs) (parts_of a) (parts_of b)
same-Rec fs a b = ap (λ (s : Sameness). s.same a b) (sameness-Rec fs)

pub same-Arr : (i e : Ty) (a b : Value) → same (Array i e) a b ≡ same_arrays (sameness i) (sameness e) (out-Value a) (out-Value b)
same-Arr i e a b = ap (λ (s : Sameness). s.same a b) (sameness-Arr i e)

rolled : (v : Value) → roll-Value (out-Value v) ≡ v
rolled v = search (rules, the_lemmas)

-- a value that is no record has no parts
no_parts_form : (x : Form) → ((parts : List Value) → roll-Value x ≢ Rec parts) → parts_form x ≡ []
no_parts_form (boolean b) h = refl
no_parts_form (integer z) h = refl
no_parts_form (bits w n) h = refl
no_parts_form (label e k) h = refl
no_parts_form (member t n) h = refl
no_parts_form (fields parts) h = absurd (h parts (value.rolls-Rec parts))
no_parts_form (array d rows) h = refl

pub no-parts : (v : Value) → ((parts : List Value) → v ≢ Rec parts) → parts_of v ≡ []
no-parts v h = no_parts_form (out-Value v) (λ parts e. h parts (sym (rolled v) ∙ e))

-- without parts there is nothing that differs
pub same_parts-right : (fs : List (Field Sameness)) (xs : List Value) → same_parts fs xs [] ≡ true
same_parts-right [] [] = refl
same_parts-right [] (x ∷ xs) = refl
same_parts-right (f ∷ fs) [] = refl
same_parts-right (f ∷ fs) (x ∷ xs) = refl

pub same_parts-left : (fs : List (Field Sameness)) (ys : List Value) → same_parts fs [] ys ≡ true
same_parts-left [] [] = refl
same_parts-left [] (y ∷ ys) = refl
same_parts-left (f ∷ fs) [] = refl
same_parts-left (f ∷ fs) (y ∷ ys) = refl

pub same-unlike_left : (ty : Ty) (fs : List (Field Ty)) (a b : Value) → ty ≡ Record fs → ((parts : List Value) → a ≢ Rec parts) → true ≡ same ty a b
same-unlike_left ty fs a b e h =
    sym (ap (λ t. same t a b) e ∙ same-Rec fs a b ∙ ap (λ xs. same_parts (sames fs) xs (parts_of b)) (no-parts a h) ∙ same_parts-left (sames fs) (parts_of b))

pub same-unlike_right : (ty : Ty) (fs : List (Field Ty)) (a b : Value) → ty ≡ Record fs → ((parts : List Value) → b ≢ Rec parts) → true ≡ same ty a b
same-unlike_right ty fs a b e h =
    sym (ap (λ t. same t a b) e ∙ same-Rec fs a b ∙ ap (λ ys. same_parts (sames fs) (parts_of a) ys) (no-parts b h) ∙ same_parts-right (sames fs) (parts_of a))

none : (xs ys : List Value) → same_parts [] xs ys ≡ true
none [] [] = refl
none [] (y ∷ ys) = refl
none (x ∷ xs) [] = refl
none (x ∷ xs) (y ∷ ys) = refl

-- past the end of one of the lists nothing is compared
pub same_parts-end : (fs : List (Field Ty)) (xs ys : List Value) (n : ℕ) → min (min (length fs) (length xs)) (length ys) ≤ n → same_parts (sames (drop n fs)) (drop n xs) (drop n ys) ≡ true
same_parts-end [] xs ys n h = ap (λ fs. same_parts (sames fs) (drop n xs) (drop n ys)) (drop-nil {A = Field Ty} n) ∙ none (drop n xs) (drop n ys)
same_parts-end (f ∷ fs) [] ys n h = ap (λ xs. same_parts (sames (drop n (f ∷ fs))) xs (drop n ys)) (drop-nil {A = Value} n) ∙ same_parts-left (sames (drop n (f ∷ fs))) (drop n ys)
same_parts-end (f ∷ fs) (x ∷ xs) [] n h = ap (λ ys. same_parts (sames (drop n (f ∷ fs))) (drop n (x ∷ xs)) ys) (drop-nil {A = Value} n) ∙ same_parts-right (sames (drop n (f ∷ fs))) (drop n (x ∷ xs))
same_parts-end (f ∷ fs) (x ∷ xs) (y ∷ ys) zero h = absurd (omega arith)
same_parts-end (f ∷ fs) (x ∷ xs) (y ∷ ys) (suc n) h = same_parts-end fs xs ys n (omega arith)

-- each of the joined values passes where each that is not listed second does, and each that is
joined_case : (test : Value → Bool) (i : Value) (is js : List Value) (b : Bool) → list_all test (joined is js) ≡ (all_or_listed test is js && list_all test js)
    → list_all test (cond b (joined is js) (i ∷ joined is js)) ≡ ((b || test i) && all_or_listed test is js && list_all test js)
joined_case test i is js true h = h
joined_case test i is js false h = ap (λ x. test i && x) h ∙ sym (and_assoc (test i) (all_or_listed test is js) (list_all test js))

pub all-joined : (test : Value → Bool) (is js : List Value) → list_all test (joined is js) ≡ (all_or_listed test is js && list_all test js)
all-joined test [] js = refl
all-joined test (i ∷ is) js = joined_case test i is js (lists js i) (all-joined test is js)

same_tests : {A : Type 0} (f g : A → Bool) (xs : List A) → ((x : A) → f x ≡ g x) → list_all f xs ≡ list_all g xs
same_tests f g [] h = refl
same_tests f g (x ∷ xs) h = ap (λ b. b && list_all f xs) (h x) ∙ ap (λ b. g x && b) (same_tests f g xs h)

-- what two arrays hold at an index is the same
abbrev pub holds_same : Ty → Value → Value → Value → Bool
holds_same element a b i = same element (at a i) (at b i)

same_lists : (e : Ty) (d o : Value) (rows others : List Exception) (x : Value) → same e (element_at d rows x) (element_at o others x) ≡ holds_same e (Arr d rows) (Arr o others) x
same_lists e d o rows others x = ap (λ v. same e v (element_at o others x)) (sym (at-Arr d rows x)) ∙ ap (λ v. same e (at (Arr d rows) x) v) (sym (at-Arr o others x))

-- the sameness of two arrays, test by test
abbrev pub array_tests : Ty → Ty → Value → Value → Value → Value → List Exception → List Exception → Bool
array_tests i e a b d o rows others =
    (all_or_listed (holds_same e a b) (indices rows) (indices others) && list_all (holds_same e a b) (indices others))
    && (are_all (sameness i).count (length (joined (indices rows) (indices others))) || same e d o)

pub same-Arrs : (i e : Ty) (d o : Value) (rows others : List Exception) → same (Array i e) (Arr d rows) (Arr o others) ≡ array_tests i e (Arr d rows) (Arr o others) d o rows others
same-Arrs i e d o rows others =
    let f : same_arrays (sameness i) (sameness e) (out-Value (Arr d rows)) (out-Value (Arr o others)) ≡ same_arrays (sameness i) (sameness e) (array d rows) (array o others) = search (rules, the_lemmas) in
    let rest = are_all (sameness i).count (length (joined (indices rows) (indices others))) || same e d o in
    same-Arr i e (Arr d rows) (Arr o others) ∙ f
    ∙ ap (λ b. b && rest) (same_tests _ (holds_same e (Arr d rows) (Arr o others)) (joined (indices rows) (indices others)) (same_lists e d o rows others))
    ∙ ap (λ b. b && rest) (all-joined (holds_same e (Arr d rows) (Arr o others)) (indices rows) (indices others))

pub same-arrays : (ty i e : Ty) (a b d o : Value) (rows others : List Exception) → ty ≡ Array i e → a ≡ Arr d rows → b ≡ Arr o others → same ty a b ≡ array_tests i e a b d o rows others
same-arrays ty i e a b d o rows others t l r = rw (t, l, r) (same-Arrs i e d o rows others)

pub first_fails : (a b c : Bool) → a ≡ false → false ≡ ((a && b) && c)
first_fails a b c h = sym (ap (λ x. (x && b) && c) h)

pub second_fails : (a b c : Bool) → a ≡ true → b ≡ false → false ≡ ((a && b) && c)
second_fails a b c h g = sym (ap (λ x. (x && b) && c) h ∙ ap (λ x. x && c) g)

pub third_holds : (a b c d : Bool) → a ≡ true → b ≡ true → c ≡ true → true ≡ ((a && b) && (c || d))
third_holds a b c d h g f = sym (ap (λ x. (x && b) && (c || d)) h ∙ ap (λ x. x && (c || d)) g ∙ ap (λ x. x || d) f)

pub last_decides : (a b c d : Bool) → a ≡ true → b ≡ true → c ≡ false → d ≡ ((a && b) && (c || d))
last_decides a b c d h g f = sym (ap (λ x. (x && b) && (c || d)) h ∙ ap (λ x. x && (c || d)) g ∙ ap (λ x. x || d) f)

-- a type of 128 bits and more has more values than a number of 128 bits counts
wide_count : (width listed : ℕ) → 128 ≤ width → listed < 2 ^ 128 → nat_eq (2 ^ width) listed ≡ false
wide_count width listed h l =
    let wide : 2 ^ 128 ≤ 2 ^ width = pow_mono {i = 128} {j = width} h in
    elim (eqb_tells (2 ^ width) listed) [ inl x ↦ absurd (omega (arith, x.1, wide, l)) | inr x ↦ x.0 ]

pub uncounted : (ty : Ty) (width listed : ℕ) → ty ≡ Bits width → 128 ≤ width → listed < 2 ^ 128 → nat_lt width 128 ≡ are_all (sameness ty).count listed
uncounted ty width listed e h l =
    let small : nat_lt width 128 ≡ false = elim (leb_tells (suc width) 128) [ inl x ↦ absurd (omega (arith, x.1, h)) | inr x ↦ x.0 ] in
    small ∙ sym (ap (λ t. are_all (sameness t).count listed) e ∙ ap (λ (s : Sameness). are_all s.count listed) (sameness-Bv width) ∙ wide_count width listed h l)
