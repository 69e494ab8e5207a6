-- An index at which two arrays differ fits the type of their indices.
use Rattle.std.specs.Prelude.{◌≡◌, ℕ, ◌+◌, ◌<◌, ◌≤◌, pos, Bool as Truth, true, false, cond, ◌&&◌, ◌||◌, nat_eq, nat_lt, not, IsTrue, List, [], ◌∷◌, ◌++◌, length, Option, Some, None, zero, suc}
use Rattle.std.specs.List.{list_all}
use Rattle.std.proofs.Common.{refl, sym, ap, ◌∙◌, arith, subst, rules}
use Rattle.std.proofs.lemmas.Bool.{false≢true}
use Rattle.std.proofs.lemmas.Bool.Decides.{nat_tests}
use Rattle.uc_values.specs.Values.{Exception, fits, fits_form, zero_of, lists, indices, same_scalar}
use Rattle.uc_values.specs.Types.{is_scalar}
use Rattle.uc_values.specs.Sameness.{same}
use Rattle.uc_values.specs.Arrays.{at}
use Rattle.uc_values.proofs.Shapes.{and_true, valid-Arr, scalar-Rec, scalar-Arr}
use Rattle.uc_values.proofs.Fitting.{fits-IsBits, fits-Enum, fits-Open, Truth-fits, Int-fits, zero-fits, IsArray-fits}
use Rattle.uc_values.specs.declared.ty.Ty.{Ty}
use Rattle.uc_values.specs.declared.ty.Ty.TheVariants.{Enum as Label, Un as Open, Arr as Array, rolls-Bool, rolls-Int, rolls-Bv, rolls-Rec, rolls-Enum, rolls-Un, rolls-Arr}
use Rattle.uc_values.specs.declared.ty.Ty.TheViews as type
use Rattle.uc_values.specs.declared.ty.Ty.TheViews.{out-Ty, roll-Ty}
use Rattle.uc_values.specs.declared.ty.Ty.TheOpen.{Ty-F}
use Rattle.uc_values.specs.declared.ty.Ty.TheOpen.Ty-F.{Bool as boolean_type, Int as integer_type, Bv as bits_type, Rec as record_type, Arr as array_type, Enum as enum_type, Un as open_type}
use Rattle.uc_values.specs.declared.value.Value.{Value}
use Rattle.uc_values.specs.declared.value.Value.TheVariants.{Enum, Un, Arr}
use Rattle.uc_values.specs.declared.value.Value.TheViews.{out-Value, the_lemmas}
use Rattle.uc_ops.specs.Typing.{Valid, index_of, element_of}
use Rattle.uc_ops.specs.Differences.{nth_value, at_most, unlisted_from, unlisted, listed_in, default_of, first_difference, default_difference, value_or, difference_in, difference}
use Rattle.uc_ops.proofs.Typed.{index-Arr, element-Arr}

-- the first of two, else the second
abbrev pub or_else : Option Value → Option Value → Option Value
or_else None p = p
or_else (Some v) p = Some v

abbrev Fits : Ty → Value → Type 0
Fits ty v = IsTrue (fits ty v)

abbrev FitsIfAny : Ty → Option Value → Type 0
FitsIfAny ty None = Unit {0}
FitsIfAny ty (Some v) = Fits ty v

value_or-fits : (ty : Ty) (v : Value) (o : Option Value) → Fits ty v → FitsIfAny ty o → Fits ty (value_or v o)
value_or-fits ty v None f g = f
value_or-fits ty v (Some w) f g = g

either : (P : Option Value → Type 0) (b : Truth) (o p : Option Value) → P o → P p → P (cond b o p)
either P true o p x y = x
either P false o p x y = y

first-fits : (index element : Ty) (a b : Value) (is : List Value) → list_all (fits index) is ≡ true → FitsIfAny index (first_difference element a b is)
first-fits index element a b [] h = tt
first-fits index element a b (i ∷ is) h =
    let both = and_true h in
    either (FitsIfAny index) (same element (at a i) (at b i)) (first_difference element a b is) (Some i) (first-fits index element a b is both.1) both.0

label-fits : (number labels k : ℕ) → k < labels → Fits (Label number labels) (Enum number k)
label-fits number labels k h =
    let e : fits_form (enum_type number labels) (out-Value (Enum number k)) ≡ (nat_eq number number && nat_lt k labels) = search (rules, the_lemmas) in
    let t : (nat_eq number number && nat_lt k labels) ≡ true = grind (arith, nat_tests) in
    fits-Enum number labels (Enum number k) ∙ e ∙ t

member-fits : (number k : ℕ) → Fits (Open number) (Un number k)
member-fits number k =
    let e : fits_form (open_type number) (out-Value (Un number k)) ≡ nat_eq number number = search (rules, the_lemmas) in
    let t : nat_eq number number ≡ true = grind (arith, nat_tests) in
    fits-Open number (Un number k) ∙ e ∙ t

-- the values of a scalar type in their order fit it
abbrev NthFits : Ty → Type 0
NthFits ty = (n k : ℕ) → IsTrue (is_scalar ty) → k < at_most ty n → Fits ty (nth_value ty k)

nth_cases : (y : Ty-F Ty) → NthFits (roll-Ty y)
nth_cases boolean_type = subst NthFits (sym rolls-Bool) (λ n k s h. Truth-fits (not (nat_eq k 0)))
nth_cases integer_type = subst NthFits (sym rolls-Int) (λ n k s h. Int-fits (pos k))
nth_cases (bits_type w) = subst NthFits (sym (rolls-Bv w)) (λ n k s h. fits-IsBits w k (omega (arith, h)))
nth_cases (enum_type e l) = subst NthFits (sym (rolls-Enum e l)) (λ n k s h. label-fits e l k (omega (arith, h)))
nth_cases (open_type t) = subst NthFits (sym (rolls-Un t)) (λ n k s h. member-fits t k)
nth_cases (record_type fs) = subst NthFits (sym (rolls-Rec fs)) (λ n k s h. absurd (false≢true (sym (scalar-Rec fs) ∙ s)))
nth_cases (array_type i e) = subst NthFits (sym (rolls-Arr i e)) (λ n k s h. absurd (false≢true (sym (scalar-Arr i e) ∙ s)))

rolled : (t : Ty) → roll-Ty (out-Ty t) ≡ t
rolled t = search (rules, type.the_lemmas)

nth-fits : (ty : Ty) → NthFits ty
nth-fits ty = subst NthFits (rolled ty) (nth_cases (out-Ty ty))

unlisted_from-fits : (ty : Ty) (listed : List Value) (limit n more : ℕ) → IsTrue (is_scalar ty) → n + more ≤ at_most ty limit → FitsIfAny ty (unlisted_from ty listed n more)
unlisted_from-fits ty listed limit n zero s h = tt
unlisted_from-fits ty listed limit n (suc more) s h =
    either (FitsIfAny ty) (lists listed (nth_value ty n)) (unlisted_from ty listed (n + 1) more) (Some (nth_value ty n))
    (unlisted_from-fits ty listed limit (n + 1) more s (omega (arith, h))) (nth-fits ty limit n s (omega (arith, h)))

unlisted-fits : (ty : Ty) (listed : List Value) → IsTrue (is_scalar ty) → FitsIfAny ty (unlisted ty listed)
unlisted-fits ty listed s = unlisted_from-fits ty listed (length listed + 1) 0 (at_most ty (length listed + 1)) s (omega arith)

indices-fit : (index : Ty) (rows : List Exception) → list_all (λ row. fits index row.0) rows ≡ true → list_all (fits index) (indices rows) ≡ true
indices-fit index [] h = refl
indices-fit index (row ∷ rows) h = let both = and_true h in ap (λ b. b && list_all (fits index) (indices rows)) both.0 ∙ indices-fit index rows both.1

listed-Arr : (d : Value) (rows : List Exception) → listed_in (Arr d rows) ≡ indices rows
listed-Arr d rows = search (rules, the_lemmas)

listed-fits : (index element : Ty) (a : Value) → Fits (Array index element) a → list_all (fits index) (listed_in a) ≡ true
listed-fits index element a f =
    let r = IsArray-fits index element a f in
    ap (λ v. list_all (fits index) (listed_in v)) r.is ∙ ap (list_all (fits index)) (listed-Arr r.default r.rows) ∙ indices-fit index r.rows r.indices_fit

all-append : (p : Value → Truth) (xs ys : List Value) → list_all p xs ≡ true → list_all p ys ≡ true → list_all p (xs ++ ys) ≡ true
all-append p [] ys h g = g
all-append p (x ∷ xs) ys h g = let both = and_true h in ap (λ b. b && list_all p (xs ++ ys)) both.0 ∙ all-append p xs ys both.1 g

difference_in-fits : (index element : Ty) (a b : Value) → Valid (Array index element) → Fits (Array index element) a → Fits (Array index element) b → Fits index (difference_in index element a b)
difference_in-fits index element a b v f g =
    let parts = and_true (sym (valid-Arr index element) ∙ v) in
    let valid = (and_true parts.0).0 in
    let scalar = (and_true parts.1).0 in
    let listed = all-append (fits index) (listed_in a) (listed_in b) (listed-fits index element a f) (listed-fits index element b g) in
    value_or-fits index (value_or (zero_of index) (default_difference index element a b)) (first_difference element a b (listed_in a ++ listed_in b))
    (value_or-fits index (zero_of index) (default_difference index element a b) (zero-fits index valid)
    (either (FitsIfAny index) (same element (default_of a) (default_of b)) None (unlisted index (listed_in a ++ listed_in b)) tt (unlisted-fits index (listed_in a ++ listed_in b) scalar)))
    (first-fits index element a b (listed_in a ++ listed_in b) listed)

-- an index at which two arrays of a type differ fits the type of their indices
pub difference-fits : (index element : Ty) (a b : Value) → Valid (Array index element) → Fits (Array index element) a → Fits (Array index element) b → Fits (index_of (Array index element)) (difference (Array index element) a b)
difference-fits index element a b v f g =
    subst (λ i. Fits i (difference_in i (element_of (Array index element)) a b)) (sym (index-Arr index element))
    (subst (λ e. Fits index (difference_in index e a b)) (sym (element-Arr index element)) (difference_in-fits index element a b v f g))

append_cases : (t : Truth) (o rest tail whole : Option Value) (i : Value) → o ≡ cond t rest (Some i) → (o ≡ rest → whole ≡ or_else o tail) → cond t whole (Some i) ≡ or_else o tail
append_cases true o rest tail whole i h f = f h
append_cases false o rest tail whole i h f = ap (λ x. or_else x tail) (sym h)

-- the first difference in two lists is that in the first, else that in the second
pub first_difference-append : (element : Ty) (a b : Value) (is js : List Value) (o : Option Value) → o ≡ first_difference element a b is
    → first_difference element a b (is ++ js) ≡ or_else o (first_difference element a b js)
first_difference-append element a b [] js o e = ap (λ x. or_else x (first_difference element a b js)) (sym e)
first_difference-append element a b (i ∷ is) js o e =
    append_cases (same element (at a i) (at b i)) o (first_difference element a b is) (first_difference element a b js) (first_difference element a b (is ++ js)) i e
    (first_difference-append element a b is js o)

-- a listed value is passed over
pub unlisted_from-next : (ty : Ty) (listed : List Value) (n more less : ℕ) → more ≡ suc less → lists listed (nth_value ty n) ≡ true → unlisted_from ty listed n more ≡ unlisted_from ty listed (n + 1) less
unlisted_from-next ty listed n more less e h =
    ap (unlisted_from ty listed n) e ∙ ap (λ b. cond b (unlisted_from ty listed (n + 1) less) (Some (nth_value ty n))) h

pub lists-append : (xs ys : List Value) (v : Value) → lists (xs ++ ys) v ≡ (lists xs v || lists ys v)
lists-append [] ys v = refl
lists-append (x ∷ xs) ys v = ap (λ b. same_scalar x v || b) (lists-append xs ys v) ∙ by (same_scalar x v)
  where
    by : (t : Truth) → (t || (lists xs v || lists ys v)) ≡ ((t || lists xs v) || lists ys v)
    by true = refl
    by false = refl
