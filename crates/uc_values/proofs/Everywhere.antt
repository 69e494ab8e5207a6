-- Two arrays are the same where they hold the same at every index that fits.
use Rattle.std.specs.Prelude.{ℕ, suc, ◌<◌, ◌≡◌, Bool, true, false, not, ◌&&◌, ◌||◌, cond, nat_eq, IsTrue, List, [], ◌∷◌, length, map, Option, Some, None, ◌↔◌}
use Rattle.std.specs.List.{list_all}
use Rattle.std.proofs.Common.{rules, refl, sym, ap, ◌∙◌, subst, arith, ◌⊎◌, inl, inr}
use Rattle.std.proofs.lemmas.Bool.Decides.{nat_tests}
use Rattle.std.proofs.lemmas.List.{length-map}
use Rattle.uc_values.specs.Types.{is_scalar}
use Rattle.uc_values.specs.Values.{Exception, fits, same_scalar, lists, distinct, indices}
use Rattle.uc_values.specs.Arrays.{element_at, at}
use Rattle.uc_values.specs.Sameness.{sameness, same, same_arrays, joined, are_all, Agrees, IsAgreement}
use Rattle.uc_values.proofs.Shapes.{and_true}
use Rattle.uc_values.proofs.Scalars.{same_scalar-eq}
use Rattle.uc_values.proofs.Counting.{has, apart, AllBelow, bool_tells, missing, pigeonhole}
use Rattle.uc_values.proofs.Numbered.{Within, Numbered, numbered}
use Rattle.uc_values.proofs.Fitting.{IsArray, IsArray-fits}
use Rattle.uc_values.proofs.Stores.{at-Arr}
use Rattle.uc_values.proofs.Agreement.{same-Arr}
use Rattle.uc_values.specs.declared.ty.Ty.{Ty}
use Rattle.uc_values.specs.declared.ty.Ty.TheVariants.{Arr as Array}
use Rattle.uc_values.specs.declared.value.Value.{Value}
use Rattle.uc_values.specs.declared.value.Value.TheVariants.{Arr}
use Rattle.uc_values.specs.declared.value.Value.TheViews.{out-Value, the_lemmas}
use Rattle.uc_values.specs.declared.value.Value.TheOpen.Value-F.{Arr as array}

-- each value fits the type
abbrev AllFit : Ty → List Value → Type 0
AllFit s [] = Unit {0}
AllFit s (i ∷ is) = IsTrue (fits s i) × AllFit s is

indices_fit : (s : Ty) (rows : List Exception) → list_all (λ row. fits s row.0) rows ≡ true → AllFit s (indices rows)
indices_fit s [] h = tt
indices_fit s (row ∷ rows) h = let b = and_true h in (b.0, indices_fit s rows b.1)

abbrev AllWithin : Option ℕ → List ℕ → Type 0
AllWithin o [] = Unit {0}
AllWithin o (k ∷ ks) = Within o k × AllWithin o ks

numbers_within : (s : Ty) (c : Numbered s) (is : List Value) → AllFit s is → AllWithin (sameness s).count (map c.number is)
numbers_within s c [] h = tt
numbers_within s c (i ∷ is) h = (c.within i h.0, numbers_within s c is h.1)

lists-has : (s : Ty) (c : Numbered s) (is : List Value) (i : Value) → AllFit s is → IsTrue (fits s i) → lists is i ≡ has (map c.number is) (c.number i)
lists-has s c [] i h f = refl
lists-has s c (j ∷ is) i h f = ap (λ b. b || lists is i) (c.same j i h.0 f) ∙ ap (λ b. nat_eq (c.number j) (c.number i) || b) (lists-has s c is i h.1 f)

distinct-apart : (s : Ty) (c : Numbered s) (is : List Value) → AllFit s is → distinct is ≡ apart (map c.number is)
distinct-apart s c [] h = refl
distinct-apart s c (i ∷ is) h = ap (λ b. not b && distinct is) (lists-has s c is i h.1 h.0) ∙ ap (λ b. not (has (map c.number is) (c.number i)) && b) (distinct-apart s c is h.1)

by_truth : (P : List Value → Type 0) (b : Bool) (xs ys : List Value) → (b ≡ true → P xs) → (b ≡ false → P ys) → P (cond b xs ys)
by_truth P true xs ys t f = t refl
by_truth P false xs ys t f = f refl

joined_fit : (s : Ty) (is js : List Value) → AllFit s is → AllFit s js → AllFit s (joined is js)
joined_fit s [] js h g = g
joined_fit s (i ∷ is) js h g =
    by_truth (AllFit s) (lists js i) (joined is js) (i ∷ joined is js) (λ e. joined_fit s is js h.1 g) (λ e. (h.0, joined_fit s is js h.1 g))

or_false : (a b : Bool) → (a || b) ≡ false → (a ≡ false) × (b ≡ false)
or_false true b h = cc
or_false false b h = (refl, h)

or_true : (a b : Bool) → (a || b) ≡ true → (a ≡ true) ⊎ (b ≡ true)
or_true true b h = inl refl
or_true false b h = inr h

-- what neither list has, the joined one has not
joined-absent : (is js : List Value) (i : Value) → lists is i ≡ false → lists js i ≡ false → lists (joined is js) i ≡ false
joined-absent [] js i h g = g
joined-absent (k ∷ is) js i h g =
    let b = or_false (same_scalar k i) (lists is i) h in
    by_truth (λ xs. lists xs i ≡ false) (lists js k) (joined is js) (k ∷ joined is js)
    (λ e. joined-absent is js i b.1 g)
    (λ e. ap (λ x. x || lists (joined is js) i) b.0 ∙ joined-absent is js i b.1 g)

not_listed : (is js : List Value) (k i : Value) → lists js k ≡ true → lists js i ≡ false → same_scalar k i ≡ false
not_listed is js k i h g = elim (bool_tells (same_scalar k i)) [ inl x ↦ cc (sym h ∙ ap (λ v. lists js v) (same_scalar-eq k i x) ∙ g) | inr x ↦ x ]

-- what the joined list has not, neither list has
absent-second : (is js : List Value) (i : Value) → lists (joined is js) i ≡ false → lists js i ≡ false
absent-second [] js i h = h
absent-second (k ∷ is) js i h =
    by_truth (λ xs. lists xs i ≡ false → lists js i ≡ false) (lists js k) (joined is js) (k ∷ joined is js)
    (λ e. absent-second is js i)
    (λ e g. absent-second is js i (or_false (same_scalar k i) (lists (joined is js) i) g).1) h

absent-first : (is js : List Value) (i : Value) → lists (joined is js) i ≡ false → lists is i ≡ false
absent-first [] js i h = refl
absent-first (k ∷ is) js i h =
    let second = absent-second (k ∷ is) js i h in
    by_truth (λ xs. lists xs i ≡ false → lists (k ∷ is) i ≡ false) (lists js k) (joined is js) (k ∷ joined is js)
    (λ e g. ap (λ b. b || lists is i) (not_listed is js k i e second) ∙ absent-first is js i g)
    (λ e g. let b = or_false (same_scalar k i) (lists (joined is js) i) g in ap (λ x. x || lists is i) b.0 ∙ absent-first is js i b.1) h

not_true : (a : Bool) → not a ≡ true → a ≡ false
not_true true h = cc
not_true false h = refl

joined-distinct : (is js : List Value) → distinct is ≡ true → distinct js ≡ true → distinct (joined is js) ≡ true
joined-distinct [] js h g = g
joined-distinct (k ∷ is) js h g =
    let b = and_true {a = not (lists is k)} {b = distinct is} h in
    by_truth (λ xs. distinct xs ≡ true) (lists js k) (joined is js) (k ∷ joined is js)
    (λ e. joined-distinct is js b.1 g)
    (λ e. ap (λ x. not x && distinct (joined is js)) (joined-absent is js k (not_true (lists is k) b.0) e) ∙ joined-distinct is js b.1 g)

-- an index that is not listed has the default
element_at-default : (d : Value) (rows : List Exception) (i : Value) → lists (indices rows) i ≡ false → element_at d rows i ≡ d
element_at-default d [] i h = refl
element_at-default d (row ∷ rows) i h =
    let b = or_false (same_scalar row.0 i) (lists (indices rows) i) h in
    ap (λ t. cond t row.1 (element_at d rows i)) b.0 ∙ element_at-default d rows i b.1

-- a listed value passes where all do
passes : (test : Value → Bool) (js : List Value) (i : Value) → list_all test js ≡ true → lists js i ≡ true → test i ≡ true
passes test [] i a h = cc
passes test (j ∷ js) i a h =
    let b = and_true {a = test j} {b = list_all test js} a in
    elim (or_true (same_scalar j i) (lists js i) h) [
      | inl x ↦ ap test (sym (same_scalar-eq j i x)) ∙ b.0
      | inr x ↦ passes test js i b.1 x
    ]

all_pass : (s : Ty) (test : Value → Bool) (js : List Value) → AllFit s js → ((i : Value) → IsTrue (fits s i) → test i ≡ true) → list_all test js ≡ true
all_pass s test [] h f = refl
all_pass s test (j ∷ js) h f = ap (λ b. b && list_all test js) (f j h.0) ∙ all_pass s test js h.1 f

below : (c : ℕ) (ks : List ℕ) → AllWithin (Some c) ks → AllBelow c ks
below c [] h = tt
below c (k ∷ ks) h = (h.0, below c ks h.1)

-- where all are listed, none is missing
none_missing : (o : Option ℕ) (ks : List ℕ) (n : ℕ) → are_all o (length ks) ≡ true → AllWithin o ks → Within o n → apart ks ≡ true → has ks n ≡ false → ⊥
none_missing None ks n a w h u f = cc
none_missing (Some c) ks n a w h u f =
    let e : c ≡ length ks = grind (arith, nat_tests) in
    let t : apart (n ∷ ks) ≡ true = ap (λ b. not b && apart ks) f ∙ u in
    omega (arith, e, pigeonhole c (n ∷ ks) t (h, below c ks w))

-- where not all are listed, one is missing
one_missing : (o : Option ℕ) (ks : List ℕ) → are_all o (length ks) ≡ false → AllWithin o ks → apart ks ≡ true → (n : ℕ) × Within o n × (has ks n ≡ false)
one_missing None ks a w u = let r = missing (suc (length ks)) ks (omega arith) in (r.0, tt, r.2)
one_missing (Some c) ks a w u =
    let most = pigeonhole c ks u (below c ks w) in
    let less : length ks < c = grind (arith, nat_tests) in
    let r = missing c ks less in
    (r.0, r.1, r.2)

-- what two arrays hold at an index is the same
abbrev at_same : Ty → Value → List Exception → Value → List Exception → Value → Bool
at_same e d rows o others i = same e (element_at d rows i) (element_at o others i)

defaults_same : (e : Ty) (d o : Value) (rows others : List Exception) (i : Value) → lists (joined (indices rows) (indices others)) i ≡ false → at_same e d rows o others i ≡ same e d o
defaults_same e d o rows others i h =
    ap (λ v. same e v (element_at o others i)) (element_at-default d rows i (absent-first (indices rows) (indices others) i h))
    ∙ ap (λ v. same e d v) (element_at-default o others i (absent-second (indices rows) (indices others) i h))

-- two arrays, with what is known of their exceptions
record Two (s : Ty) (rows others : List Exception) : Type 0 where
  first : AllFit s (indices rows)
  second : AllFit s (indices others)
  apart_first : distinct (indices rows) ≡ true
  apart_second : distinct (indices others) ≡ true

same_forms : (s e : Ty) (d o : Value) (rows others : List Exception) → Bool
same_forms s e d o rows others = same_arrays (sameness s) (sameness e) (array d rows) (array o others)

count_numbers : (s : Ty) (c : Numbered s) (is : List Value) (b : Bool) → are_all (sameness s).count (length is) ≡ b → are_all (sameness s).count (length (map c.number is)) ≡ b
count_numbers s c is b h = ap (λ n. are_all (sameness s).count n) (length-map is c.number) ∙ h

same_everywhere : (s e : Ty) (c : Numbered s) (d o : Value) (rows others : List Exception) → Two s rows others
    → same_arrays (sameness s) (sameness e) (array d rows) (array o others) ≡ true → (i : Value) → IsTrue (fits s i) → at_same e d rows o others i ≡ true
same_everywhere s e c d o rows others t h i f =
    let both = joined (indices rows) (indices others) in
    let b = and_true {a = list_all (at_same e d rows o others) both} {b = are_all (sameness s).count (length both) || same e d o} h in
    let fit = joined_fit s (indices rows) (indices others) t.first t.second in
    elim (bool_tells (lists both i)) [
      | inl x ↦ passes (at_same e d rows o others) both i b.0 x
      | inr x ↦
          elim (or_true (are_all (sameness s).count (length both)) (same e d o) b.1) [
            | inl y ↦
                absurd (none_missing (sameness s).count (map c.number both) (c.number i) (count_numbers s c both true y) (numbers_within s c both fit) (c.within i f)
                (sym (distinct-apart s c both fit) ∙ joined-distinct (indices rows) (indices others) t.apart_first t.apart_second)
                (sym (lists-has s c both i fit f) ∙ x))
            | inr y ↦ defaults_same e d o rows others i x ∙ y
          ]
    ]

everywhere_same : (s e : Ty) (c : Numbered s) (d o : Value) (rows others : List Exception) → Two s rows others
    → ((i : Value) → IsTrue (fits s i) → at_same e d rows o others i ≡ true) → same_arrays (sameness s) (sameness e) (array d rows) (array o others) ≡ true
everywhere_same s e c d o rows others t h =
    let both = joined (indices rows) (indices others) in
    let fit = joined_fit s (indices rows) (indices others) t.first t.second in
    let listed : list_all (at_same e d rows o others) both ≡ true = all_pass s (at_same e d rows o others) both fit h in
    let last : (are_all (sameness s).count (length both) || same e d o) ≡ true = elim (bool_tells (are_all (sameness s).count (length both))) [
      | inl x ↦ ap (λ b. b || same e d o) x
      | inr x ↦
          let r = one_missing (sameness s).count (map c.number both) (count_numbers s c both false x) (numbers_within s c both fit)
          (sym (distinct-apart s c both fit) ∙ joined-distinct (indices rows) (indices others) t.apart_first t.apart_second) in
          let i = c.member r.0 in
          let f = c.fitting r.0 r.1 in
          let absent : lists both i ≡ false = lists-has s c both i fit f ∙ ap (λ n. has (map c.number both) n) (c.back r.0 r.1) ∙ r.2 in
          ap (λ b. b || same e d o) x ∙ sym (defaults_same e d o rows others i absent) ∙ h i f
    ] in
    ap (λ b. b && (are_all (sameness s).count (length both) || same e d o)) listed ∙ last

same-forms : (s e : Ty) (d o : Value) (rows others : List Exception) → same (Array s e) (Arr d rows) (Arr o others) ≡ same_arrays (sameness s) (sameness e) (array d rows) (array o others)
same-forms s e d o rows others =
    let f : same_arrays (sameness s) (sameness e) (out-Value (Arr d rows)) (out-Value (Arr o others)) ≡ same_arrays (sameness s) (sameness e) (array d rows) (array o others) = search (rules, the_lemmas) in
    same-Arr s e (Arr d rows) (Arr o others) ∙ f

at-same : (e : Ty) (d o : Value) (rows others : List Exception) (i : Value) → same e (at (Arr d rows) i) (at (Arr o others) i) ≡ at_same e d rows o others i
at-same e d o rows others i = ap (λ v. same e v (at (Arr o others) i)) (at-Arr d rows i) ∙ ap (λ v. same e (element_at d rows i) v) (at-Arr o others i)

Two-arrays : (s e : Ty) (a b : Value) (x : IsArray s e a) (y : IsArray s e b) → Two s x.rows y.rows
Two-arrays s e a b x y = record {
  first = indices_fit s x.rows x.indices_fit;
  second = indices_fit s y.rows y.indices_fit;
  apart_first = x.distinct;
  apart_second = y.distinct;
}

agreement_forms : (s e : Ty) (c : Numbered s) (d o : Value) (rows others : List Exception) → Two s rows others → IsTrue (same (Array s e) (Arr d rows) (Arr o others)) ↔ Agrees s e (Arr d rows) (Arr o others)
agreement_forms s e c d o rows others t = (
  (λ h i f. at-same e d o rows others i ∙ same_everywhere s e c d o rows others t (sym (same-forms s e d o rows others) ∙ h) i f),
  (λ h. same-forms s e d o rows others ∙ everywhere_same s e c d o rows others t (λ i f. sym (at-same e d o rows others i) ∙ h i f)),
)

-- fitting arrays are the same exactly where they hold the same at every index that fits
pub same-agrees : (s e : Ty) (a b : Value) → IsTrue (is_scalar s) → IsTrue (fits (Array s e) a) → IsTrue (fits (Array s e) b) → IsTrue (same (Array s e) a b) ↔ Agrees s e a b
same-agrees s e a b h f g =
    let x = IsArray-fits s e a f in
    let y = IsArray-fits s e b g in
    subst (λ v. IsTrue (same (Array s e) v b) ↔ Agrees s e v b) (sym x.is)
    (subst (λ w. IsTrue (same (Array s e) (Arr x.default x.rows) w) ↔ Agrees s e (Arr x.default x.rows) w) (sym y.is)
    (agreement_forms s e (numbered s h) x.default y.default x.rows y.rows (Two-arrays s e a b x y)))

pub agreement : (ty : Ty) (a b : Value) (r : Bool) → r ≡ same ty a b → IsAgreement ty a b r
agreement ty a b r h s e t c f g =
    let k = same-agrees s e a b c (subst (λ u. IsTrue (fits u a)) t f) (subst (λ u. IsTrue (fits u b)) t g) in
    subst (λ q. IsTrue q ↔ Agrees s e a b) (sym (h ∙ ap (λ u. same u a b) t)) k
