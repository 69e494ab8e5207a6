-- Targets from left to right, as far as a loop has come, and the forms of assignments.
use Rattle.std.proofs.Common.{◌≡◌, ℕ, suc, ◌+◌, ◌<◌, ◌≤◌, List, [], ◌∷◌, ◌++◌, length, drop, map, get_or, refl, sym, ap, ◌∙◌, subst, Option, Some, None, arith, append_assoc, drop-cons, add-one}
use Rattle.std.specs.Prelude.{Result, Err}
use Rattle.std.specs.Option.{option_map, option_and_then}
use Rattle.std.proofs.lemmas.List.{drop_all}
use Rattle.uc_syntax.specs.declared.expression.Expr.{Expr}
use Rattle.uc_syntax.specs.declared.statement.Target.{Target}
use Rattle.uc_flat.specs.declared.statement.Statement.{Statement}
use Rattle.uc_flat_expressions.specs.declared.typed.TypedExpression.{TypedExpression}
use Rattle.uc_flat_expressions.specs.declared.typed.Meant.{Meant}
use Rattle.uc_flat_expressions.specs.declared.typed.FlatError.{FlatError}
use Rattle.uc_flat_expressions.specs.declared.typed.FlatError.TheVariants.{NoMemory, NotBuilt}
use Rattle.uc_flat_expressions.specs.Answers.{IsAnswer}
use Rattle.uc_flat_expressions.specs.Expressions.{flat_of, all_of}
use Rattle.uc_flat_code.specs.Code.{MayBe, in_order}
use Rattle.uc_flat_code.specs.declared.made.MadeCode.{MadeCode}
use Rattle.uc_flat_code.specs.Init.{Made, alone, given, kept_in, each_given, through_kept, assigned_by}
use Rattle.uc_flat_code.specs.FlatInitWalk.{IsWalked}

from_next : {A : Type 0} (xs : List A) (n : ℕ) (x : A) → n < length xs → x ≡ get_or xs n x → drop n xs ≡ x ∷ drop (n + 1) xs
from_next xs n x l is = drop-cons xs n x l ∙ ap (λ y. y ∷ drop (suc n) xs) (sym is) ∙ ap (λ m. x ∷ drop m xs) (sym (add-one n))

-- what is written behind what was written so far
abbrev pub behind_writes : List Statement → MayBe → MayBe
behind_writes all o = option_map (λ xs. all ++ xs) o

abbrev pub left_given : List Meant → ℕ → List Target → List TypedExpression → ℕ → MayBe
left_given names first ts xs k = in_order (each_given names (first + k) (drop k ts) (drop k xs))

pub uneven_none : (names : List Meant) (n : ℕ) (ts : List Target) (xs : List TypedExpression) → (length ts ≡ length xs → ⊥) → in_order (each_given names n ts xs) ≡ None
unfolding each_given
uneven_none names n [] [] h = absurd (h refl)
uneven_none names n [] (x ∷ xs) h = refl
uneven_none names n (t ∷ ts) [] h = refl
uneven_none names n (t ∷ ts) (x ∷ xs) h =
    ap (λ o. option_and_then (λ ys. option_map (λ zs. ys ++ zs) o) (given names t (kept_in n x))) (uneven_none names (n + 1) ts xs (λ q. h (omega (arith, q)))) ∙ nothing (given names t (kept_in n x))
  where
    nothing : (o : MayBe) → option_and_then (λ ys. option_map (λ zs. ys ++ zs) None) o ≡ None
    nothing None = refl
    nothing (Some ys) = refl

next_is : (names : List Meant) (first : ℕ) (ts : List Target) (xs : List TypedExpression) (k : ℕ) (t : Target) (x : TypedExpression) → k < length ts → length ts ≡ length xs → t ≡ get_or ts k t → x ≡ get_or xs k x
    → left_given names first ts xs k ≡ option_and_then (λ ys. option_map (λ zs. ys ++ zs) (left_given names first ts xs (k + 1))) (given names t (kept_in (first + k) x))
unfolding each_given
next_is names first ts xs k t x l even tt' xx =
    ap (λ us. in_order (each_given names (first + k) us (drop k xs))) (from_next ts k t l tt')
    ∙ ap (λ us. in_order (each_given names (first + k) (t ∷ drop (k + 1) ts) us)) (from_next xs k x (omega (arith, l, even)) xx)
    ∙ ap (λ m. option_and_then (λ ys. option_map (λ zs. ys ++ zs) (in_order (each_given names m (drop (k + 1) ts) (drop (k + 1) xs)))) (given names t (kept_in (first + k) x))) (grouped first k)
  where
    grouped : (a b : ℕ) → (a + b) + 1 ≡ a + (b + 1)
    grouped a b = omega arith

more_writes : (all more : List Statement) (o : MayBe) → behind_writes all (behind_writes more o) ≡ behind_writes (all ++ more) o
more_writes all more None = refl
more_writes all more (Some xs) = ap Some (sym (append_assoc all more xs))

pub given_err : (names : List Meant) (first : ℕ) (ts : List Target) (xs : List TypedExpression) (all : List Statement) (total : MayBe) (k : ℕ) (t : Target) (x : TypedExpression) (err : FlatError) → k < length ts → length ts ≡ length xs → t ≡ get_or ts k t → x ≡ get_or xs k x
    → total ≡ behind_writes all (left_given names first ts xs k) → IsAnswer {A = List Statement} (given names t (kept_in (first + k) x)) (Err err) → IsAnswer {A = List Statement} total (Err err)
given_err names first ts xs all total k t x NoMemory l even tt' xx inv h = tt
given_err names first ts xs all total k t x NotBuilt l even tt' xx inv h =
    inv ∙ ap (behind_writes all) (next_is names first ts xs k t x l even tt' xx ∙ ap (option_and_then (λ ys. option_map (λ zs. ys ++ zs) (left_given names first ts xs (k + 1)))) h)

pub given_step : (names : List Meant) (first : ℕ) (ts : List Target) (xs : List TypedExpression) (all more whole : List Statement) (total : MayBe) (k : ℕ) (t : Target) (x : TypedExpression) → k < length ts → length ts ≡ length xs → t ≡ get_or ts k t → x ≡ get_or xs k x
    → total ≡ behind_writes all (left_given names first ts xs k) → given names t (kept_in (first + k) x) ≡ Some more → whole ≡ all ++ more → total ≡ behind_writes whole (left_given names first ts xs (k + 1))
given_step names first ts xs all more whole total k t x l even tt' xx inv h m =
    inv
    ∙ ap (behind_writes all) (next_is names first ts xs k t x l even tt' xx ∙ ap (option_and_then (λ ys. option_map (λ zs. ys ++ zs) (left_given names first ts xs (k + 1)))) h)
    ∙ more_writes all more (left_given names first ts xs (k + 1))
    ∙ ap (λ ws. behind_writes ws (left_given names first ts xs (k + 1))) (sym m)

pub given_end : (names : List Meant) (first : ℕ) (ts : List Target) (xs : List TypedExpression) (all : List Statement) (total : MayBe) (k : ℕ) → length ts ≤ k → length ts ≡ length xs → total ≡ behind_writes all (left_given names first ts xs k) → total ≡ Some all
unfolding each_given
given_end names first ts xs all total k l even inv =
    inv
    ∙ ap (λ us. behind_writes all (in_order (each_given names (first + k) us (drop k xs)))) (drop_all k ts l)
    ∙ ap (λ us. behind_writes all (in_order (each_given names (first + k) [] us))) (drop_all k xs (omega (arith, l, even)))
    ∙ ap Some (whole all)
  where
    whole : (ys : List Statement) → ys ++ [] ≡ ys
    whole [] = refl
    whole (y ∷ ys) = ap (λ zs. y ∷ zs) (whole ys)

pub given_begin : (o : MayBe) → o ≡ behind_writes [] o
given_begin None = refl
given_begin (Some xs) = refl

-- ---- one target, and several

one_item : {A : Type 0} (xs : List A) (x : A) → length xs ≡ 1 → x ≡ get_or xs 0 x → xs ≡ x ∷ []
one_item [] x l is = absurd (omega (arith, l))
one_item (y ∷ []) x l is = ap (λ z. z ∷ []) (sym is)
one_item (y ∷ (z ∷ xs)) x l is = absurd (omega (arith, l))

abbrev by_sources : List Target → List Meant → ℕ → List Expr → Option Made
by_sources ts names n es = option_and_then (λ xs. assigned_by ts xs names n) (all_of (map (flat_of names) es))

alone_is : (t : Target) (names : List Meant) (n : ℕ) (o : Option TypedExpression) → option_and_then (λ xs. assigned_by (t ∷ []) xs names n) (option_and_then (λ x. option_map (λ xs. x ∷ xs) (Some [])) o) ≡ option_and_then (λ x. option_map (alone names) (given names t x)) o
unfolding assigned_by
alone_is t names n None = refl
alone_is t names n (Some x) = refl

pub one_answer : (ts : List Target) (es : List Expr) (t : Target) (e : Expr) (names : List Meant) (n : ℕ) (r : Result MadeCode FlatError) → length ts ≡ 1 → length es ≡ 1 → t ≡ get_or ts 0 t → e ≡ get_or es 0 e
    → IsWalked (option_and_then (λ x. option_map (alone names) (given names t x)) (flat_of names e)) names r → IsWalked (by_sources ts names n es) names r
one_answer ts es t e names n r l m tt' ee h =
    subst (λ o. IsWalked o names r)
    (sym (ap (λ us. by_sources us names n es) (one_item ts t l tt') ∙ ap (by_sources (t ∷ []) names n) (one_item es e m ee) ∙ alone_is t names n (flat_of names e))) h

several_is : (ts : List Target) (xs : List TypedExpression) (names : List Meant) (n : ℕ) → (length ts ≡ 1 → length xs ≡ 1 → ⊥) → assigned_by ts xs names n ≡ option_map (through_kept names n xs) (in_order (each_given names n ts xs))
unfolding assigned_by
several_is [] xs names n h = refl
several_is (t ∷ []) [] names n h = refl
several_is (t ∷ []) (x ∷ []) names n h = absurd (h refl refl)
several_is (t ∷ []) (x ∷ (y ∷ xs)) names n h = refl
several_is (t ∷ (u ∷ ts)) xs names n h = refl

same_list : (a b : List TypedExpression) → Some a ≡ Some b → a ≡ b
same_list a b q = cc

-- as many values as there may be
all_counted : (os : List (Option TypedExpression)) (ys : List TypedExpression) → all_of os ≡ Some ys → length ys ≡ length os
all_counted [] ys e = ap length (same_list ys [] (sym e))
all_counted (None ∷ os) ys e = absurd (cc)
all_counted (Some y ∷ os) ys e = with_rest (all_of os) (λ zs. all_counted os zs) e
  where
    with_rest : (o : Option (List TypedExpression)) → ((zs : List TypedExpression) → o ≡ Some zs → length zs ≡ length os) → option_map (λ zs. y ∷ zs) o ≡ Some ys → length ys ≡ suc (length os)
    with_rest None i j = absurd (cc)
    with_rest (Some zs) i j = ap length (same_list ys (y ∷ zs) (sym j)) ∙ ap suc (i zs refl)

all_length : (names : List Meant) (es : List Expr) (xs : List TypedExpression) → all_of (map (flat_of names) es) ≡ Some xs → length xs ≡ length es
all_length names es xs h = all_counted (map (flat_of names) es) xs h ∙ counted es
  where
    counted : (fs : List Expr) → length (map (flat_of names) fs) ≡ length fs
    counted [] = refl
    counted (f ∷ fs) = ap suc (counted fs)

pub several_answer : (ts : List Target) (es : List Expr) (names : List Meant) (n : ℕ) (r : Result MadeCode FlatError) → (length ts ≡ 1 → length es ≡ 1 → ⊥)
    → IsWalked (option_and_then (λ xs. option_map (through_kept names n xs) (in_order (each_given names n ts xs))) (all_of (map (flat_of names) es))) names r → IsWalked (by_sources ts names n es) names r
several_answer ts es names n r h a = subst (λ o. IsWalked o names r) (by_values (all_of (map (flat_of names) es)) refl) a
  where
    by_values : (o : Option (List TypedExpression)) → all_of (map (flat_of names) es) ≡ o → option_and_then (λ xs. option_map (through_kept names n xs) (in_order (each_given names n ts xs))) o ≡ option_and_then (λ xs. assigned_by ts xs names n) o
    by_values None i = refl
    by_values (Some xs) i = sym (several_is ts xs names n (λ p q. h p (sym (all_length names es xs i) ∙ q)))
