-- Things that stand in lists, and those of them that pass a test.
use Rattle.std.proofs.Common.{◌≡◌, Bool, true, false, cond, List, [], ◌∷◌, ◌++◌, refl, ap, ◌∙◌, sym}
use Rattle.std.specs.Prelude.{◌||◌, filter}
use Rattle.std.specs.List.{list_any}
use Rattle.std.proofs.lemmas.List.Folds.{list_any-append}
use Rattle.uc_order_rules.specs.Pairs.{Meeting, Only, SameThings, any_met, any_pair, cross}
use Rattle.uc_order_rules.proofs.Paired.{any_cross}

or_false : (b : Bool) → (b || false) ≡ b
or_false true = refl
or_false false = refl

or_true : (b : Bool) → (b || true) ≡ true
or_true true = refl
or_true false = refl

any_as : {A : Type 0} (f g : A → Bool) (xs : List A) → ((x : A) → f x ≡ g x) → list_any f xs ≡ list_any g xs
any_as f g [] h = refl
any_as f g (x ∷ xs) h = (λ k. h x k || any_as f g xs h k)

-- a thing that is there already
pub any_there : {A : Type 0} (eq : A → A → Bool) → ((a b : A) → eq a b ≡ true → a ≡ b) → (x : A) (xs : List A) (test : A → Bool) → list_any (eq x) xs ≡ true → (list_any test xs || test x) ≡ list_any test xs
any_there eq sound x [] test h = absurd cc
any_there eq sound x (y ∷ xs) test h = by (eq x y) refl h (any_there eq sound x xs test)
  where
    twice : (b c : Bool) → ((b || c) || b) ≡ (b || c)
    twice true c = refl
    twice false true = refl
    twice false false = refl

    assoc : (a b c : Bool) → ((a || b) || c) ≡ (a || (b || c))
    assoc true b c = refl
    assoc false b c = refl

    by : (b : Bool) → eq x y ≡ b → (b || list_any (eq x) xs) ≡ true → (list_any (eq x) xs ≡ true → (list_any test xs || test x) ≡ list_any test xs) → ((test y || list_any test xs) || test x) ≡ (test y || list_any test xs)
    by true e i rest = ap (λ z. (test y || list_any test xs) || test z) (sound x y e) ∙ twice (test y) (list_any test xs)
    by false e i rest = assoc (test y) (list_any test xs) (test x) ∙ ap (λ c. test y || c) (rest i)

-- a thing that was added, unless it was there
pub added_once : {A : Type 0} (eq : A → A → Bool) → ((a b : A) → eq a b ≡ true → a ≡ b) → (x : A) (xs now : List A) → now ≡ cond (list_any (eq x) xs) xs (xs ++ x ∷ []) → SameThings now (xs ++ x ∷ [])
added_once eq sound x xs now is test = ap (list_any test) is ∙ by (list_any (eq x) xs) refl
  where
    by : (b : Bool) → list_any (eq x) xs ≡ b → list_any test (cond b xs (xs ++ x ∷ [])) ≡ list_any test (xs ++ x ∷ [])
    by true e = sym (list_any-append test xs (x ∷ []) ∙ ap (λ c. list_any test xs || c) (or_false (test x)) ∙ any_there eq sound x xs test e)
    by false e = refl

module _ {A : Type 0} (keep : A → Bool) where
  -- a test that only kept things pass
  pub any_kept : (test : A → Bool) (xs : List A) → ((x : A) → test x ≡ true → keep x ≡ true) → list_any test (filter keep xs) ≡ list_any test xs
  any_kept test [] within = refl
  any_kept test (x ∷ xs) within = by (keep x) refl (test x) refl (any_kept test xs within)
    where
      by : (b : Bool) → keep x ≡ b → (c : Bool) → test x ≡ c → list_any test (filter keep xs) ≡ list_any test xs → list_any test (cond b (x ∷ filter keep xs) (filter keep xs)) ≡ (test x || list_any test xs)
      by true e c i rest = ap (λ d. test x || d) rest
      by false e true i rest = let bad : false ≡ true = sym e ∙ within x i in absurd cc
      by false e false i rest = rest ∙ sym (ap (λ d. d || list_any test xs) i)

  some_kept : (meets : Meeting A) → Only keep meets → (x : A) (before : List A) → list_any (λ q. meets q x) before ≡ true → keep x ≡ true
  some_kept meets only x [] h = absurd cc
  some_kept meets only x (q ∷ before) h = by (meets q x) refl h (some_kept meets only x before)
    where
      by : (b : Bool) → meets q x ≡ b → (b || list_any (λ r. meets r x) before) ≡ true → (list_any (λ r. meets r x) before ≡ true → keep x ≡ true) → keep x ≡ true
      by true e i rest = (only q x e).1
      by false e i rest = rest i

  -- what meets is kept
  pub kept_met : (meets : Meeting A) → Only keep meets → (a b k l : List A) → SameThings k (filter keep a) → SameThings l (filter keep b) → any_met meets k l ≡ any_met meets a b
  kept_met meets only a b k l same-a same-b =
      any_as (λ x. list_any (λ q. meets q x) k) (λ x. list_any (λ q. meets q x) a) l (λ x. same-a (λ q. meets q x) ∙ any_kept (λ q. meets q x) a (λ q h. (only q x h).0))
      ∙ same-b (λ x. list_any (λ q. meets q x) a)
      ∙ any_kept (λ x. list_any (λ q. meets q x) a) b (λ x h. some_kept meets only x a h)

  pub kept_pairs : (meets : Meeting A) → Only keep meets → (a b k l : List A) → SameThings k (filter keep a) → SameThings l (filter keep b) → any_pair meets (cross k l) ≡ any_pair meets (cross a b)
  kept_pairs meets only a b k l same-a same-b = any_cross meets k l ∙ kept_met meets only a b k l same-a same-b ∙ sym (any_cross meets a b)

-- Lists that grow.

pub same_both : {A : Type 0} (a b c d : List A) → SameThings a c → SameThings b d → SameThings (a ++ b) (c ++ d)
same_both a b c d h i test = list_any-append test a b ∙ (λ k. h test k || i test k) ∙ sym (list_any-append test c d)

pub filter_both : {A : Type 0} (keep : A → Bool) (a b : List A) → filter keep (a ++ b) ≡ filter keep a ++ filter keep b
filter_both keep [] b = refl
filter_both keep (x ∷ a) b = by (keep x) (filter_both keep a b)
  where
    by : (c : Bool) → filter keep (a ++ b) ≡ filter keep a ++ filter keep b → cond c (x ∷ filter keep (a ++ b)) (filter keep (a ++ b)) ≡ cond c (x ∷ filter keep a) (filter keep a) ++ filter keep b
    by true e = ap (λ ys. x ∷ ys) e
    by false e = e

pub same_filter : {A : Type 0} (keep : A → Bool) (a b : List A) → SameThings a b → SameThings (filter keep a) (filter keep b)
same_filter {A = A} keep a b same test = chosen a ∙ same (λ x. cond (keep x) (test x) false) ∙ sym (chosen b)
  where
    chosen : (xs : List A) → list_any test (filter keep xs) ≡ list_any (λ x. cond (keep x) (test x) false) xs
    chosen [] = refl
    chosen (x ∷ xs) = by (keep x) (chosen xs)
      where
        by : (c : Bool) → list_any test (filter keep xs) ≡ list_any (λ y. cond (keep y) (test y) false) xs → list_any test (cond c (x ∷ filter keep xs) (filter keep xs)) ≡ (cond c (test x) false || list_any (λ y. cond (keep y) (test y) false) xs)
        by true e = ap (λ d. test x || d) e
        by false e = e

-- what was kept of two lists is what is kept of both
pub kept_both : {A : Type 0} (keep : A → Bool) (a b k l c m : List A) → SameThings k (filter keep a) → SameThings l (filter keep b) → SameThings c (a ++ b) → SameThings m (k ++ l) → SameThings m (filter keep c)
kept_both keep a b k l c m same-a same-b same-c same-m test =
    same-m test ∙ same_both k l (filter keep a) (filter keep b) same-a same-b test ∙ sym (ap (list_any test) (filter_both keep a b)) ∙ sym (same_filter keep c (a ++ b) same-c test)
