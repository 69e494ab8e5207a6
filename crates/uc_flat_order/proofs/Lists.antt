-- Tests over lists whose elements are taken by what is wanted.
use Rattle.std.proofs.Common.{◌≡◌, ℕ, List, [], ◌∷◌, map, refl, sym, ap, ◌∙◌, true, false, Bool, Option, Some, None}
use Rattle.std.specs.Prelude.{cond, not, ◌&&◌, ◌||◌, nat_eq}
use Rattle.std.specs.List.{flat_map, filter, list_any, list_all}
use Rattle.std.proofs.lemmas.List.Folds.{list_any-append}
use Rattle.uc_flat_order.specs.declared.wanted.Wanted.{Wanted}
use Rattle.uc_flat_order.specs.declared.wanted.Wanted.TheVariants.{Only, NoneOf}
use Rattle.uc_flat_order.specs.Slices.{has, wants, each_wanted}

or_true : (b : Bool) → (b || true) ≡ true
or_true true = refl
or_true false = refl

or_assoc : (a b c : Bool) → ((a || b) || c) ≡ (a || (b || c))
or_assoc true b c = refl
or_assoc false b c = refl

pub any_flat : {A B : Type 0} (p : B → Bool) (f : A → List B) (xs : List A) → list_any p (flat_map f xs) ≡ list_any (λ x. list_any p (f x)) xs
any_flat p f [] = refl
any_flat p f (x ∷ xs) = list_any-append p (f x) (flat_map f xs) ∙ ap (λ b. list_any p (f x) || b) (any_flat p f xs)

any_filter : {A : Type 0} (p q : A → Bool) (xs : List A) → list_any p (filter q xs) ≡ list_any (λ x. q x && p x) xs
any_filter p q [] = refl
any_filter p q (x ∷ xs) = by_test (q x) (any_filter p q xs)
  where
    by_test : (b : Bool) → list_any p (filter q xs) ≡ list_any (λ y. q y && p y) xs → list_any p (cond b (x ∷ filter q xs) (filter q xs)) ≡ ((b && p x) || list_any (λ y. q y && p y) xs)
    by_test true h = ap (λ c. p x || c) h
    by_test false h = h

any_alike : {A : Type 0} (p q : A → Bool) (xs : List A) → ((x : A) → p x ≡ q x) → list_any p xs ≡ list_any q xs
any_alike p q [] h = refl
any_alike p q (x ∷ xs) h = ap (λ b. b || list_any p xs) (h x) ∙ ap (λ b. q x || b) (any_alike p q xs h)

none_any : {A : Type 0} (xs : List A) → list_any (λ x. false) xs ≡ false
none_any [] = refl
none_any (x ∷ xs) = none_any xs

any_or : {A : Type 0} (p q : A → Bool) (xs : List A) → list_any (λ x. p x || q x) xs ≡ (list_any p xs || list_any q xs)
any_or p q [] = refl
any_or p q (x ∷ xs) = ap (λ b. (p x || q x) || b) (any_or p q xs) ∙ turned (p x) (q x) (list_any p xs) (list_any q xs)
  where
    turned : (a b c d : Bool) → ((a || b) || (c || d)) ≡ ((a || c) || (b || d))
    turned true b c d = refl
    turned false true true d = refl
    turned false true false d = refl
    turned false false c d = refl

any_and : {A : Type 0} (p : A → Bool) (c : Bool) (xs : List A) → list_any (λ x. p x && c) xs ≡ (list_any p xs && c)
any_and p c [] = refl
any_and p c (x ∷ xs) = ap (λ b. (p x && c) || b) (any_and p c xs) ∙ turned (p x) (list_any p xs) c
  where
    turned : (a b d : Bool) → ((a && d) || (b && d)) ≡ ((a || b) && d)
    turned true true true = refl
    turned true true false = refl
    turned true false true = refl
    turned true false false = refl
    turned false b d = refl

pub all_not : {A : Type 0} (p : A → Bool) (xs : List A) → list_all p xs ≡ not (list_any (λ x. not (p x)) xs)
all_not p [] = refl
all_not p (x ∷ xs) = ap (λ b. p x && b) (all_not p xs) ∙ turned (p x) (list_any (λ y. not (p y)) xs)
  where
    turned : (a b : Bool) → (a && not b) ≡ not (not a || b)
    turned true b = refl
    turned false b = refl

-- each name is wanted by one of these
covered : (names : List ℕ) (k : Option ℕ) → list_any (λ w. wants w k) (each_wanted names) ≡ true
covered names None = list_any-append (λ w. wants w None) (map Only names) (NoneOf names ∷ []) ∙ or_true (list_any (λ w. wants w None) (map Only names))
covered names (Some y) = list_any-append (λ w. wants w (Some y)) (map Only names) (NoneOf names ∷ []) ∙ ap (λ b. b || (not (has names y) || false)) (named names) ∙ either (has names y)
  where
    named : (xs : List ℕ) → list_any (λ w. wants w (Some y)) (map Only xs) ≡ has xs y
    named [] = refl
    named (x ∷ xs) = ap (λ b. nat_eq y x || b) (named xs)

    either : (b : Bool) → (b || (not b || false)) ≡ true
    either true = refl
    either false = refl

module _ {A : Type 0} (key : A → Option ℕ) where
  abbrev pub wanted : Wanted → A → Bool
  wanted w x = wants w (key x)

  -- what each of these wants, together
  abbrev pub taken_by : List ℕ → List A → List A
  taken_by names xs = flat_map (λ w. filter (wanted w) xs) (each_wanted names)

  each_counts : (p : A → Bool) (ws : List Wanted) (xs : List A) → list_any (λ w. list_any (λ x. wanted w x && p x) xs) ws ≡ list_any (λ x. list_any (λ w. wanted w x) ws && p x) xs
  each_counts p ws [] = none_any ws
  each_counts p ws (x ∷ xs) =
      any_or (λ w. wanted w x && p x) (λ w. list_any (λ y. wanted w y && p y) xs) ws
      ∙ ap (λ b. b || list_any (λ w. list_any (λ y. wanted w y && p y) xs) ws) (any_and (λ w. wanted w x) (p x) ws)
      ∙ ap (λ b. (list_any (λ w. wanted w x) ws && p x) || b) (each_counts p ws xs)

  pub any_taken : (p : A → Bool) (names : List ℕ) (xs : List A) → list_any p (taken_by names xs) ≡ list_any p xs
  any_taken p names xs =
      any_flat p (λ w. filter (wanted w) xs) (each_wanted names)
      ∙ any_alike (λ w. list_any p (filter (wanted w) xs)) (λ w. list_any (λ x. wanted w x && p x) xs) (each_wanted names) (λ w. any_filter p (wanted w) xs)
      ∙ each_counts p (each_wanted names) xs
      ∙ any_alike (λ x. list_any (λ w. wanted w x) (each_wanted names) && p x) p xs (λ x. ap (λ b. b && p x) (covered names (key x)))

  pub all_taken : (p : A → Bool) (names : List ℕ) (xs : List A) → list_all p (taken_by names xs) ≡ list_all p xs
  all_taken p names xs = all_not p (taken_by names xs) ∙ ap not (any_taken (λ x. not (p x)) names xs) ∙ sym (all_not p xs)
