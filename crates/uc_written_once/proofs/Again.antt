-- Names that stand twice in a list, found from left to right.
use Rattle.std.proofs.Common.{◌≡◌, ℕ, ◌+◌, ◌<◌, ◌≤◌, Bool, true, false, List, [], ◌∷◌, ◌++◌, length, drop, get_or, refl, ap, ◌∙◌, sym, arith}
use Rattle.std.specs.Prelude.{nat_eq, ◌||◌, if◌then◌else◌}
use Rattle.std.specs.List.{list_any}
use Rattle.std.proofs.lemmas.List.{drop_all}
use Rattle.std.proofs.lemmas.List.Folds.{list_any-append}
use Rattle.uc_syntax.specs.declared.statement.Target.{Target}
use Rattle.uc_rules.specs.Names.{names_one_of}
use Rattle.uc_rules.proofs.Lists.{drop_turn}
use Rattle.uc_type_names.specs.NameSets.{with_name}
use Rattle.uc_order_rules.specs.Writes.{is_named_twice, target_names}
use Rattle.uc_written_once.specs.LoneFaultsWalks.{is_seen_again}

or_true : (b c : Bool) → (c ≡ true → b ≡ true) → b ≡ (b || c)
or_true true c h = refl
or_true false true h = h refl
or_true false false h = refl

only_name : (x y : ℕ) (e : List ℕ) → names_one_of e y ≡ true → names_one_of (y ∷ []) x ≡ true → names_one_of e x ≡ true
only_name x y e there h = let is : x ≡ y = grind (arith, h) in ap (names_one_of e) is ∙ there

has_with : (e : List ℕ) (y x : ℕ) (b : Bool) → names_one_of e y ≡ b → names_one_of (if b then e else e ++ y ∷ []) x ≡ (names_one_of e x || nat_eq y x)
has_with e y x true there = or_true (names_one_of e x) (nat_eq y x) (λ h. only_name x y e there (grind (arith, h)))
has_with e y x false away = list_any-append (nat_eq x) e (y ∷ []) ∙ ap (λ c. names_one_of e x || c) (grind arith)

any_or : (f g h : ℕ → Bool) (xs : List ℕ) → ((x : ℕ) → f x ≡ (g x || h x)) → list_any f xs ≡ (list_any g xs || list_any h xs)
any_or f g h [] e = refl
any_or f g h (x ∷ xs) e = ap (λ b. b || list_any f xs) (e x) ∙ ap (λ b. (g x || h x) || b) (any_or f g h xs e) ∙ regroup (g x) (h x) (list_any g xs) (list_any h xs)
  where
    regroup : (a b c d : Bool) → ((a || b) || (c || d)) ≡ ((a || c) || (b || d))
    regroup true b c d = refl
    regroup false true true d = refl
    regroup false true false d = refl
    regroup false false c d = refl

shuffle : (a b c d : Bool) → (a || ((b || c) || d)) ≡ ((a || b) || (c || d))
shuffle true b c d = refl
shuffle false true c d = refl
shuffle false false c d = refl

-- a name is seen again where one of them was seen, or one of them stands twice
seen_or_twice : (seen xs : List ℕ) → is_seen_again seen xs ≡ (list_any (names_one_of seen) xs || is_named_twice xs)
unfolding is_seen_again is_named_twice
seen_or_twice seen [] = refl
seen_or_twice seen (x ∷ xs) =
    ap (λ b. names_one_of seen x || b) (seen_or_twice (with_name seen x) xs
    ∙ ap (λ b. b || is_named_twice xs) (any_or (names_one_of (with_name seen x)) (names_one_of seen) (nat_eq x) xs (λ y. has_with seen x y (names_one_of seen x) refl)))
    ∙ shuffle (names_one_of seen x) (list_any (names_one_of seen) xs) (list_any (nat_eq x) xs) (is_named_twice xs)

none_seen : (xs : List ℕ) → list_any (names_one_of []) xs ≡ false
none_seen [] = refl
none_seen (x ∷ xs) = none_seen xs

-- Before turn k, the rest is still to be looked at.
pub record AgainFrom (ts : List Target) (k : ℕ) (seen : List ℕ) : Type 0 where
  pub rest : is_seen_again seen (target_names (drop k ts)) ≡ is_named_twice (target_names ts)

pub again_begin : (ts : List Target) → AgainFrom ts 0 []
again_begin ts = record { rest = seen_or_twice [] (target_names ts) ∙ ap (λ b. b || is_named_twice (target_names ts)) (none_seen (target_names ts)) }

turn : (seen : List ℕ) (x : ℕ) (xs : List ℕ) → is_seen_again seen (x ∷ xs) ≡ (names_one_of seen x || is_seen_again (with_name seen x) xs)
unfolding is_seen_again
turn seen x xs = refl

taken : (ts : List Target) (k : ℕ) (seen : List ℕ) (t d : Target) → AgainFrom ts k seen → k < length ts → t ≡ get_or ts k d →
    is_named_twice (target_names ts) ≡ (names_one_of seen t.name || is_seen_again (with_name seen t.name) (target_names (drop (k + 1) ts)))
taken ts k seen t d held within at =
    sym held.rest ∙ ap (λ xs. is_seen_again seen (target_names xs)) (drop_turn ts k t d within at) ∙ turn seen t.name (target_names (drop (k + 1) ts))

pub again_more : (ts : List Target) (k : ℕ) (seen seen' : List ℕ) (t d : Target) → AgainFrom ts k seen → k < length ts → t ≡ get_or ts k d →
    names_one_of seen t.name ≡ false → seen' ≡ with_name seen t.name → AgainFrom ts (k + 1) seen'
again_more ts k seen seen' t d held within at away is = record {
  rest = ap (λ s. is_seen_again s (target_names (drop (k + 1) ts))) is
      ∙ sym (ap (λ b. b || is_seen_again (with_name seen t.name) (target_names (drop (k + 1) ts))) away)
      ∙ sym (taken ts k seen t d held within at);
}

pub again_found : (ts : List Target) (k : ℕ) (seen : List ℕ) (t d : Target) → AgainFrom ts k seen → k < length ts → t ≡ get_or ts k d →
    names_one_of seen t.name ≡ true → true ≡ is_named_twice (target_names ts)
again_found ts k seen t d held within at there =
    sym (taken ts k seen t d held within at ∙ ap (λ b. b || is_seen_again (with_name seen t.name) (target_names (drop (k + 1) ts))) there)

pub again_end : (ts : List Target) (k : ℕ) (seen : List ℕ) → AgainFrom ts k seen → length ts ≤ k → false ≡ is_named_twice (target_names ts)
unfolding is_seen_again
again_end ts k seen held past = sym (ap (λ xs. is_seen_again seen (target_names xs)) (drop_all k ts past)) ∙ held.rest
