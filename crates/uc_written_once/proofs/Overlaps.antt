-- A part overlaps one of some parts where a front of it is one, or where it is the front of one.
use Rattle.std.proofs.Common.{◌≡◌, ℕ, zero, suc, ◌<◌, ◌≤◌, Bool, true, false, List, [], ◌∷◌, length, take, refl, ap, ◌∙◌, sym, subst, arith}
use Rattle.std.specs.Prelude.{◌||◌, ◌&&◌, nat_eq}
use Rattle.std.specs.List.{list_any}
use Rattle.uc_meaning.specs.Steps.{is_prefix}
use Rattle.uc_order_rules.specs.Writes.{overlap}
use Rattle.uc_written_once.specs.declared.places.PathPlaces.{PathPlaces}
use Rattle.uc_written_once.specs.Places.{Known, any_front, is_known}
use Rattle.uc_written_once.proofs.KnownPlaces.{known_decides, same}

any_or : {A : Type 0} (f g : A → Bool) (xs : List A) → list_any (λ x. f x || g x) xs ≡ (list_any f xs || list_any g xs)
any_or f g [] = refl
any_or f g (x ∷ xs) = ap (λ b. (f x || g x) || b) (any_or f g xs) ∙ swap (f x) (g x) (list_any f xs) (list_any g xs)
  where
    swap : (a b c d : Bool) → ((a || b) || (c || d)) ≡ ((a || c) || (b || d))
    swap true b c d = refl
    swap false true true d = refl
    swap false true false d = refl
    swap false false c d = refl

any_as : {A : Type 0} (f g : A → Bool) (xs : List A) → ((x : A) → f x ≡ g x) → list_any f xs ≡ list_any g xs
any_as f g [] h = refl
any_as f g (x ∷ xs) h = (λ k. h x k || any_as f g xs h k)

any_false : {A : Type 0} (xs : List A) → list_any (λ x. false) xs ≡ false
any_false [] = refl
any_false (x ∷ xs) = any_false xs

front_as : (f g : List ℕ → Bool) (path : List ℕ) → ((q : List ℕ) → f q ≡ g q) → any_front f path ≡ any_front g path
unfolding any_front
front_as f g [] h = h []
front_as f g (x ∷ path) h = (λ k. h [] k || front_as (λ q. f (x ∷ q)) (λ q. g (x ∷ q)) path (λ q. h (x ∷ q)) k)

-- a list is a front of a path where it is the same as one
front_is : (u path : List ℕ) → is_prefix u path ≡ any_front (λ q. same q u) path
unfolding any_front is_prefix
front_is [] [] = refl
front_is [] (x ∷ path) = refl
front_is (y ∷ u) [] = refl
front_is (y ∷ u) (x ∷ path) = and_any (nat_eq y x) (nat_eq x y) (turned y x) (front_is u path)
  where
    turned : (a b : ℕ) → nat_eq a b ≡ nat_eq b a
    turned a b = grind arith

    none : (path : List ℕ) → false ≡ any_front (λ q. false) path
    none [] = refl
    none (x ∷ path) = none path

    and_any : (a b : Bool) → a ≡ b → is_prefix u path ≡ any_front (λ q. same q u) path → (a && is_prefix u path) ≡ any_front (λ q. b && same q u) path
    and_any a true e rest = ap (λ c. c && is_prefix u path) e ∙ rest
    and_any a false e rest = ap (λ c. c && is_prefix u path) e ∙ none path

-- some part is a front of a path where some front of it is a part
fronts_any : (ps : List (List ℕ)) (path : List ℕ) → list_any (λ u. any_front (λ q. same q u) path) ps ≡ any_front (λ q. list_any (same q) ps) path
unfolding any_front
fronts_any ps path = by path (λ q u. same q u)
  where
    by : (path : List ℕ) (f : List ℕ → List ℕ → Bool) → list_any (λ u. any_front (λ q. f q u) path) ps ≡ any_front (λ q. list_any (f q) ps) path
    by [] f = refl
    by (x ∷ path) f = any_or (f []) (λ u. any_front (λ q. f (x ∷ q) u) path) ps ∙ ap (λ b. list_any (f []) ps || b) (by path (λ q. f (x ∷ q)))

pub overlaps_is : (wholes fronts : PathPlaces) (ps : List (List ℕ)) (path : List ℕ) → Known same wholes ps → Known is_prefix fronts ps →
    list_any (λ u. overlap u path) ps ≡ (is_known is_prefix fronts ps path || any_front (is_known same wholes ps) path)
overlaps_is wholes fronts ps path whole front =
    any_or (λ u. is_prefix u path) (λ u. is_prefix path u) ps
    ∙ (λ k. (any_as (λ u. is_prefix u path) (λ u. any_front (λ q. same q u) path) ps (λ u. front_is u path) ∙ fronts_any ps path
    ∙ front_as (λ q. list_any (same q) ps) (is_known same wholes ps) path (λ q. sym (known_decides same wholes ps q whole))) k
    || sym (known_decides is_prefix fronts ps path front) k)
    ∙ swap (any_front (is_known same wholes ps) path) (is_known is_prefix fronts ps path)
  where
    swap : (a b : Bool) → (a || b) ≡ (b || a)
    swap true true = refl
    swap true false = refl
    swap false true = refl
    swap false false = refl

-- Loops over the fronts of a path.

-- no shorter front passes
abbrev pub NoneBefore : (List ℕ → Bool) → List ℕ → ℕ → Type 0
NoneBefore f path n = (k : ℕ) → k < n → f (take k path) ≡ false

take_none : (k : ℕ) → take {A = ℕ} k [] ≡ []
take_none zero = refl
take_none (suc k) = refl

pub front_found : (f : List ℕ → Bool) (path : List ℕ) (k : ℕ) → k ≤ length path → f (take k path) ≡ true → true ≡ any_front f path
unfolding any_front
front_found f [] k within h = let e : take k [] ≡ [] = take_none k in sym (sym (ap f e) ∙ h)
front_found f (x ∷ path) zero within h = sym (ap (λ b. b || any_front (λ q. f (x ∷ q)) path) h)
front_found f (x ∷ path) (suc k) within h = sym (ap (λ b. f [] || b) (sym (front_found (λ q. f (x ∷ q)) path k (omega (arith, within)) h)) ∙ or_true (f []))
  where
    or_true : (b : Bool) → (b || true) ≡ true
    or_true true = refl
    or_true false = refl

pub front_last : (f : List ℕ → Bool) (path : List ℕ) → NoneBefore f path (length path) → f path ≡ any_front f path
unfolding any_front
front_last f [] none = refl
front_last f (x ∷ path) none =
    front_last (λ q. f (x ∷ q)) path (λ k less. none (suc k) (omega (arith, less)))
    ∙ sym (ap (λ b. b || any_front (λ q. f (x ∷ q)) path) (none 0 (omega arith)))

-- every front of a path is the same as one of some length
pub fronts_all : (P : List ℕ → Type 0) (path : List ℕ) → ((k : ℕ) → k < length path → P (take k path)) → P path → (q : List ℕ) → is_prefix q path ≡ true → P q
unfolding is_prefix
fronts_all P [] all last [] h = last
fronts_all P [] all last (y ∷ q) h = absurd cc
fronts_all P (x ∷ path) all last [] h = all 0 (omega arith)
fronts_all P (x ∷ path) all last (y ∷ q) h =
    let e : y ≡ x = grind (arith, both_left (nat_eq y x) (is_prefix q path) h) in
    subst (λ z. P (z ∷ q)) (sym e) (fronts_all (λ r. P (x ∷ r)) path (λ k less. all (suc k) (omega (arith, less))) last q (both_right (nat_eq y x) (is_prefix q path) h))
  where
    both_left : (b c : Bool) → (b && c) ≡ true → b ≡ true
    both_left true c h = refl
    both_left false c h = absurd cc

    both_right : (b c : Bool) → (b && c) ≡ true → c ≡ true
    both_right true c h = h
    both_right false c h = absurd cc

pub front_self : (p : List ℕ) → is_prefix p p ≡ true
unfolding is_prefix
front_self [] = refl
front_self (x ∷ p) = let one : nat_eq x x ≡ true = grind arith in (λ k. one k && front_self p k)

pub front_taken : (n : ℕ) (p : List ℕ) → is_prefix (take n p) p ≡ true
unfolding is_prefix
front_taken zero [] = refl
front_taken zero (x ∷ p) = refl
front_taken (suc n) [] = refl
front_taken (suc n) (x ∷ p) = let one : nat_eq x x ≡ true = grind arith in (λ k. one k && front_taken n p k)

pub front_long : (p path : List ℕ) → length path < length p → false ≡ is_prefix p path
unfolding is_prefix
front_long [] path h = absurd (omega (arith, h))
front_long (x ∷ p) [] h = refl
front_long (x ∷ p) (y ∷ path) h = sym (ap (λ b. nat_eq x y && b) (sym (front_long p path (omega (arith, h)))) ∙ and_false (nat_eq x y))
  where
    and_false : (b : Bool) → (b && false) ≡ false
    and_false true = refl
    and_false false = refl

pub front_same : (p path cut : List ℕ) → length p ≤ length path → cut ≡ take (length p) path → same p cut ≡ is_prefix p path
unfolding is_prefix
front_same p path cut h is = ap (same p) is ∙ by p path h
  where
    by : (p path : List ℕ) → length p ≤ length path → same p (take (length p) path) ≡ is_prefix p path
    by [] path h = nothing path
      where
        nothing : (path : List ℕ) → same [] (take 0 path) ≡ is_prefix [] path
        nothing [] = refl
        nothing (x ∷ path) = refl
    by (x ∷ p) [] h = absurd (omega (arith, h))
    by (x ∷ p) (y ∷ path) h = ap (λ b. nat_eq x y && b) (by p path (omega (arith, h)))

module _ (wholes fronts : PathPlaces) (ps now : List (List ℕ)) (path : List ℕ) (whole : Known same wholes ps) (front : Known is_prefix fronts ps) (view : ps ≡ now) where
  in_view : list_any (λ u. overlap u path) now ≡ (is_known is_prefix fronts ps path || any_front (is_known same wholes ps) path)
  in_view = ap (list_any (λ u. overlap u path)) (sym view) ∙ overlaps_is wholes fronts ps path whole front

  pub overlaps_found : (b : Bool) → b ≡ is_known is_prefix fronts ps path → b ≡ true → true ≡ list_any (λ u. overlap u path) now
  overlaps_found b is there = sym (in_view ∙ ap (λ c. c || any_front (is_known same wholes ps) path) (sym is ∙ there))

  pub overlaps_last : (b c : Bool) → b ≡ is_known is_prefix fronts ps path → b ≡ false → c ≡ any_front (is_known same wholes ps) path → c ≡ list_any (λ u. overlap u path) now
  overlaps_last b c is away last = last ∙ sym (in_view ∙ ap (λ d. d || any_front (is_known same wholes ps) path) (sym is ∙ away))

pub none_to : (f : List ℕ → Bool) (path : List ℕ) (n : ℕ) → NoneBefore f path n → length path ≤ n → NoneBefore f path (length path)
none_to f path n none past k less = none k (omega (arith, past, less))
