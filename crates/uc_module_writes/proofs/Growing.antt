-- Sets that grow.
use Rattle.std.proofs.Common.{◌≡◌, ℕ, ◌+◌, ◌<◌, ◌≤◌, Bool, true, false, cond, List, [], ◌∷◌, ◌++◌, length, take, get_or, map, refl, ap, ◌∙◌, sym, append_assoc}
use Rattle.std.specs.Prelude.{◌&&◌, nat_eq}
use Rattle.std.specs.List.{flat_map, list_any}
use Rattle.std.specs.Cmp.Lexicographic.{pointwise}
use Rattle.std.proofs.lemmas.List.{take_all}
use Rattle.std.proofs.lemmas.Grind.{flat_map-append}
use Rattle.uc_syntax.proofs.Added.{append_nil}
use Rattle.uc_rules.proofs.Lists.{take_turn}
use Rattle.uc_order_rules.specs.Writes.{Part}
use Rattle.uc_written_once.proofs.KnownPlaces.{same_is}
use Rattle.uc_order_rules.specs.Pairs.{SameThings}
use Rattle.uc_order_rules.proofs.Chosen.{added_once, same_both}

abbrev same_part : Part → Part → Bool
same_part = pointwise nat_eq

abbrev same_pair : Part × Part → Part × Part → Bool
same_pair p q = same_part p.0 q.0 && same_part p.1 q.1

both_left : (b c : Bool) → (b && c) ≡ true → b ≡ true
both_left true c h = refl
both_left false c h = absurd cc

both_right : (b c : Bool) → (b && c) ≡ true → c ≡ true
both_right true c h = h
both_right false c h = absurd cc

pair_is : (p q : Part × Part) → same_pair p q ≡ true → p ≡ q
pair_is p q h = λ k. (same_is p.0 q.0 (both_left (same_part p.0 q.0) (same_part p.1 q.1) h) k, same_is p.1 q.1 (both_right (same_part p.0 q.0) (same_part p.1 q.1) h) k)

pub part_added : (p : Part) (ps now : List Part) → now ≡ cond (list_any (same_part p) ps) ps (ps ++ p ∷ []) → SameThings now (ps ++ p ∷ [])
part_added = added_once same_part same_is

pub pair_added : (p : Part × Part) (ps now : List (Part × Part)) → now ≡ cond (list_any (same_pair p) ps) ps (ps ++ p ∷ []) → SameThings now (ps ++ p ∷ [])
pair_added = added_once same_pair pair_is

-- The things that a list gives up to place k are added.
pub record Grown {X A : Type 0} (f : X → List A) (xs : List X) (before : List A) (k : ℕ) (now : List A) : Type 0 where
  pub is : SameThings now (before ++ flat_map f (take k xs))

pub grown_begin : {X A : Type 0} (f : X → List A) (xs : List X) (before : List A) → Grown f xs before 0 before
grown_begin f xs before = record { is = λ test. sym (ap (list_any test) (append_nil before)) }

pub grown_more : {X A : Type 0} (f : X → List A) (xs : List X) (before now after : List A) (k : ℕ) (x d : X) → Grown f xs before k now → k < length xs → x ≡ get_or xs k d → SameThings after (now ++ f x) → Grown f xs before (k + 1) after
grown_more f xs before now after k x d held within at grows = record {
  is = λ test.
      grows test ∙ same_both now (f x) (before ++ flat_map f (take k xs)) (f x) held.is (λ t. refl) test
      ∙ ap (list_any test) (append_assoc before (flat_map f (take k xs)) (f x)
      ∙ ap (λ ys. before ++ (flat_map f (take k xs) ++ ys)) (sym (append_nil (f x)))
      ∙ ap (λ ys. before ++ ys) (sym (flat_map-append f (take k xs) (x ∷ [])))
      ∙ ap (λ ys. before ++ flat_map f ys) (sym (take_turn xs k x d within at)));
}

pub grown_end : {X A : Type 0} (f : X → List A) (xs : List X) (before now : List A) (k : ℕ) → Grown f xs before k now → length xs ≤ k → SameThings now (before ++ flat_map f xs)
grown_end f xs before now k held past test = held.is test ∙ ap (λ ys. list_any test (before ++ flat_map f ys)) (take_all k xs past)

flat_one : {X A : Type 0} (f : X → A) (xs : List X) → flat_map (λ x. f x ∷ []) xs ≡ map f xs
flat_one f [] = refl
flat_one f (x ∷ xs) = ap (λ ys. f x ∷ ys) (flat_one f xs)

mapped_self : {A : Type 0} (xs : List A) → map (λ x. x) xs ≡ xs
mapped_self [] = refl
mapped_self (x ∷ xs) = ap (λ ys. x ∷ ys) (mapped_self xs)

-- the same where each thing gives one
pub grown_ones : {X A : Type 0} (f : X → A) (xs : List X) (before now : List A) (k : ℕ) → Grown (λ x. f x ∷ []) xs before k now → length xs ≤ k → SameThings now (before ++ map f xs)
grown_ones f xs before now k held past test = grown_end (λ x. f x ∷ []) xs before now k held past test ∙ ap (λ ys. list_any test (before ++ ys)) (flat_one f xs)

pub grown_all : {A : Type 0} (xs before now : List A) (k : ℕ) → Grown (λ x. x ∷ []) xs before k now → length xs ≤ k → SameThings now (before ++ xs)
grown_all xs before now k held past test = grown_ones (λ x. x) xs before now k held past test ∙ ap (λ ys. list_any test (before ++ ys)) (mapped_self xs)

pub same_as : {A : Type 0} (a b c d : List A) → SameThings a (b ++ c) → c ≡ d → SameThings a (b ++ d)
same_as a b c d h e test = h test ∙ ap (λ x. list_any test (b ++ x)) e
