-- Which terms are subterms of a term: this can be decided.
use Rattle.std.specs.Prelude.{◌≡◌, ℕ, zero, suc, ◌+◌, ◌<◌, Bool as Truth, true, false, List, [], ◌∷◌, length, get_or, nat_eq, All, Contains}
use Rattle.std.proofs.Common.{refl, sym, subst, arith, ◌⊎◌, inl, inr}
use Rattle.std.proofs.lemmas.Bool.Decides.{nat_tests}
use Rattle.std.proofs.lemmas.List.Elements.{All-head, All-tail}
use Rattle.uc_ops.specs.declared.node.Node.{Node}
use Rattle.uc_terms.specs.Tables.{WellTyped, parts_at}
use Rattle.uc_terms.specs.Subterms.{IsSubterm, itself, deeper}
use Rattle.uc_lower.proofs.Growing.{parts_before, split_subterm}

-- decided
abbrev pub Is : Type 0 → Type 0
Is P = P ⊎ (P → ⊥)

head_contains : (x : ℕ) (xs : List ℕ) → Contains (x ∷ xs) x
head_contains x xs = (0, omega arith, refl)

tail_contains : (x y : ℕ) (xs : List ℕ) → Contains xs y → Contains (x ∷ xs) y
tail_contains x y xs c = (suc c.0, omega (arith, c.1), c.2)

pub same_or_not : (j k : ℕ) → Is (j ≡ k)
same_or_not j k = by_test (nat_eq j k) refl
  where
    by_test : (b : Truth) → nat_eq j k ≡ b → Is (j ≡ k)
    by_test true e = inl (grind (arith, nat_tests, e))
    by_test false e = inr (λ is. grind (arith, nat_tests, e, is))

-- a list has an element that passes, or none of it does
abbrev Some_passes : (ℕ → Type 0) → List ℕ → Type 0
Some_passes P xs = ((x : ℕ) × Contains xs x × P x) ⊎ ((x : ℕ) → Contains xs x → P x → ⊥)

some_passes : (P : ℕ → Type 0) (xs : List ℕ) → All (λ x. Is (P x)) xs → Some_passes P xs
some_passes P [] h = inr (λ x c p. omega (arith, c.1))
some_passes P (y ∷ ys) h = elim (All-head (λ x. Is (P x)) y ys h) [
  | inl p ↦ inl (y, head_contains y ys, p)
  | inr not_first ↦ elim (some_passes P ys (All-tail (λ x. Is (P x)) y ys h)) [
    | inl r ↦ inl (r.0, tail_contains y r.0 ys r.1, r.2)
    | inr none ↦ inr (λ x c p. by_place not_first none x c.0 c.1 c.2 p)
  ]
]
  where
    by_place : (P y → ⊥) → ((x : ℕ) → Contains ys x → P x → ⊥) → (x k : ℕ) → k < length (y ∷ ys) → get_or (y ∷ ys) k x ≡ x → P x → ⊥
    by_place not_first none x zero l e p = not_first (subst P (sym e) p)
    by_place not_first none x (suc k) l e p = none x (k, omega (arith, l), e) p

sub_trans : (nodes : List Node) (t q : ℕ) → IsSubterm nodes t q → (k : ℕ) → IsSubterm nodes q k → IsSubterm nodes t k
sub_trans nodes t q s k itself = s
sub_trans nodes t q s k (deeper j p b c) = deeper j p (sub_trans nodes t q s j b) c

module _ (nodes : List Node) (w : WellTyped nodes) (k : ℕ) where
  below_within : (n t : ℕ) → t < n → t < length nodes → Is (IsSubterm nodes t k)
  below_within zero t l there = absurd (omega (arith, l))
  below_within (suc n) t l there = elim (same_or_not t k) [
    | inl e ↦ inl (subst (IsSubterm nodes t) e itself)
    | inr differs ↦ elim (some_passes (λ p. IsSubterm nodes p k) (parts_at nodes t) (λ i d h. below_within n (get_or (parts_at nodes t) i d) (omega (arith, before i d h, l)) (omega (arith, before i d h, there)))) [
      | inl r ↦ inl (sub_trans nodes t r.0 (deeper t r.0 itself r.1) k r.2)
      | inr none ↦ inr (λ s. elim (split_subterm nodes t k s) [
        | inl e ↦ differs (sym e)
        | inr b ↦ none b.part b.listed b.below
      ])
    ]
  ]
    where
      before : All (λ p. p < t) (parts_at nodes t)
      before = parts_before nodes t w there

  pub is_below : (t : ℕ) → t < length nodes → Is (IsSubterm nodes t k)
  is_below t there = below_within (t + 1) t (omega arith) there
