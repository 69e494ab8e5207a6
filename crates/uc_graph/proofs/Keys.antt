-- Numbers in a set.
use Rattle.std.proofs.Common.{◌≡◌, ℕ, ◌<◌, Bool, true, false, List, [], ◌∷◌, length, Option, Some, None, refl, sym, ap, ◌∙◌, arith, ⊎_elim}
use Rattle.std.specs.Prelude.{nat_eq, ◌||◌, cond, ◌↔◌, MatchOption}
use Rattle.std.specs.declared.cmp.Ordering.{Ordering}
use Rattle.std.specs.declared.cmp.Ordering.TheVariants.{Less, Equal, Greater}
use Rattle.std.specs.Ordering.{MatchOrdering, nat_cmp, is_eq}
use Rattle.std.specs.Option.{IsSome, IfSome}
use Rattle.std.specs.List.{All, list_any}
use Rattle.std.proofs.lemmas.List.Elements.{All-head, All-tail}
use Rattle.std.proofs.lemmas.Cmp.{ranked}
use Rattle.std.proofs.lemmas.Bool.Decides.{nat_tests}
use Rattle.uc_graph.specs.Order.{has}
use Rattle.uc_graph.proofs.FirstFreeHas.{nothing, has_cons}

is_equal : (a b : ℕ) → is_eq (nat_cmp a b) ≡ nat_eq a b
is_equal a b = by_case (nat_cmp a b) (ranked a b (nat_cmp a b) refl)
  where
    by_case : (o : Ordering) → MatchOrdering o (a < b) (a ≡ b) (b < a) → is_eq o ≡ nat_eq a b
    by_case Less h = sym (grind (arith, nat_tests))
    by_case Equal h = sym (grind (arith, nat_tests))
    by_case Greater h = sym (grind (arith, nat_tests))

among : (ns : List ℕ) (n : ℕ) → list_any (λ k. is_eq (nat_cmp n k)) ns ≡ has ns n
among [] n = refl
among (x ∷ ns) n = ap (λ b. b || list_any (λ k. is_eq (nat_cmp n k)) ns) (is_equal n x) ∙ ap (λ b. nat_eq n x || b) (among ns n)

turned : (a b : ℕ) → nat_eq a b ≡ nat_eq b a
turned a b = grind (arith, nat_tests)

either : (b c : Bool) → cond b true c ≡ (b || c)
either true c = refl
either false c = refl

pub added : (old new : List ℕ) (number : ℕ) → ((q : ℕ) → list_any (λ k. is_eq (nat_cmp q k)) new ≡ cond (is_eq (nat_cmp number q)) true (list_any (λ k. is_eq (nat_cmp q k)) old)) → (n : ℕ) → has new n ≡ (nat_eq n number || has old n)
added old new number h n =
    sym (among new n) ∙ h n ∙ ap (λ b. cond b true (list_any (λ k. is_eq (nat_cmp n k)) old)) (is_equal number n ∙ turned number n)
    ∙ either (nat_eq n number) (list_any (λ k. is_eq (nat_cmp n k)) old) ∙ ap (λ b. nat_eq n number || b) (among old n)

above : (ns : List ℕ) (least : ℕ) → All (λ q. nat_cmp least q ≡ Less) ns → (n : ℕ) → has ns n ≡ true → least < n
above [] least h n k = nothing (sym k)
above (x ∷ ns) least h n k =
    ⊎_elim (λ e. below (nat_cmp least n) (ap (nat_cmp least) e ∙ All-head (λ q. nat_cmp least q ≡ Less) x ns h) (ranked least n (nat_cmp least n) refl)) (λ r. above ns least (All-tail (λ q. nat_cmp least q ≡ Less) x ns h) n r) (has_cons x ns n k)
  where
    below : (o : Ordering) → o ≡ Less → MatchOrdering o (least < n) (least ≡ n) (n < least) → least < n
    below Less e m = m
    below Equal e m = absurd (cc)
    below Greater e m = absurd (cc)

pub first_taken : (o : Option ℕ) (old new : List ℕ) → (IsSome o ↔ (0 < length old)) → IfSome o (λ k. old ≡ k ∷ new) → IfSome o (λ k. All (λ q. nat_cmp k q ≡ Less) new)
    → MatchOption o (old ≡ []) (λ least. (old ≡ least ∷ new) × ((n : ℕ) → has new n ≡ true → least < n))
first_taken None [] new v r a = refl
first_taken None (x ∷ old) new v r a = nothing (sym (v.1 (omega arith)))
first_taken (Some k) old new v r a = (r, above new k a)
