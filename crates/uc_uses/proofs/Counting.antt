-- Laws of counting up to a limit.
use Rattle.std.proofs.Common.{◌≡◌, ℕ, ◌+◌, ◌<◌, ◌≤◌, Bool, true, false, List, [], ◌∷◌, ◌++◌, length, take, drop, map, get_or, refl, ap, ◌∙◌, sym, subst, arith}
use Rattle.std.specs.Prelude.{nat_lt, not}
use Rattle.std.specs.List.{flat_map}
use Rattle.std.proofs.lemmas.Bool.Decides.{nat_tests}
use Rattle.std.proofs.lemmas.List.{take_all, take-append-drop}
use Rattle.uc_rules.proofs.Lists.{take_turn}
use Rattle.uc_order_rules.specs.Sizes.{total}
use Rattle.uc_uses.specs.Counting.{Counts, Reaches}

pub total_join : {X : Type 0} (f : X → ℕ) (xs ys : List X) → total (map f (xs ++ ys)) ≡ total (map f xs) + total (map f ys)
total_join f [] ys = omega arith
total_join f (x ∷ xs) ys = let e = total_join f xs ys in omega (arith, e)

pub total_flat : {X Y : Type 0} (f : Y → ℕ) (g : X → List Y) (xs : List X) → total (map f (flat_map g xs)) ≡ total (map (λ x. total (map f (g x))) xs)
total_flat f g [] = refl
total_flat f g (x ∷ xs) = total_join f (g x) (flat_map g xs) ∙ ap (λ n. total (map f (g x)) + n) (total_flat f g xs)

pub length_join : {X : Type 0} (xs ys : List X) → length (xs ++ ys) ≡ length xs + length ys
length_join [] ys = omega arith
length_join (x ∷ xs) ys = let e = length_join xs ys in omega (arith, e)

pub length_flat : {X Y : Type 0} (g : X → List Y) (xs : List X) → length (flat_map g xs) ≡ total (map (λ x. length (g x)) xs)
length_flat g [] = refl
length_flat g (x ∷ xs) = length_join (g x) (flat_map g xs) ∙ ap (λ n. length (g x) + n) (length_flat g xs)

pub counts_none : (limit old amount : ℕ) → amount ≡ 0 → Counts limit true old old amount
unfolding Counts
counts_none limit old amount none within = (omega (arith, none), within)

pub counts_same : (limit : ℕ) (b : Bool) (old new a c : ℕ) → Counts limit b old new a → c ≡ a → Counts limit b old new c
counts_same limit b old new a c h same = subst (λ x. Counts limit b old new x) (sym same) h

reaches_two : (limit : ℕ) (b : Bool) (old mid new a c whole : ℕ) → mid ≡ old + a → Reaches limit b mid new c → whole ≡ a + c → Reaches limit b old new whole
reaches_two limit true old mid new a c whole first h is = let n = h.0 in (omega (arith, first, n, is), h.1)
reaches_two limit false old mid new a c whole first h is = omega (arith, first, h, is)

pub counts_two : (limit : ℕ) (one b : Bool) (old mid new a c whole : ℕ) → one ≡ true → Counts limit one old mid a → Counts limit b mid new c → whole ≡ a + c → Counts limit b old new whole
unfolding Counts
counts_two limit one b old mid new a c whole hit first second is within =
    let x : Reaches limit true old mid a = subst (λ o. Reaches limit o old mid a) hit (first within) in reaches_two limit b old mid new a c whole x.0 (second x.1) is

pub counts_stop : (limit : ℕ) (one : Bool) (old new new' a c whole : ℕ) → one ≡ false → Counts limit one old new a → whole ≡ a + c → Counts limit false old new' whole
unfolding Counts
counts_stop limit one old new new' a c whole miss first is within = let x : Reaches limit false old new a = subst (λ o. Reaches limit o old new a) miss (first within) in omega (arith, x, is)

-- the first k parts were counted
pub record CountedUpTo {X : Type 0} (f : X → ℕ) (xs : List X) (limit old k now : ℕ) : Type 0 where
  pub is : Counts limit true old now (total (map f (take k xs)))

pub counted_begin : {X : Type 0} (f : X → ℕ) (xs : List X) (limit old : ℕ) → CountedUpTo f xs limit old 0 old
counted_begin f xs limit old = record { is = counts_none limit old (total (map f (take 0 xs))) refl }

turn : {X : Type 0} (f : X → ℕ) (xs : List X) (k : ℕ) (x d : X) → k < length xs → x ≡ get_or xs k d → total (map f (take (k + 1) xs)) ≡ total (map f (take k xs)) + f x
turn f xs k x d within at = ap (λ ys. total (map f ys)) (take_turn xs k x d within at) ∙ total_join f (take k xs) (x ∷ []) ∙ alone (total (map f (take k xs))) (f x)
  where
    alone : (m n : ℕ) → m + (n + 0) ≡ m + n
    alone m n = omega arith

pub counted_more : {X : Type 0} (f : X → ℕ) (xs : List X) (limit old now after k : ℕ) (x d : X) (b : Bool) → CountedUpTo f xs limit old k now → k < length xs → x ≡ get_or xs k d → b ≡ true →
    Counts limit b now after (f x) → CountedUpTo f xs limit old (k + 1) after
counted_more f xs limit old now after k x d b held within at hit next = record {
  is = subst (λ o. Counts limit o old after (total (map f (take (k + 1) xs)))) hit
      (counts_two limit true b old now after (total (map f (take k xs))) (f x) (total (map f (take (k + 1) xs))) refl held.is next (turn f xs k x d within at));
}

pub counted_end : {X : Type 0} (f : X → ℕ) (xs : List X) (limit old now k : ℕ) → CountedUpTo f xs limit old k now → length xs ≤ k → Counts limit true old now (total (map f xs))
counted_end f xs limit old now k held past = counts_same limit true old now (total (map f (take k xs))) (total (map f xs)) held.is (ap (λ ys. total (map f ys)) (sym (take_all k xs past)))

pub counted_stop : {X : Type 0} (f : X → ℕ) (xs : List X) (limit old now after after' k : ℕ) (x d : X) (b : Bool) → CountedUpTo f xs limit old k now → k < length xs → x ≡ get_or xs k d → b ≡ false →
    Counts limit b now after (f x) → Counts limit false old after' (total (map f xs))
counted_stop f xs limit old now after after' k x d b held within at miss next =
    counts_stop limit b old after after' (total (map f (take (k + 1) xs))) (total (map f (drop (k + 1) xs))) (total (map f xs)) miss
    (counts_two limit true b old now after (total (map f (take k xs))) (f x) (total (map f (take (k + 1) xs))) refl held.is next (turn f xs k x d within at))
    (ap (λ ys. total (map f ys)) (sym (take-append-drop (k + 1) xs)) ∙ total_join f (take (k + 1) xs) (drop (k + 1) xs))

pub one_counted : (limit old : ℕ) → old < limit → Counts limit true old (old + 1) 1
unfolding Counts
one_counted limit old below within = (refl, omega (arith, below))

pub none_counted : (limit old : ℕ) → limit ≤ old → Counts limit false old old 1
unfolding Counts
none_counted limit old over within = omega (arith, over)

-- whether the limit is passed, from 0 on
pub passed : (limit new amount : ℕ) (b : Bool) → Counts limit b 0 new amount → not b ≡ nat_lt limit amount
unfolding Counts
passed limit new amount true h = let x : Reaches limit true 0 new amount = h (omega arith) in let n = x.0 in let m = x.1 in grind (arith, nat_tests, n, m)
passed limit new amount false h = let x : limit < 0 + amount = h (omega arith) in grind (arith, nat_tests, x)
