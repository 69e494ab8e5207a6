-- Numbers that are among some, and lists of one number.
use Rattle.std.proofs.Common.{◌≡◌, ◌≢◌, ℕ, zero, suc, ◌<◌, Bool, true, false, List, [], ◌∷◌, ◌++◌, length, Some, refl, ap, sym, ◌∙◌, arith, ◌⊎◌, inl, inr, ⊎_elim, append_assoc}
use Rattle.std.specs.Prelude.{nat_eq, ◌||◌, slice_get, slice_index_or, replicate}
use Rattle.std.proofs.lemmas.List.{append-nil}
use Rattle.std.proofs.lemmas.List.Folds.{list_any-append}
use Rattle.uc_graph.specs.Order.{has, needs, EachAfter}

either : (b c : Bool) → (b || c) ≡ true → (b ≡ true) ⊎ (c ≡ true)
either true c h = inl refl
either false c h = inr h

neither : (b c : Bool) → (b || c) ≡ false → (b ≡ false) × (c ≡ false)
neither true c h = absurd (no h)
  where
    no : true ≡ false → ⊥
    no h = cc
neither false c h = (refl, h)

or_left : (b c : Bool) → b ≡ true → (b || c) ≡ true
or_left true c h = refl
or_left false c h = cc

or_right : (b c : Bool) → c ≡ true → (b || c) ≡ true
or_right true c h = refl
or_right false c h = h

or_false : (b c : Bool) → b ≡ false → c ≡ false → (b || c) ≡ false
or_false true c h k = cc
or_false false c h k = k

pub nothing : {A : Type 0} → true ≡ false → A
nothing h = cc

pub either_way : (b : Bool) → (b ≡ true) ⊎ (b ≡ false)
either_way true = inl refl
either_way false = inr refl

pub has_split : (a b : List ℕ) (n : ℕ) → has (a ++ b) n ≡ true → (has a n ≡ true) ⊎ (has b n ≡ true)
has_split a b n h = either (has a n) (has b n) (sym (list_any-append (nat_eq n) a b) ∙ h)

pub has_left : (a b : List ℕ) (n : ℕ) → has a n ≡ true → has (a ++ b) n ≡ true
has_left a b n h = list_any-append (nat_eq n) a b ∙ or_left (has a n) (has b n) h

pub has_right : (a b : List ℕ) (n : ℕ) → has b n ≡ true → has (a ++ b) n ≡ true
has_right a b n h = list_any-append (nat_eq n) a b ∙ or_right (has a n) (has b n) h

pub has_not_left : (a b : List ℕ) (n : ℕ) → has (a ++ b) n ≡ false → has a n ≡ false
has_not_left a b n h = (neither (has a n) (has b n) (sym (list_any-append (nat_eq n) a b) ∙ h)).0

pub has_not : (a b : List ℕ) (n : ℕ) → has a n ≡ false → has b n ≡ false → has (a ++ b) n ≡ false
has_not a b n h k = list_any-append (nat_eq n) a b ∙ or_false (has a n) (has b n) h k

same : (n : ℕ) → nat_eq n n ≡ true
same n = grind arith

pub has_one : (n : ℕ) → has (n ∷ []) n ≡ true
has_one n = or_left (nat_eq n n) false (same n)

pub has_first : (n : ℕ) (ns : List ℕ) → has (n ∷ ns) n ≡ true
has_first n ns = or_left (nat_eq n n) (has ns n) (same n)

equal : (n m : ℕ) → nat_eq n m ≡ true → n ≡ m
equal n m h = grind (arith, h)

unequal : (n m : ℕ) → n ≢ m → nat_eq n m ≡ false
unequal n m h = grind (arith, h)

pub has_cons : (x : ℕ) (ns : List ℕ) (n : ℕ) → has (x ∷ ns) n ≡ true → (n ≡ x) ⊎ (has ns n ≡ true)
has_cons x ns n h = ⊎_elim (λ e. inl (equal n x e)) (λ e. inr e) (either (nat_eq n x) (has ns n) h)

pub has_other : (n x : ℕ) → n ≢ x → has (x ∷ []) n ≡ false
has_other n x h = or_false (nat_eq n x) false (unequal n x h) refl

pub other_pushed : (a : List ℕ) (x n : ℕ) → has (a ++ x ∷ []) n ≡ false → n ≢ x
other_pushed a x n h e = nothing (sym (has_right a (x ∷ []) n (ap (has (x ∷ [])) e ∙ has_one x)) ∙ h)

-- a number that is among some stands at a place
pub has_place : (ns : List ℕ) (n : ℕ) → has ns n ≡ true → (k : ℕ) × (k < length ns) × (slice_index_or ns k 0 ≡ n)
has_place [] n h = nothing (sym h)
has_place (x ∷ ns) n h = ⊎_elim (λ e. (0, omega arith, sym e)) (λ r. let p = has_place ns n r in (suc p.0, omega (arith, p.1), p.2)) (has_cons x ns n h)

pub place_has : (ns : List ℕ) (k n : ℕ) → slice_get ns k ≡ Some n → has ns n ≡ true
place_has [] k n h = cc
place_has (x ∷ ns) zero n h = let e : x ≡ n = cc in ap (λ m. has (m ∷ ns) n) e ∙ has_first n ns
place_has (x ∷ ns) (suc k) n h = or_right (nat_eq n x) (has ns n) (place_has ns k n h)

-- one more in an order
pub each_after_push : (graph : List (List ℕ)) (before ns all : List ℕ) (n : ℕ) → before ++ ns ≡ all → EachAfter graph before ns → has all n ≡ false →
    ((m : ℕ) → has (needs graph n) m ≡ true → has all m ≡ true) → EachAfter graph before (ns ++ n ∷ [])
unfolding EachAfter
each_after_push graph before [] all n is h new met =
    let e : before ≡ all = sym (append-nil before) ∙ is in ((ap (λ a. has a n) e ∙ new, λ m k. ap (λ a. has a m) e ∙ met m k), tt)
each_after_push graph before (x ∷ ns) all n is h new met = (h.0, each_after_push graph (before ++ x ∷ []) ns all n (append_assoc before (x ∷ []) ns ∙ is) h.1 new met)

pub in_order_none : (graph : List (List ℕ)) → EachAfter graph [] []
unfolding EachAfter
in_order_none graph = tt

pub replicate_at : {A : Type 0} (n k : ℕ) (d : A) → slice_index_or (replicate n d) k d ≡ d
replicate_at zero k d = refl
replicate_at (suc n) zero d = refl
replicate_at (suc n) (suc k) d = replicate_at n k d
