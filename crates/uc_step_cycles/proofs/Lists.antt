-- What lists have at their places, and what their elements give.
use Rattle.std.proofs.Common.{◌≡◌, ℕ, zero, suc, ◌+◌, ◌<◌, true, List, [], ◌∷◌, length, Option, Some, None, refl, ap, sym, subst, ⊎_elim, inl, inr, arith}
use Rattle.std.specs.Prelude.{nat_eq, slice_get, slice_index_or}
use Rattle.uc_declared_types.specs.AliasLaw.{IsAmong}
use Rattle.uc_declared_types.proofs.Along.{any_by, any_there}
use Rattle.uc_declared_types.proofs.Among.{among_left, among_right, among_split}
use Rattle.uc_meaning.specs.Cells.{as_list}
use Rattle.uc_graph.specs.Order.{has}
use Rattle.uc_step_cycles.specs.Edges.{each_at}

pub none_some : {A B : Type 0} (x : B) → None ≡ Some x → A
none_some x h = cc

pub some_same : {A : Type 0} (x y : A) → Some x ≡ Some y → x ≡ y
some_same x y h = cc

equal : (n m : ℕ) → nat_eq n m ≡ true → n ≡ m
equal n m h = grind (arith, h)

same : (n : ℕ) → nat_eq n n ≡ true
same n = grind arith

pub has_among : (ns : List ℕ) (n : ℕ) → has ns n ≡ true → IsAmong n ns
has_among ns n h = let x = any_by (nat_eq n) ns h in subst (λ z. IsAmong z ns) (sym (equal n x.0 x.2)) x.1

pub among_has : (ns : List ℕ) (n : ℕ) → IsAmong n ns → has ns n ≡ true
among_has ns n h = any_there (nat_eq n) ns n h (same n)

pub as_list_is : {A : Type 0} (x : A) (o : Option A) → IsAmong x (as_list o) → o ≡ Some x
unfolding IsAmong
as_list_is x None h = absurd h
as_list_is x (Some y) h = ⊎_elim (λ e. ap (λ z. Some z) (sym e)) (λ r. absurd r) h

pub is_as_list : {A : Type 0} (x : A) (o : Option A) → o ≡ Some x → IsAmong x (as_list o)
unfolding IsAmong
is_as_list x None h = none_some x h
is_as_list x (Some y) h = inl (sym (some_same y x h))

pub among_one : {A : Type 0} (x y : A) → IsAmong x (y ∷ []) → x ≡ y
unfolding IsAmong
among_one x y h = ⊎_elim (λ e. e) (λ r. absurd r) h

pub one_among : {A : Type 0} (x y : A) → x ≡ y → IsAmong x (y ∷ [])
unfolding IsAmong
one_among x y e = inl e

pub none_among : {A B : Type 0} (x : A) → IsAmong x [] → B
unfolding IsAmong
none_among x h = absurd h

pub among_get : {A : Type 0} (xs : List A) (x : A) → IsAmong x xs → (k : ℕ) × (slice_get xs k ≡ Some x)
unfolding IsAmong
among_get [] x h = absurd h
among_get (y ∷ xs) x h = ⊎_elim (λ e. (0, ap (λ z. Some z) (sym e))) (λ r. let k = among_get xs x r in (suc k.0, k.1)) h

pub get_among : {A : Type 0} (xs : List A) (k : ℕ) (x : A) → slice_get xs k ≡ Some x → IsAmong x xs
unfolding IsAmong
get_among [] zero x h = none_some x h
get_among [] (suc k) x h = none_some x h
get_among (y ∷ xs) zero x h = inl (sym (some_same y x h))
get_among (y ∷ xs) (suc k) x h = inr (get_among xs k x h)

pub get_within : {A : Type 0} (xs : List A) (k : ℕ) (x : A) → slice_get xs k ≡ Some x → k < length xs
get_within [] zero x h = none_some x h
get_within [] (suc k) x h = none_some x h
get_within (y ∷ xs) zero x h = omega arith
get_within (y ∷ xs) (suc k) x h = let l = get_within xs k x h in omega (arith, l)

pub there_below : {A : Type 0} (xs : List A) (k : ℕ) → k < length xs → (x : A) × (slice_get xs k ≡ Some x)
there_below [] k h = absurd (omega (arith, h))
there_below (x ∷ xs) zero h = (x, refl)
there_below (x ∷ xs) (suc k) h = there_below xs k (omega (arith, h))

pub get_index : {A : Type 0} (xs : List A) (k : ℕ) (x d : A) → slice_get xs k ≡ Some x → slice_index_or xs k d ≡ x
get_index [] zero x d h = none_some x h
get_index [] (suc k) x d h = none_some x h
get_index (y ∷ xs) zero x d h = some_same y x h
get_index (y ∷ xs) (suc k) x d h = get_index xs k x d h

module _ {A B : Type 0} (f : ℕ → A → List B) (y : B) where
  abbrev From : ℕ → List A → Type 0
  From k xs = (i : ℕ) × (x : A) × (slice_get xs i ≡ Some x) × IsAmong y (f (k + i) x)

  shift : (k i : ℕ) → suc k + i ≡ k + suc i
  shift k i = omega arith

  plus_zero : (k : ℕ) → k ≡ k + 0
  plus_zero k = omega arith

  zero_plus : (k : ℕ) → 0 + k ≡ k
  zero_plus k = omega arith

  back_from : (k : ℕ) (xs : List A) → IsAmong y (each_at f k xs) → From k xs
  unfolding IsAmong each_at
  back_from k [] h = absurd h
  back_from k (x ∷ xs) h =
      ⊎_elim
      (λ a. (0, x, refl, subst (λ n. IsAmong y (f n x)) (plus_zero k) a))
      (λ b. let r = back_from (suc k) xs b in (suc r.0, r.1, r.2, subst (λ n. IsAmong y (f n r.1)) (shift k r.0) r.3))
      (among_split y (f k x) (each_at f (suc k) xs) h)

  there_from : (k i : ℕ) (xs : List A) (x : A) → slice_get xs i ≡ Some x → IsAmong y (f (k + i) x) → IsAmong y (each_at f k xs)
  unfolding each_at
  there_from k zero [] x at h = none_some x at
  there_from k (suc i) [] x at h = none_some x at
  there_from k zero (z ∷ xs) x at h = among_left y (f k z) (each_at f (suc k) xs) (subst (λ n. IsAmong y (f n z)) (sym (plus_zero k)) (subst (λ w. IsAmong y (f (k + 0) w)) (sym (some_same z x at)) h))
  there_from k (suc i) (z ∷ xs) x at h = among_right y (f k z) (each_at f (suc k) xs) (there_from (suc k) i xs x at (subst (λ n. IsAmong y (f n x)) (sym (shift k i)) h))

  -- what gave it, and where that stands
  pub each_back : (xs : List A) → IsAmong y (each_at f 0 xs) → (i : ℕ) × (x : A) × (slice_get xs i ≡ Some x) × IsAmong y (f i x)
  each_back xs h = let r = back_from 0 xs h in (r.0, r.1, r.2, subst (λ n. IsAmong y (f n r.1)) (zero_plus r.0) r.3)

  pub each_there : (i : ℕ) (xs : List A) (x : A) → slice_get xs i ≡ Some x → IsAmong y (f i x) → IsAmong y (each_at f 0 xs)
  each_there i xs x at h = there_from 0 i xs x at (subst (λ n. IsAmong y (f n x)) (sym (zero_plus i)) h)
