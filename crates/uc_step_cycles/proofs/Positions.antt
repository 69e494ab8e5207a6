-- Places in lists, and paths by their last step.
use Rattle.std.proofs.Common.{◌≡◌, ℕ, zero, suc, ◌+◌, Bool, true, false, List, [], ◌∷◌, ◌++◌, Some, refl, ap, sym, ◌∙◌, ◌⊎◌, inl, inr, ⊎_elim, arith}
use Rattle.std.specs.Prelude.{cond, nat_eq, slice_get, ◌&&◌}
use Rattle.std.specs.List.{filter, find, position_from}
use Rattle.std.specs.Option.{option_map}
use Rattle.uc_declared_types.specs.AliasLaw.{IsAmong}
use Rattle.uc_meaning.specs.Lookup.{parent_of}
use Rattle.uc_meaning.specs.Cells.{same_path}
use Rattle.uc_uses.proofs.Lists.{none_some, some_same}

pub clash : {A : Type 0} → false ≡ true → A
clash h = cc

pub equal : (n m : ℕ) → nat_eq n m ≡ true → n ≡ m
equal n m h = grind (arith, h)

pub same : (n : ℕ) → nat_eq n n ≡ true
same n = grind arith

pub both_left : (b c : Bool) → (b && c) ≡ true → b ≡ true
both_left true c h = refl
both_left false c h = clash h

pub both_right : (b c : Bool) → (b && c) ≡ true → c ≡ true
both_right true c h = h
both_right false c h = clash h

pub both : (b c : Bool) → b ≡ true → c ≡ true → (b && c) ≡ true
both true c h g = g
both false c h g = clash h

pub path_equal : (p q : List ℕ) → same_path p q ≡ true → p ≡ q
unfolding same_path
path_equal [] [] h = refl
path_equal [] (j ∷ q) h = clash h
path_equal (i ∷ p) [] h = clash h
path_equal (i ∷ p) (j ∷ q) h = (λ k. equal i j (both_left (nat_eq i j) (same_path p q) h) k ∷ path_equal p q (both_right (nat_eq i j) (same_path p q) h) k)

pub path_same : (p : List ℕ) → same_path p p ≡ true
unfolding same_path
path_same [] = refl
path_same (i ∷ p) = both (nat_eq i i) (same_path p p) (same i) (path_same p)

module _ {A : Type 0} (test : A → Bool) where
  abbrev pub PlacedAt : ℕ → ℕ → List A → Type 0
  PlacedAt i k xs = (j : ℕ) × (d : A) × (k ≡ i + j) × (slice_get xs j ≡ Some d) × (test d ≡ true)

  position_by : (i k : ℕ) (x : A) (xs : List A) → (position_from test (i + 1) xs ≡ Some k → PlacedAt (i + 1) k xs) → (b : Bool) → test x ≡ b → cond b (Some i) (position_from test (i + 1) xs) ≡ Some k → PlacedAt i k (x ∷ xs)
  position_by i k x xs more true is e = (0, x, (let s = some_same i k e in omega (arith, s)), refl, is)
  position_by i k x xs more false is e = let p = more e in (suc p.0, p.1, (let q = p.2 in omega (arith, q)), p.3, p.4)

  pub position : (i k : ℕ) (xs : List A) → position_from test i xs ≡ Some k → PlacedAt i k xs
  position i k [] h = none_some k h
  position i k (x ∷ xs) h = position_by i k x xs (position (i + 1) k xs) (test x) refl h

  found_by : (i : ℕ) (y : A) (xs : List A) (x : A) → (x ≡ y) ⊎ IsAmong x xs → test x ≡ true → (IsAmong x xs → (k : ℕ) × (position_from test (i + 1) xs ≡ Some k)) → (b : Bool) → test y ≡ b → (k : ℕ) × (cond b (Some i) (position_from test (i + 1) xs) ≡ Some k)
  found_by i y xs x h is more true e = (i, refl)
  found_by i y xs x h is more false e = ⊎_elim (λ here. clash (sym e ∙ ap test (sym here) ∙ is)) more h

  pub found_at : (i : ℕ) (xs : List A) (x : A) → IsAmong x xs → test x ≡ true → (k : ℕ) × (position_from test i xs ≡ Some k)
  unfolding IsAmong
  found_at i [] x h is = absurd h
  found_at i (y ∷ xs) x h is = found_by i y xs x h is (λ later. found_at (i + 1) xs x later is) (test y) refl

  abbrev Kept : A → List A → Type 0
  Kept x xs = IsAmong x xs × (test x ≡ true)

  in_by : (y : A) (xs : List A) (x : A) → (IsAmong x (filter test xs) → Kept x xs) → (b : Bool) → test y ≡ b → IsAmong x (cond b (y ∷ filter test xs) (filter test xs)) → Kept x (y ∷ xs)
  unfolding IsAmong
  in_by y xs x more true is e = ⊎_elim (λ here. (inl here, ap test here ∙ is)) (λ later. let r = more later in (inr r.0, r.1)) e
  in_by y xs x more false is e = let r = more e in (inr r.0, r.1)

  pub in_filter : (xs : List A) (x : A) → IsAmong x (filter test xs) → Kept x xs
  unfolding IsAmong
  in_filter [] x h = absurd h
  in_filter (y ∷ xs) x h = in_by y xs x (in_filter xs x) (test y) refl h

  to_by : (y : A) (xs : List A) (x : A) → (x ≡ y) ⊎ IsAmong x xs → test x ≡ true → (IsAmong x xs → IsAmong x (filter test xs)) → (b : Bool) → test y ≡ b → IsAmong x (cond b (y ∷ filter test xs) (filter test xs))
  unfolding IsAmong
  to_by y xs x h is more true e = ⊎_elim (λ here. inl here) (λ later. inr (more later)) h
  to_by y xs x h is more false e = ⊎_elim (λ here. clash (sym e ∙ ap test (sym here) ∙ is)) more h

  pub to_filter : (xs : List A) (x : A) → IsAmong x xs → test x ≡ true → IsAmong x (filter test xs)
  unfolding IsAmong
  to_filter [] x h is = absurd h
  to_filter (y ∷ xs) x h is = to_by y xs x h is (λ later. to_filter xs x later is) (test y) refl

  passes_by : (y : A) (xs : List A) (x : A) → (find test xs ≡ Some x → test x ≡ true) → (b : Bool) → test y ≡ b → cond b (Some y) (find test xs) ≡ Some x → test x ≡ true
  passes_by y xs x more true is e = ap test (sym (some_same y x e)) ∙ is
  passes_by y xs x more false is e = more e

  pub found_passes : (xs : List A) (x : A) → find test xs ≡ Some x → test x ≡ true
  found_passes [] x h = none_some x h
  found_passes (y ∷ xs) x h = passes_by y xs x (found_passes xs x) (test y) refl h

pub get_among : {A : Type 0} (xs : List A) (k : ℕ) (x : A) → slice_get xs k ≡ Some x → IsAmong x xs
unfolding IsAmong
get_among [] zero x h = none_some x h
get_among [] (suc k) x h = none_some x h
get_among (y ∷ xs) zero x h = inl (sym (some_same y x h))
get_among (y ∷ xs) (suc k) x h = inr (get_among xs k x h)

-- a path without its last step
pub parent_push : (q : List ℕ) (i : ℕ) → parent_of (q ++ i ∷ []) ≡ Some (q, i)
unfolding parent_of
parent_push [] i = refl
parent_push (j ∷ []) i = refl
parent_push (j ∷ (k ∷ q)) i = ap (option_map (λ p. (j ∷ p.0, p.1))) (parent_push (k ∷ q) i)

pub Ends : List ℕ → Type 0
Ends path = (path ≡ []) ⊎ ((q : List ℕ) × (i : ℕ) × (path ≡ q ++ i ∷ []))

pub ends : (path : List ℕ) → Ends path
unfolding Ends
ends [] = inl refl
ends (x ∷ path) = inr (⊎_elim (λ e. ([], x, ap (λ p. x ∷ p) e)) (λ r. (x ∷ r.0, r.1, ap (λ p. x ∷ p) r.2)) (ends path))

pub split_path : {P : Type 0} (path : List ℕ) → (path ≡ [] → P) → ((q : List ℕ) (i : ℕ) → path ≡ q ++ i ∷ [] → P) → P
unfolding Ends
split_path path none some = ⊎_elim none (λ r. some r.0 r.1 r.2) (ends path)
