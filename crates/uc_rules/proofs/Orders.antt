-- The first fault of a list is one of them, and none comes before it.
use Rattle.std.proofs.Common.{◌≡◌, ℕ, Bool, true, false, List, [], ◌∷◌, Some, None, refl, ap, ◌∙◌, arith, ◌⊎◌, inl, inr, ⊎_elim}
use Rattle.std.specs.Prelude.{nat_lt, if◌then◌else◌}
use Rattle.uc_rules.specs.declared.fault.Fault.{Fault}
use Rattle.uc_rules.specs.Faults.{number_of, less, sooner, first_of, IsFirst, IsIn, NoneBefore}

less_trans : (a b c : ℕ) (r s t : Bool) → (r ≡ true → s ≡ true → t ≡ true) → less a b r ≡ true → less b c s ≡ true → less a c t ≡ true
less_trans a b c r s t h p q = grind (arith, h, p, q)

less_back : (a b c : ℕ) (r s t : Bool) → (r ≡ false → s ≡ false → t ≡ false) → less a b r ≡ false → less b c s ≡ false → less a c t ≡ false
less_back a b c r s t h p q = grind (arith, h, p, q)

lt_trans : (a b c : ℕ) → nat_lt a b ≡ true → nat_lt b c ≡ true → nat_lt a c ≡ true
lt_trans a b c p q = grind (arith, p, q)

lt_back : (a b c : ℕ) → nat_lt a b ≡ false → nat_lt b c ≡ false → nat_lt a c ≡ false
lt_back a b c p q = grind (arith, p, q)

pub sooner_trans : (f g h : Fault) → sooner f g ≡ true → sooner g h ≡ true → sooner f h ≡ true
sooner_trans f g h =
    less_trans f.place.file g.place.file h.place.file _ _ _
    (less_trans f.place.line g.place.line h.place.line _ _ _
    (less_trans f.place.col g.place.col h.place.col _ _ _ (lt_trans (number_of f.rule) (number_of g.rule) (number_of h.rule))))

pub sooner_back : (f g h : Fault) → sooner f g ≡ false → sooner g h ≡ false → sooner f h ≡ false
sooner_back f g h =
    less_back f.place.file g.place.file h.place.file _ _ _
    (less_back f.place.line g.place.line h.place.line _ _ _
    (less_back f.place.col g.place.col h.place.col _ _ _ (lt_back (number_of f.rule) (number_of g.rule) (number_of h.rule))))

pub sooner_own : (f : Fault) → sooner f f ≡ false
sooner_own f = grind arith

clash : {A : Type 0} (b : Bool) → b ≡ true → b ≡ false → A
clash b p q = cc

not_before : (h g f : Fault) (b : Bool) → sooner g f ≡ b → sooner h g ≡ true → sooner h f ≡ false → b ≡ false
not_before h g f true e p q = clash (sooner h f) (sooner_trans h g f p e) q
not_before h g f false e p q = refl

Found : Fault → List Fault → Fault → Type 0
Found g fs f = ((f ≡ g) ⊎ IsIn f fs) × ((sooner g f ≡ false) × NoneBefore f fs)

first_from : (g : Fault) (fs : List Fault) (f : Fault) → first_of (Some g) fs ≡ Some f → Found g fs f
unfolding first_of NoneBefore IsIn Found
first_from g [] f e = let is : f ≡ g = cc in (inl is, (ap (sooner g) is ∙ sooner_own g, tt))
first_from g (h ∷ fs) f e = by (sooner h g) refl e (first_from h fs f) (first_from g fs f)
  where
    by : (b : Bool) → sooner h g ≡ b → first_of (if b then Some h else Some g) fs ≡ Some f → (first_of (Some h) fs ≡ Some f → Found h fs f) → (first_of (Some g) fs ≡ Some f → Found g fs f) → Found g (h ∷ fs) f
    by true s e there here = let x = there e in (inr x.0, (not_before h g f (sooner g f) refl s x.1.0, (x.1.0, x.1.1)))
    by false s e there here = let x = here e in (⊎_elim (λ y. inl y) (λ y. inr (inr y)) x.0, (x.1.0, (sooner_back h g f s x.1.0, x.1.1)))

some_first : (g : Fault) (fs : List Fault) → first_of (Some g) fs ≡ None → ⊥
unfolding first_of
some_first g [] e = cc
some_first g (h ∷ fs) e = by (sooner h g) e (some_first h fs) (some_first g fs)
  where
    by : (b : Bool) → first_of (if b then Some h else Some g) fs ≡ None → (first_of (Some h) fs ≡ None → ⊥) → (first_of (Some g) fs ≡ None → ⊥) → ⊥
    by true e there here = there e
    by false e there here = here e

-- what is kept is the first of the faults
pub kept_is_first : (fs : List Fault) (f : Fault) → first_of None fs ≡ Some f → IsFirst f fs
unfolding first_of NoneBefore IsIn Found
kept_is_first [] f e = absurd (let x : ⊥ = cc in x)
kept_is_first (g ∷ fs) f e = let x = first_from g fs f e in (x.0, x.1)

pub nothing_kept : (fs : List Fault) → first_of None fs ≡ None → fs ≡ []
unfolding first_of
nothing_kept [] e = refl
nothing_kept (g ∷ fs) e = absurd (some_first g fs e)
