-- A module leads to fewer modules than one that has it as an instance, where no module has itself as an instance.
use Rattle.std.proofs.Common.{◌≡◌, ℕ, suc, ◌+◌, ◌<◌, ◌≤◌, Bool, true, false, List, [], ◌∷◌, map, length, refl, ap, sym, ◌∙◌, ⊎_elim, arith}
use Rattle.std.specs.Prelude.{nat_eq, ◌||◌}
use Rattle.uc_syntax.specs.declared.declaration.Module.{Module}
use Rattle.uc_meaning.specs.Lookup.{System}
use Rattle.uc_rules.specs.Cycles.{instance_steps, leads_to}
use Rattle.uc_declared_types.specs.AliasLaw.{IsAmong}
use Rattle.uc_declared_types.proofs.Along.{any_there, or_left, or_right}
use Rattle.uc_declared_types.proofs.Instances.{module_names, instance_followed}
use Rattle.uc_module_writes.specs.Premise.{NoInstanceCycles}

same : (n : ℕ) → nat_eq n n ≡ true
same n = grind arith

-- how many of a list pass
one_if : Bool → ℕ
one_if true = 1
one_if false = 0

passing : {A : Type 0} → (A → Bool) → List A → ℕ
passing f [] = 0
passing f (x ∷ xs) = one_if (f x) + passing f xs

one_most : (b : Bool) → one_if b ≤ 1
unfolding one_if
one_most true = omega arith
one_most false = omega arith

passing_most : {A : Type 0} (f : A → Bool) (xs : List A) → passing f xs ≤ length xs
unfolding passing
passing_most f [] = omega arith
passing_most f (x ∷ xs) = omega (arith, one_most (f x), passing_most f xs)

one_grows : (b c : Bool) → (b ≡ true → c ≡ true) → one_if b ≤ one_if c
unfolding one_if
one_grows true c h = let e : one_if c ≡ 1 = ap one_if (h refl) in omega (arith, e)
one_grows false c h = omega arith

one_less : (b c : Bool) → b ≡ false → c ≡ true → one_if b < one_if c
unfolding one_if
one_less b c h k = let e : one_if b ≡ 0 = ap one_if h in let g : one_if c ≡ 1 = ap one_if k in omega (arith, e, g)

passing_grows : {A : Type 0} (f g : A → Bool) (xs : List A) → ((x : A) → f x ≡ true → g x ≡ true) → passing f xs ≤ passing g xs
unfolding passing
passing_grows f g [] h = omega arith
passing_grows f g (x ∷ xs) h = omega (arith, one_grows (f x) (g x) (h x), passing_grows f g xs h)

passing_less : {A : Type 0} (f g : A → Bool) (xs : List A) → ((x : A) → f x ≡ true → g x ≡ true) → (y : A) → IsAmong y xs → f y ≡ false → g y ≡ true → passing f xs < passing g xs
unfolding passing IsAmong
passing_less f g [] h y among out inside = absurd among
passing_less f g (x ∷ xs) h y among out inside =
    ⊎_elim
    (λ e. let l : one_if (f x) < one_if (g x) = one_less (f x) (g x) (ap f (sym e) ∙ out) (ap g (sym e) ∙ inside) in omega (arith, l, passing_grows f g xs h))
    (λ r. omega (arith, one_grows (f x) (g x) (h x), passing_less f g xs h y r out inside))
    among

module _ (s : System) where
  abbrev steps : ℕ → List ℕ
  steps = instance_steps s

  abbrev reaches : ℕ → ℕ → Bool
  reaches x y = leads_to (length s.modules) steps (nat_eq y) x

  -- how many modules one leads to
  pub rank : ℕ → ℕ
  rank x = passing (reaches x) (module_names s)

  names_most : (ms : List Module) → length (map {B = ℕ} (λ m. m.name) ms) ≤ length ms
  names_most [] = omega arith
  names_most (m ∷ ms) = let r = names_most ms in omega (arith, r)

  farther : (x z y : ℕ) → IsAmong z (steps x) → reaches z y ≡ true → reaches x y ≡ true
  unfolding leads_to
  farther x z y among h =
      instance_followed s (nat_eq y) (suc (length s.modules)) x
      (any_there (λ w. nat_eq y w || leads_to (length s.modules) steps (nat_eq y) w) (steps x) z among (or_right (nat_eq y z) (reaches z y) h))

  one_step : (x z : ℕ) → IsAmong z (steps x) → reaches x z ≡ true
  unfolding leads_to
  one_step x z among =
      instance_followed s (nat_eq z) 1 x (any_there (λ w. nat_eq z w || leads_to 0 steps (nat_eq z) w) (steps x) z among (or_left (nat_eq z z) (leads_to 0 steps (nat_eq z) z) (same z)))

  pub rank_falls : NoInstanceCycles s → (x z : ℕ) → IsAmong z (steps x) → IsAmong z (module_names s) → rank z < rank x
  unfolding rank
  rank_falls ends x z among named = passing_less (reaches z) (reaches x) (module_names s) (λ y h. farther x z y among h) z named (ends z) (one_step x z among)

  -- one leads to fewer than there are
  pub rank_less : NoInstanceCycles s → (z : ℕ) → IsAmong z (module_names s) → rank z < length s.modules
  unfolding rank
  rank_less ends z named =
      let l = passing_less (reaches z) (λ y. true) (module_names s) (λ y h. refl) z named (ends z) refl in
      omega (arith, l, passing_most (λ (y : ℕ). true) (module_names s), names_most s.modules)
