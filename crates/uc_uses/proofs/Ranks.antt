-- A module leads to fewer modules than one that has it as an instance, where no module leads to itself.
use Rattle.std.proofs.Common.{◌≡◌, ℕ, suc, ◌+◌, ◌<◌, ◌≤◌, Bool, true, false, List, [], ◌∷◌, map, length, Option, Some, None, refl, ap, sym, subst, ◌∙◌, inl, inr, ⊎_elim, arith}
use Rattle.std.specs.Prelude.{nat_eq, ◌||◌, cond}
use Rattle.std.specs.List.{find}
use Rattle.std.specs.Option.{option_and_then}
use Rattle.uc_syntax.specs.declared.declaration.Module.{Module}
use Rattle.uc_meaning.specs.Lookup.{System, InstanceParts, module_from, module_named, instance_of, instances_of}
use Rattle.uc_rules.specs.Cycles.{instance_steps, instance_steps_from, leads_to, on_instance_cycle}
use Rattle.uc_order_rules.specs.Roots.{rooted}
use Rattle.uc_declared_types.specs.AliasLaw.{IsAmong}
use Rattle.uc_declared_types.proofs.Along.{any_there, or_left, or_right}
use Rattle.uc_declared_types.proofs.Among.{find_among}
use Rattle.uc_declared_types.proofs.Instances.{module_names, instance_followed}

nothing : {A : Type 0} → false ≡ true → A
nothing h = cc

pub equal : (n m : ℕ) → nat_eq n m ≡ true → n ≡ m
equal n m h = grind (arith, h)

pub same : (n : ℕ) → nat_eq n n ≡ true
same n = grind arith

none_some : {A B : Type 0} (x : B) → None ≡ Some x → A
none_some x h = cc

some_same : {A : Type 0} (x y : A) → Some x ≡ Some y → x ≡ y
some_same x y h = cc

-- ---- how many of a list pass

one_if : Bool → ℕ
one_if true = 1
one_if false = 0

passing : {A : Type 0} → (A → Bool) → List A → ℕ
passing f [] = 0
passing f (x ∷ xs) = one_if (f x) + passing f xs

one_most : (b : Bool) → one_if b ≤ 1
unfolding one_if
one_most true = omega arith
one_most false = omega arith

passing_most : {A : Type 0} (f : A → Bool) (xs : List A) → passing f xs ≤ length xs
unfolding passing
passing_most f [] = omega arith
passing_most f (x ∷ xs) = omega (arith, one_most (f x), passing_most f xs)

one_grows : (b c : Bool) → (b ≡ true → c ≡ true) → one_if b ≤ one_if c
unfolding one_if
one_grows true c h = let e : one_if c ≡ 1 = ap one_if (h refl) in omega (arith, e)
one_grows false c h = omega arith

one_less : (b c : Bool) → b ≡ false → c ≡ true → one_if b < one_if c
unfolding one_if
one_less b c h k = let e : one_if b ≡ 0 = ap one_if h in let g : one_if c ≡ 1 = ap one_if k in omega (arith, e, g)

passing_grows : {A : Type 0} (f g : A → Bool) (xs : List A) → ((x : A) → f x ≡ true → g x ≡ true) → passing f xs ≤ passing g xs
unfolding passing
passing_grows f g [] h = omega arith
passing_grows f g (x ∷ xs) h = omega (arith, one_grows (f x) (g x) (h x), passing_grows f g xs h)

passing_less : {A : Type 0} (f g : A → Bool) (xs : List A) → ((x : A) → f x ≡ true → g x ≡ true) → (y : A) → IsAmong y xs → f y ≡ false → g y ≡ true → passing f xs < passing g xs
unfolding passing IsAmong
passing_less f g [] h y among out inside = absurd among
passing_less f g (x ∷ xs) h y among out inside =
    ⊎_elim
    (λ e. let l : one_if (f x) < one_if (g x) = one_less (f x) (g x) (ap f (sym e) ∙ out) (ap g (sym e) ∙ inside) in omega (arith, l, passing_grows f g xs h))
    (λ r. omega (arith, one_grows (f x) (g x) (h x), passing_less f g xs h y r out inside))
    among

-- ---- the modules that a module leads to

module _ (s : System) (ends : (x : ℕ) → on_instance_cycle s x ≡ false) where
  abbrev steps : ℕ → List ℕ
  steps = instance_steps s

  abbrev reaches : ℕ → ℕ → Bool
  reaches x y = leads_to (length s.modules) steps (nat_eq y) x

  pub rank : ℕ → ℕ
  rank x = passing (reaches x) (module_names s)

  names_most : (ms : List Module) → length (map {B = ℕ} (λ m. m.name) ms) ≤ length ms
  names_most [] = omega arith
  names_most (m ∷ ms) = let r = names_most ms in omega (arith, r)

  pub rank_most : (x : ℕ) → rank x ≤ length s.modules
  unfolding rank
  rank_most x = omega (arith, passing_most (reaches x) (module_names s), names_most s.modules)

  farther : (x z y : ℕ) → IsAmong z (steps x) → reaches z y ≡ true → reaches x y ≡ true
  unfolding leads_to
  farther x z y among h =
      instance_followed s (nat_eq y) (suc (length s.modules)) x
      (any_there (λ w. nat_eq y w || leads_to (length s.modules) steps (nat_eq y) w) (steps x) z among (or_right (nat_eq y z) (reaches z y) h))

  one_step : (x z : ℕ) → IsAmong z (steps x) → reaches x z ≡ true
  unfolding leads_to
  one_step x z among =
      instance_followed s (nat_eq z) 1 x (any_there (λ w. nat_eq z w || leads_to 0 steps (nat_eq z) w) (steps x) z among (or_left (nat_eq z z) (leads_to 0 steps (nat_eq z) z) (same z)))

  pub rank_falls : (x z : ℕ) → IsAmong z (steps x) → IsAmong z (module_names s) → rank z < rank x
  unfolding rank
  rank_falls x z among named = passing_less (reaches z) (reaches x) (module_names s) (λ y h. farther x z y among h) z named (ends z) (one_step x z among)

  -- ---- instances

  pub among_names : (m : Module) (ms : List Module) → IsAmong m ms → IsAmong m.name (map {B = ℕ} (λ k. k.name) ms)
  unfolding IsAmong
  among_names m [] h = absurd h
  among_names m (k ∷ ms) h = ⊎_elim (λ e. inl (ap (λ (q : Module). q.name) e)) (λ r. inr (among_names m ms r)) h

  found_named : {A : Type 0} (name : A → ℕ) (x : ℕ) (xs : List A) (y : A) → find (λ a. nat_eq (name a) x) xs ≡ Some y → name y ≡ x
  found_named name x [] y h = none_some y h
  found_named name x (a ∷ xs) y h = by (nat_eq (name a) x) refl h (found_named name x xs y)
    where
      by : (b : Bool) → nat_eq (name a) x ≡ b → cond b (Some a) (find (λ c. nat_eq (name c) x) xs) ≡ Some y → (find (λ c. nat_eq (name c) x) xs ≡ Some y → name y ≡ x) → name y ≡ x
      by true is e more = ap name (sym (some_same a y e)) ∙ equal (name a) x is
      by false is e more = more e

  pub module_is : (x : ℕ) (m : Module) → module_named s x ≡ Some m → m.name ≡ x
  module_is x m h = found_named (λ (k : Module). k.name) x s.modules m h

  pub instance_is : (m : Module) (i : ℕ) (p : InstanceParts) → instance_of m i ≡ Some p → p.name ≡ i
  instance_is m i p h = found_named (λ (k : InstanceParts). k.name) i (instances_of m) p h

  pub among_modules : (x : ℕ) (m : Module) → module_named s x ≡ Some m → IsAmong m s.modules
  among_modules x m h = find_among (λ n. nat_eq n.name x) s.modules m h

  pub among_steps : (p : InstanceParts) (is : List InstanceParts) → IsAmong p is → IsAmong p.module_name (map {B = ℕ} (λ i. i.module_name) is)
  unfolding IsAmong
  among_steps p [] h = absurd h
  among_steps p (k ∷ is) h = ⊎_elim (λ e. inl (ap (λ (q : InstanceParts). q.module_name) e)) (λ r. inr (among_steps p is r)) h

  step_of : (m : Module) (i : ℕ) (p : InstanceParts) → module_named s m.name ≡ Some m → instance_of m i ≡ Some p → IsAmong p.module_name (steps m.name)
  step_of m i p named h =
      subst (λ o. IsAmong p.module_name (instance_steps_from o)) (sym named) (among_steps p (instances_of m) (find_among (λ k. nat_eq k.name i) (instances_of m) p h))

  -- the instance that a path takes first
  pub record First (k : ℕ) (m : Module) (i : ℕ) (q : List ℕ) (c : Module) : Type 0 where
    pub parts : InstanceParts
    pub code : Module
    pub is : instance_of m i ≡ Some parts
    pub named : module_named s parts.module_name ≡ Some code
    pub rest : module_from (rooted s k) code q ≡ Some c

  pub first : (k : ℕ) (m : Module) (i : ℕ) (q : List ℕ) (c : Module) → module_from (rooted s k) m (i ∷ q) ≡ Some c → First k m i q c
  unfolding module_from
  first k m i q c h = by (instance_of m i) refl h
    where
      by_module : (p : InstanceParts) → instance_of m i ≡ Some p → (o : Option Module) → module_named s p.module_name ≡ o → option_and_then (λ n. module_from (rooted s k) n q) o ≡ Some c → First k m i q c
      by_module p is None named h = none_some c h
      by_module p is (Some n) named h = record { parts = p; code = n; is = is; named = named; rest = h }

      by : (o : Option InstanceParts) → instance_of m i ≡ o → option_and_then (λ n. module_from (rooted s k) n q) (option_and_then (λ p. module_named s p.module_name) o) ≡ Some c → First k m i q c
      by None is h = none_some c h
      by (Some p) is h = by_module p is (module_named s p.module_name) refl h

  pub depth : (k : ℕ) (path : List ℕ) (m c : Module) → module_named s m.name ≡ Some m → module_from (rooted s k) m path ≡ Some c → length path ≤ rank m.name
  depth k [] m c named h = omega arith
  depth k (i ∷ q) m c named h =
      let f = first k m i q c h in
      let name : f.code.name ≡ f.parts.module_name = module_is f.parts.module_name f.code f.named in
      let again : module_named s f.code.name ≡ Some f.code = ap (module_named s) name ∙ f.named in
      let d : length q ≤ rank f.code.name = depth k q f.code c again f.rest in
      let l : rank f.code.name < rank m.name =
      rank_falls m.name f.code.name (subst (λ x. IsAmong x (steps m.name)) (sym name) (step_of m i f.parts named f.is)) (among_names f.code s.modules (among_modules f.parts.module_name f.code f.named)) in
      omega (arith, d, l)
