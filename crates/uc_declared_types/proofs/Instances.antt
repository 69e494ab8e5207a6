-- The names of the modules of a design.
use Rattle.std.proofs.Common.{◌≡◌, ℕ, ◌+◌, ◌≤◌, Bool, true, false, List, [], ◌∷◌, length, map, Option, Some, None, refl, ap, sym, subst, ◌∙◌, arith, inl, inr, ⊎_elim}
use Rattle.std.specs.Prelude.{nat_eq}
use Rattle.uc_syntax.specs.declared.declaration.Module.{Module}
use Rattle.uc_meaning.specs.Lookup.{System, instances_of, module_named}
use Rattle.uc_rules.specs.Cycles.{instance_steps, instance_steps_from, leads_to}
use Rattle.uc_declared_types.specs.AliasLaw.{IsAmong}
use Rattle.uc_declared_types.proofs.Among.{find_among}
use Rattle.uc_declared_types.specs.CycleLaws.{InstanceWaysAreFollowed}
use Rattle.uc_declared_types.proofs.WayLawsAliases.{find_name}
use Rattle.uc_declared_types.proofs.Following.{followed}

abbrev pub module_names : System → List ℕ
module_names system = map (λ m. m.name) system.modules

length_names : (ms : List Module) → length (map {B = ℕ} (λ m. m.name) ms) ≤ length ms
length_names [] = omega arith
length_names (m ∷ ms) = let r = length_names ms in omega (arith, r)

among_names : (m : Module) (ms : List Module) → IsAmong m ms → IsAmong m.name (map {B = ℕ} (λ k. k.name) ms)
unfolding IsAmong
among_names m [] h = absurd h
among_names m (k ∷ ms) h = ⊎_elim (λ e. inl (ap (λ (q : Module). q.name) e)) (λ r. inr (among_names m ms r)) h

module _ (system : System) where
  in_design : (n y : ℕ) (o : Option Module) → module_named system n ≡ o → IsAmong y (instance_steps_from o) → IsAmong n (module_names system)
  unfolding IsAmong
  in_design n y None is h = absurd h
  in_design n y (Some m) is h =
      subst (λ x. IsAmong x (module_names system)) (find_name system n system.modules m is) (among_names m system.modules (find_among (λ k. nat_eq k.name n) system.modules m is))

  named_in : (n y : ℕ) (o : Option Module) → module_named system n ≡ o → IsAmong y (instance_steps_from o) → (m : Module) × IsAmong m system.modules × (m.name ≡ n)
  unfolding IsAmong
  named_in n y None is h = absurd h
  named_in n y (Some m) is h = (m, find_among (λ k. nat_eq k.name n) system.modules m is, find_name system n system.modules m is)

  -- a module that has steps is one of the design
  pub named_module : (n y : ℕ) → IsAmong y (instance_steps system n) → (m : Module) × IsAmong m system.modules × (m.name ≡ n)
  named_module n y h = named_in n y (module_named system n) refl h

  pub covers : (n y : ℕ) → IsAmong y (instance_steps system n) → IsAmong n (module_names system)
  covers n y h = in_design n y (module_named system n) refl h

  pub instance_followed : (test : ℕ → Bool) (k n : ℕ) → leads_to k (instance_steps system) test n ≡ true → leads_to (length system.modules) (instance_steps system) test n ≡ true
  instance_followed test k n h = followed (instance_steps system) test (module_names system) covers (length system.modules) (length_names system.modules) k n h

pub instance_ways_are_followed : InstanceWaysAreFollowed
instance_ways_are_followed system test k n h = instance_followed system test k n h
