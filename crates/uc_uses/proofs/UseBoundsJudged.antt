-- Instances that are followed far enough are all instances.
use Rattle.std.proofs.Common.{◌≡◌, ℕ, zero, suc, ◌<◌, Bool, true, false, List, [], ◌∷◌, ◌++◌, map, length, Some, refl, ap, sym, subst, ◌∙◌, inl, inr, arith}
use Rattle.std.specs.Prelude.{is_some, not, ◌||◌}
use Rattle.std.specs.List.{flat_map, list_any}
use Rattle.uc_syntax.specs.declared.declaration.Module.{Module}
use Rattle.uc_meaning.specs.Lookup.{System, InstanceParts, bound_to, instances_of, module_named}
use Rattle.uc_meaning.specs.Cells.{InstanceAt, as_list, instances, instances_below, instances_from, main_instance, module_of_instance}
use Rattle.uc_rules.specs.Cycles.{instance_steps, instance_steps_from}
use Rattle.uc_declared_types.specs.AliasLaw.{IsAmong}
use Rattle.uc_declared_types.proofs.Along.{any_there}
use Rattle.uc_declared_types.proofs.Among.{among_back}
use Rattle.uc_order_rules.specs.Roots.{rooted, instances_in}
use Rattle.uc_order_rules.specs.Uses.{has_way}
use Rattle.uc_order_rules.specs.Sizes.{has_deep_chain, has_many_instances}
use Rattle.uc_uses.specs.BoundLaw.{InstancesEnd}
use Rattle.uc_uses.specs.JudgedLaw.{JudgedInstancesAreAll}
use Rattle.uc_uses.proofs.Instances.{as_list_is}
use Rattle.uc_uses.proofs.UseBoundsFollowed.{map_back}
use Rattle.uc_uses.proofs.Ranks.{among_modules, among_names, among_steps, module_is, rank, rank_falls, rank_most}

clash : {A : Type 0} → true ≡ false → A
clash h = cc

flat_same : {A B : Type 0} (f g : A → List B) (xs : List A) → ((x : A) → IsAmong x xs → f x ≡ g x) → flat_map f xs ≡ flat_map g xs
unfolding IsAmong
flat_same f g [] each = refl
flat_same f g (x ∷ xs) each = ap (λ ys. ys ++ flat_map f xs) (each x (inl refl)) ∙ ap (λ ys. g x ++ ys) (flat_same f g xs (λ y h. each y (inr h)))

left_false : (b c : Bool) → not (b || c) ≡ true → b ≡ false
left_false true c h = clash (sym h)
left_false false c h = refl

none_passes : {A : Type 0} (f : A → Bool) (xs : List A) (x : A) → list_any f xs ≡ false → IsAmong x xs → f x ≡ false
none_passes f xs x none among = by (f x) refl
  where
    by : (b : Bool) → f x ≡ b → f x ≡ false
    by true e = clash (sym (any_there f xs x among e) ∙ none)
    by false e = e

module _ (s : System) (known : InstancesEnd s) (k : ℕ) where
  abbrev K : System
  K = rooted s k

  -- on chains of at most so many modules all instances are followed
  unfoldable Ends : ℕ → InstanceAt → Type 0
  Ends zero here = ⊥
  Ends (suc n) here = (x : InstanceAt) → IsAmong x (instances_below K here) → Ends n x

  same_instances : (n m : ℕ) (here : InstanceAt) → Ends n here → Ends m here → instances_from n K here ≡ instances_from m K here
  unfolding instances_from Ends
  same_instances zero m here a b = absurd a
  same_instances (suc n) zero here a b = absurd b
  same_instances (suc n) (suc m) here a b = ap (λ xs. here ∷ xs) (flat_same (instances_from n K) (instances_from m K) (instances_below K here) (λ x among. same_instances n m x (a x among) (b x among)))

  -- an instance below another one, with its module
  record IsBelow (here x : InstanceAt) : Type 0 where
    pub parts : InstanceParts
    pub among : IsAmong parts (instances_of here.code)
    pub named : module_named s parts.module_name ≡ Some x.code

  is_below : (here x : InstanceAt) → IsAmong x (instances_below K here) → IsBelow here x
  is_below here x h =
      let p = among_back (λ i. map (λ (c : Module). record { path = here.path ++ i.name ∷ []; code = c; is_bound = λ y. is_some (bound_to i y) }) (module_of_instance K i)) x (instances_of here.code) h in
      let c = map_back (λ (c : Module). record { path = here.path ++ p.0.name ∷ []; code = c; is_bound = λ y. is_some (bound_to p.0 y) }) x (module_of_instance K p.0) p.2 in
      record { parts = p.0; among = p.1; named = as_list_is c.0 (module_named s p.0.module_name) c.1 ∙ ap (λ (y : InstanceAt). Some y.code) (sym c.2) }

  own_name : (here x : InstanceAt) (b : IsBelow here x) → module_named s x.code.name ≡ Some x.code
  own_name here x b = ap (module_named s) (module_is s known.ends b.parts.module_name x.code b.named) ∙ b.named

  step : (here x : InstanceAt) → module_named s here.code.name ≡ Some here.code → (b : IsBelow here x) → IsAmong x.code.name (instance_steps s here.code.name)
  step here x named b =
      subst (λ y. IsAmong y (instance_steps s here.code.name)) (sym (module_is s known.ends b.parts.module_name x.code b.named))
      (subst (λ o. IsAmong b.parts.module_name (instance_steps_from o)) (sym named) (among_steps s known.ends b.parts (instances_of here.code) b.among))

  ends_short : (n : ℕ) (here : InstanceAt) → module_named s here.code.name ≡ Some here.code → has_way n (instance_steps s) here.code.name ≡ false → Ends n here
  unfolding has_way Ends
  ends_short zero here named h = clash h
  ends_short (suc n) here named h = λ x among.
      let b = is_below here x among in
      ends_short n x (own_name here x b) (none_passes (has_way n (instance_steps s)) (instance_steps s here.code.name) x.code.name h (step here x named b))

  ends_ranked : (n : ℕ) (here : InstanceAt) → module_named s here.code.name ≡ Some here.code → rank s known.ends here.code.name < n → Ends n here
  unfolding Ends
  ends_ranked zero here named l = absurd (omega (arith, l))
  ends_ranked (suc n) here named l = λ x among.
      let b = is_below here x among in
      let less : rank s known.ends x.code.name < rank s known.ends here.code.name =
      rank_falls s known.ends here.code.name x.code.name (step here x named b) (among_names s known.ends x.code s.modules (among_modules s known.ends b.parts.module_name x.code b.named)) in
      ends_ranked n x (own_name here x b) (omega (arith, l, less))

pub judged_instances_are_all : JudgedInstancesAreAll
unfolding instances instances_in
judged_instances_are_all s k m known at judged =
    let short : has_way 32 (instance_steps s) m.name ≡ false = left_false (has_deep_chain (rooted s k) m) (has_many_instances (rooted s k)) judged in
    let most = rank_most s known.ends m.name in
    ap (λ o. flat_map (λ c. instances_from (suc (length s.modules)) (rooted s k) (main_instance c)) (as_list o)) at
    ∙ ap (λ is. is ++ []) (same_instances s known k (suc (length s.modules)) 32 (main_instance m) (ends_ranked s known k (suc (length s.modules)) (main_instance m) (known.alone k m at) (omega (arith, most))) (ends_short s known k 32 (main_instance m) (known.alone k m at) short))
    ∙ sym (ap (λ o. flat_map (λ c. instances_from 32 (rooted s k) (main_instance c)) (as_list o)) at)
