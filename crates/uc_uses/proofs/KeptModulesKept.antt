-- A design that keeps the static rules.
use Rattle.std.proofs.Common.{◌≡◌, ℕ, List, [], ◌∷◌, ◌++◌, Option, Some, None, refl, ap, sym, ◌∙◌, inl, inr, ⊎_elim}
use Rattle.std.specs.List.{flat_map, filter_map, cons_option}
use Rattle.uc_syntax.specs.Contents.{Contents}
use Rattle.uc_syntax.specs.declared.declaration.Decl.{Decl}
use Rattle.uc_syntax.specs.declared.declaration.Decl.TheVariants.{Instance}
use Rattle.uc_syntax.specs.declared.declaration.Module.{Module}
use Rattle.uc_meaning.specs.Lookup.{System, InstanceParts, instance_in, module_named}
use Rattle.uc_rules.specs.Cycles.{cycle_faults}
use Rattle.uc_rules.specs.Declarations.{KeepsRules, bindings_found, declaration_faults, design_faults, main_faults, main_number, module_faults, naming_faults, repeated_modules, system_with}
use Rattle.uc_declared_types.specs.AliasLaw.{IsAmong}
use Rattle.uc_uses.specs.KeptModules.{HasModules, RulesKeepModules}

none_some : {A B : Type 0} (x : B) → None ≡ Some x → A
none_some x h = cc

some_same : {A : Type 0} (x y : A) → Some x ≡ Some y → x ≡ y
some_same x y h = cc

-- a list of two parts that is empty
first_none : {A : Type 0} (xs ys : List A) → xs ++ ys ≡ [] → xs ≡ []
first_none [] ys h = refl
first_none (x ∷ xs) ys h = cc

second_none : {A : Type 0} (xs ys : List A) → xs ++ ys ≡ [] → ys ≡ []
second_none [] ys h = h
second_none (x ∷ xs) ys h = cc

each_none : {A B : Type 0} (f : A → List B) (x : A) (xs : List A) → IsAmong x xs → flat_map f xs ≡ [] → f x ≡ []
unfolding IsAmong
each_none f x [] among h = absurd among
each_none f x (y ∷ xs) among h = ⊎_elim (λ e. ap f e ∙ first_none (f y) (flat_map f xs) h) (λ r. each_none f x xs r (second_none (f y) (flat_map f xs) h)) among

-- the declaration of an instance
declared : (ds : List Decl) (i : InstanceParts) → IsAmong i (filter_map instance_in ds) → (d : Decl) × IsAmong d ds × (instance_in d ≡ Some i)
unfolding IsAmong
declared [] i h = absurd h
declared (d ∷ ds) i h = by (instance_in d) refl h (declared ds i)
  where
    by : (o : Option InstanceParts) → instance_in d ≡ o → IsAmong i (cons_option o (filter_map instance_in ds)) → (IsAmong i (filter_map instance_in ds) → (c : Decl) × IsAmong c ds × (instance_in c ≡ Some i)) → (c : Decl) × IsAmong c (d ∷ ds) × (instance_in c ≡ Some i)
    by None is h more = let r = more h in (r.0, inr r.1, r.2)
    by (Some p) is h more = ⊎_elim (λ e. (d, inl refl, is ∙ ap (λ q. Some q) (sym e))) (λ later. let r = more later in (r.0, inr r.1, r.2)) h

module _ (s : System) (m : Module) where
  there : (d : Decl) (i : InstanceParts) → declaration_faults s m d ≡ [] → instance_in d ≡ Some i → module_named s i.module_name ≡ None → ⊥
  there (Instance place x n bs) i none is away =
      let first = second_none _ (bindings_found s m x n bs (module_named s n.name)) none in
      let p : InstanceParts = record { name = x.name; module_name = n.name; bindings = bs } in
      unbroken (module_named s n.name) first (ap (λ (q : InstanceParts). module_named s q.module_name) (some_same p i is) ∙ away)
    where
      unbroken : (o : Option Module) → bindings_found s m x n bs o ≡ [] → o ≡ None → ⊥
      unbroken None h e = cc
      unbroken (Some c) h e = none_some c (sym e)
  there other i none is away = none_some i is

module _ (design : Contents) (main : List ℕ) (kept : KeepsRules design main) where
  abbrev s : System
  s = system_with design main

  behind_main : repeated_modules design.modules ++ flat_map (module_faults s) design.modules ≡ []
  unfolding design_faults
  behind_main = second_none (main_faults (main_number design main)) (repeated_modules design.modules ++ flat_map (module_faults s) design.modules) kept

  of_module : (m : Module) → IsAmong m design.modules → module_faults s m ≡ []
  of_module m among = each_none (module_faults s) m design.modules among (second_none (repeated_modules design.modules) (flat_map (module_faults s) design.modules) behind_main)

  pub kept_modules : HasModules s
  kept_modules m i among of away =
      let d = declared m.decls i of in
      let each = second_none (naming_faults s m ++ cycle_faults s m) (flat_map (declaration_faults s m) m.decls) (of_module m among) in
      there s m d.0 i (each_none (declaration_faults s m) d.0 m.decls d.1 each) d.2 away

pub rules_keep_modules : RulesKeepModules
rules_keep_modules design main kept = kept_modules design main kept
