-- The steps from aliases and from modules, by what is found of their names.
use Rattle.std.proofs.Common.{◌≡◌, ℕ, ◌+◌, ◌<◌, ◌≤◌, List, [], ◌∷◌, ◌++◌, length, map, take, get_or, Option, Some, None, refl, ap, sym, subst, ◌∙◌}
use Rattle.std.specs.List.{flat_map, filter_map}
use Rattle.std.specs.Option.{option_map}
use Rattle.std.proofs.lemmas.List.{append-nil}
use Rattle.uc_syntax.specs.declared.type_expression.TypeExpr.{TypeExpr}
use Rattle.uc_syntax.specs.declared.declaration.Decl.{Decl}
use Rattle.uc_syntax.specs.declared.declaration.Decl.TheVariants.{Instance, TypeAlias}
use Rattle.uc_syntax.specs.declared.declaration.Binding.{Binding}
use Rattle.uc_syntax.specs.declared.place.Identifier.{Identifier}
use Rattle.uc_lexer.specs.declared.place.Place.{Place}
use Rattle.uc_syntax.specs.declared.declaration.Module.{Module}
use Rattle.uc_meaning.specs.Lookup.{System, InstanceParts, instance_in, instances_of, module_named}
use Rattle.uc_meaning.specs.Types.{TypeEntry, Alias, Opaque}
use Rattle.uc_rules.specs.Names.{type_of_module}
use Rattle.uc_rules.specs.Cycles.{TypeName, alias_cycle_in, alias_steps, alias_steps_from, alias_steps_in, entry_name, entry_steps, instance_steps, instance_steps_from, mentioned, name_of_module}
use Rattle.uc_names.specs.declared.senses.DeclaredType.{DeclaredType}
use Rattle.uc_names.specs.Senses.{declared_meant, entry_at, module_in}
use Rattle.uc_cycles.specs.declared.names.NameNumbers.{NameNumbers}
use Rattle.uc_cycles.specs.Numbers.{alias_of, alias_written, instance_name, instance_names, listed, name_number, name_places}
use Rattle.uc_cycles.proofs.Lists.{flat_all, flat_append, flat_more, joined, none_some, same_some}

module _ (s : System) where
  pub steps_missing : (p : TypeName) → None ≡ module_named s p.0 → alias_steps s p ≡ []
  steps_missing p h = ap (alias_steps_from s p.1) (sym h)

  pub steps_found : (p : TypeName) (home : ℕ) (d : Option DeclaredType) → Some (module_in s.modules home) ≡ module_named s p.0 → option_map (declared_meant s.modules) d ≡ type_of_module (module_in s.modules home) p.1 →
      alias_steps s p ≡ alias_steps_in s (option_map (declared_meant s.modules) d)
  steps_found p home d h declared = ap (alias_steps_from s p.1) (sym h) ∙ ap (alias_steps_in s) (sym declared)

  pub alias_none : (m : Module) (e : TypeEntry) → None ≡ alias_written e → entry_steps s m e ≡ []
  alias_none m (Alias type) h = none_some type h
  alias_none m Opaque h = refl

  pub alias_some : (m : Module) (e : TypeEntry) (t : TypeExpr) → Some t ≡ alias_written e → entry_steps s m e ≡ mentioned s m t
  alias_some m (Alias type) t h = ap (mentioned s m) (same_some type t (sym h))
  alias_some m Opaque t h = none_some t (sym h)

  pub no_other : (x owner : ℕ) → None ≡ module_named s owner → name_of_module x (module_named s owner) ≡ []
  no_other x owner h = ap (name_of_module x) (sym h)

  -- ---- instances

  module_names : List InstanceParts → List ℕ
  module_names is = map (λ i. i.module_name) is

  declared_names : (ds : List Decl) → map {B = ℕ} (λ i. i.module_name) (filter_map instance_in ds) ≡ instance_names ds
  declared_names [] = refl
  declared_names (Instance place i m bindings ∷ ds) = ap (λ ns. m.name ∷ ns) (declared_names ds)
  declared_names (other ∷ ds) = declared_names ds

  pub instances_missing : (x : ℕ) → None ≡ module_named s x → instance_steps s x ≡ []
  instances_missing x h = ap instance_steps_from (sym h)

  pub instances_found : (x home : ℕ) (ds : List Decl) → Some (module_in s.modules home) ≡ module_named s x → ds ≡ (module_in s.modules home).decls → instance_steps s x ≡ instance_names ds
  instances_found x home ds h is = ap instance_steps_from (sym h) ∙ declared_names (module_in s.modules home).decls ∙ ap instance_names (sym is)

pub no_instance : (d : Decl) → ((place : Place) (i n : Identifier) (bindings : List Binding) → d ≡ Instance place i n bindings → ⊥) → instance_name d ≡ []
no_instance (Instance place i n bindings) h = absurd (h place i n bindings refl)
no_instance other h = refl

pub no_alias : (owner : ℕ) (d : Decl) → ((place : Place) (i : Identifier) (t : TypeExpr) → d ≡ TypeAlias place i t → ⊥) → alias_of owner d ≡ []
no_alias owner (TypeAlias place i t) h = absurd (h place i t refl)
no_alias owner other h = refl

pub no_alias_cycle : (s : System) (m : Module) (d : Decl) → ((place : Place) (i : Identifier) (t : TypeExpr) → d ≡ TypeAlias place i t → ⊥) → alias_cycle_in s m d ≡ []
no_alias_cycle s m (TypeAlias place i t) h = absurd (h place i t refl)
no_alias_cycle s m other h = refl

pub names_nothing : (t : NameNumbers) (needs : List ℕ) → needs ≡ needs ++ name_places t []
unfolding name_places
names_nothing t needs = sym (append-nil needs)

pub names_none : (t : NameNumbers) → [] ≡ name_places t []
unfolding name_places
names_none t = refl

pub names_one : (t : NameNumbers) (x : ℕ) → name_places t (x ∷ []) ≡ listed (name_number t x)
unfolding name_places
names_one t x = append-nil (listed (name_number t x))

names_append : (t : NameNumbers) (xs ys : List ℕ) → name_places t (xs ++ ys) ≡ name_places t xs ++ name_places t ys
unfolding name_places
names_append t xs ys = flat_append (λ x. listed (name_number t x)) xs ys

pub names_more : (t : NameNumbers) (ds : List Decl) (k : ℕ) (d : Decl) (a b : List ℕ) → k < length ds → a ≡ name_places t (instance_names (take k ds)) → b ≡ a ++ name_places t (instance_name (get_or ds k d)) → b ≡ name_places t (instance_names (take (k + 1) ds))
names_more t ds k d a b within h g =
    g ∙ ap (λ ns. ns ++ name_places t (instance_name (get_or ds k d))) h ∙ sym (names_append t (instance_names (take k ds)) (instance_name (get_or ds k d))) ∙ ap (name_places t) (sym (flat_more instance_name ds k d within))

pub names_end : (t : NameNumbers) (ds : List Decl) (k : ℕ) (a : List ℕ) → length ds ≤ k → a ≡ name_places t (instance_names (take k ds)) → a ≡ name_places t (instance_names ds)
names_end t ds k a past h = h ∙ ap (name_places t) (flat_all instance_name ds k past)
