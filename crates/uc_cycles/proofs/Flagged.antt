-- The flags of aliases and of modules.
use Rattle.std.proofs.Common.{◌≡◌, ℕ, ◌≤◌, Bool, true, false, List, [], ◌∷◌, length, map, Option, Some, None, refl, ap, sym, subst, ◌∙◌, arith}
use Rattle.std.specs.Prelude.{nat_eq, ◌&&◌, slice_get}
use Rattle.std.specs.List.{flat_map}
use Rattle.uc_meaning.specs.Lookup.{System}
use Rattle.uc_syntax.specs.declared.declaration.Module.{Module}
use Rattle.uc_rules.specs.Cycles.{TypeName, alias_steps, instance_steps, leads_to, on_alias_cycle, on_instance_cycle, same_type_name}
use Rattle.uc_rules.specs.Types.{longest_alias}
use Rattle.uc_declared_types.specs.AliasLaw.{IsAmong}
use Rattle.uc_declared_types.proofs.Among.{among_back}
use Rattle.uc_names.specs.Senses.{module_in}
use Rattle.uc_declared_types.specs.Names.{alias_names, names_in}
use Rattle.uc_declared_types.proofs.WayLawsAliases.{alias_followed, covers}
use Rattle.uc_declared_types.proofs.Instances.{instance_followed, module_names, named_module}
use Rattle.uc_graph.specs.Cycles.{MarksCycles}
use Rattle.uc_cycles.specs.declared.types.TypeKey.{TypeKey}
use Rattle.uc_cycles.specs.declared.types.TypeNumbers.{TypeNumbers}
use Rattle.uc_cycles.specs.declared.names.NameNumbers.{NameNumbers}
use Rattle.uc_cycles.specs.Numbers.{HasAliases, HasModules, KnowsNames, KnowsTypes, flag_at, key_name, key_of, listed, name_number, name_places, type_number, type_places}
use Rattle.uc_cycles.proofs.Lists.{equal, get_map, map_twice, module_at, same}
use Rattle.uc_cycles.proofs.Simulating.{Numbered, flagged}

both_parts : (b c : Bool) → (b && c) ≡ true → (b ≡ true) × (c ≡ true)
both_parts true c h = (refl, h)
both_parts false c h = nothing h
  where
    nothing : {A : Type 0} → false ≡ true → A
    nothing h = cc

name_is : (p q : TypeName) → same_type_name p q ≡ true → p ≡ q
name_is p q h =
    let b = both_parts (nat_eq p.0 q.0) (nat_eq p.1 q.1) h in
    let to_pair : (x y : ℕ) → x ≡ q.0 → y ≡ q.1 → (x, y) ≡ q = λ x y e f. ap (λ z. (z, y)) e ∙ ap (λ z. (q.0, z)) f in
    to_pair p.0 p.1 (equal p.0 q.0 b.0) (equal p.1 q.1 b.1)

is_name : (p : TypeName) → same_type_name p p ≡ true
is_name p = ap (λ b. b && nat_eq p.1 p.1) (same p.0) ∙ same p.1

module _ (s : System) where
  abbrev place_of : TypeNumbers → TypeName → Option ℕ
  place_of t p = type_number t (key_of p)

  alias_there : (t : TypeNumbers) (count : ℕ) → length s.modules ≤ count → HasAliases s count t → (p : TypeName) → IsAmong p (alias_names s) → (n : ℕ) × (place_of t p ≡ Some n)
  alias_there t count enough h p among =
      let b = among_back names_in p s.modules among in
      let k = module_at b.0 s.modules b.1 in
      h.there k.0 (omega (arith, k.1, enough)) p (subst (λ m. IsAmong p (names_in m)) (sym k.2) b.2)

  aliases_numbered : (t : TypeNumbers) (count : ℕ) → length s.modules ≤ count → HasAliases s count t → Numbered (alias_steps s) same_type_name (map key_name t.keys) (place_of t)
  unfolding KnowsTypes
  aliases_numbered t count enough h = record {
    stands = λ p n e. get_map key_name t.keys n (key_of p) (h.knows (key_of p) n e);
    all = λ p q among. alias_there t count enough h p (covers s p q among);
    eq_is = name_is;
    is_eq = is_name;
  }

  alias_edges : (t : TypeNumbers) (graph : List (List ℕ)) → graph ≡ map (λ k. type_places t (alias_steps s (key_name k))) t.keys →
      graph ≡ map (λ p. flat_map (λ q. listed (place_of t q)) (alias_steps s p)) (map key_name t.keys)
  unfolding type_places
  alias_edges t graph e = e ∙ map_twice (λ p. flat_map (λ q. listed (place_of t q)) (alias_steps s p)) key_name t.keys

  pub aliases_flagged : (t : TypeNumbers) (graph lent : List (List ℕ)) (flags : List Bool) (count : ℕ) → length s.modules ≤ count → HasAliases s count t → graph ≡ map (λ k. type_places t (alias_steps s (key_name k))) t.keys → lent ≡ graph → MarksCycles lent flags →
      (p : TypeName) → flag_at flags (place_of t p) ≡ on_alias_cycle s p
  aliases_flagged t graph lent flags count enough h e same_graph marks p =
      flagged (alias_steps s) same_type_name (map key_name t.keys) (place_of t) graph (alias_edges t graph e) (aliases_numbered t count enough h) flags (subst (λ g. MarksCycles g flags) same_graph marks) (longest_alias s)
      (λ q a n f. alias_followed s (same_type_name q) n a f) p

  name_there : (t : NameNumbers) (count : ℕ) → length s.modules ≤ count → HasModules s count t → (x y : ℕ) → IsAmong y (instance_steps s x) → (n : ℕ) × (name_number t x ≡ Some n)
  name_there t count enough h x y among =
      let b = named_module s x y among in
      let k = module_at b.0 s.modules b.1 in
      let r = h.there k.0 (omega (arith, k.1, enough)) in
      (r.0, ap (name_number t) (sym (ap (λ (m : Module). m.name) k.2 ∙ b.2)) ∙ r.1)

  names_numbered : (t : NameNumbers) (count : ℕ) → length s.modules ≤ count → HasModules s count t → Numbered (instance_steps s) nat_eq t.keys (name_number t)
  unfolding KnowsNames
  names_numbered t count enough h = record { stands = λ x n e. h.knows x n e; all = λ x y among. name_there t count enough h x y among; eq_is = equal; is_eq = same }

  name_edges : (t : NameNumbers) (graph : List (List ℕ)) → graph ≡ map (λ x. name_places t (instance_steps s x)) t.keys → graph ≡ map (λ x. flat_map (λ y. listed (name_number t y)) (instance_steps s x)) t.keys
  unfolding name_places
  name_edges t graph e = e

  pub modules_flagged : (t : NameNumbers) (graph lent : List (List ℕ)) (flags : List Bool) (count : ℕ) → length s.modules ≤ count → HasModules s count t → graph ≡ map (λ x. name_places t (instance_steps s x)) t.keys → lent ≡ graph → MarksCycles lent flags →
      (x : ℕ) → flag_at flags (name_number t x) ≡ on_instance_cycle s x
  modules_flagged t graph lent flags count enough h e same_graph marks x =
      flagged (instance_steps s) nat_eq t.keys (name_number t) graph (name_edges t graph e) (names_numbered t count enough h) flags (subst (λ g. MarksCycles g flags) same_graph marks) (length s.modules)
      (λ y a n f. instance_followed s (nat_eq y) n a f) x
