-- The names of the aliases of a design.
use Rattle.std.proofs.Common.{◌≡◌, ℕ, ◌+◌, ◌≤◌, Bool, true, false, List, [], ◌∷◌, ◌++◌, length, Option, Some, None, refl, ap, sym, subst, ◌∙◌, arith, inl, inr}
use Rattle.std.specs.Prelude.{nat_eq, cond, unwrap_or}
use Rattle.std.specs.List.{flat_map, find}
use Rattle.std.specs.Option.{option_map}
use Rattle.std.proofs.lemmas.List.{length-append}
use Rattle.uc_syntax.specs.declared.declaration.Decl.{Decl}
use Rattle.uc_syntax.specs.declared.declaration.Decl.TheVariants.{TypeAlias, OpaqueType}
use Rattle.uc_syntax.specs.declared.declaration.Module.{Module}
use Rattle.uc_syntax.specs.declared.place.Identifier.{Identifier}
use Rattle.uc_syntax.specs.declared.type_expression.TypeExpr.{TypeExpr}
use Rattle.uc_meaning.specs.Lookup.{System, first_some, is_named, module_named, or_else, some_if}
use Rattle.uc_meaning.specs.Types.{TypeEntry, Alias, Opaque, type_entry, type_in}
use Rattle.uc_rules.specs.Cycles.{TypeName, alias_steps, alias_steps_in, alias_steps_from, entry_steps, leads_to}
use Rattle.uc_rules.specs.Names.{type_of_module}
use Rattle.uc_rules.specs.Types.{longest_alias}
use Rattle.uc_declared_types.specs.AliasLaw.{IsAmong}
use Rattle.uc_declared_types.proofs.Among.{among_flat, find_among}
use Rattle.uc_declared_types.specs.CycleLaws.{AliasWaysAreFollowed}
use Rattle.uc_declared_types.specs.Names.{alias_name, alias_names, names_in}
use Rattle.uc_declared_types.proofs.Along.{nothing}
use Rattle.uc_declared_types.proofs.Following.{followed}

-- ---- there are no more than declarations

one_most : (m : Module) (d : Decl) → length (alias_name m d) ≤ 1
one_most m (TypeAlias place i type) = omega arith
one_most m other = omega arith

module_most : (m : Module) (ds : List Decl) → length (flat_map (alias_name m) ds) ≤ length ds
module_most m [] = omega arith
module_most m (d ∷ ds) = omega (arith, length-append (alias_name m d) (flat_map (alias_name m) ds), one_most m d, module_most m ds)

design_most : (ms : List Module) → length (flat_map names_in ms) ≤ length (flat_map (λ m. m.decls) ms)
design_most [] = omega arith
design_most (m ∷ ms) =
    omega (arith, length-append (names_in m) (flat_map names_in ms), length-append m.decls (flat_map (λ n. n.decls) ms), module_most m m.decls, design_most ms)

-- ---- what has steps is one of them

equal : (n m : ℕ) → nat_eq n m ≡ true → n ≡ m
equal n m h = grind (arith, h)

none_some : {A : Type 0} (e : TypeEntry) → None ≡ Some e → A
none_some e h = cc

opaque_alias : {A : Type 0} (type : TypeExpr) → Some Opaque ≡ Some (Alias type) → A
opaque_alias type h = cc

alias_first : (m : Module) (x : ℕ) (i : Identifier) (t type : TypeExpr) (o : Option TypeEntry) (rest : List TypeName) (b : Bool) → nat_eq i.name x ≡ b → or_else (some_if b (Alias t)) o ≡ Some (Alias type) → (o ≡ Some (Alias type) → IsAmong (m.name, x) rest) →
    IsAmong (m.name, x) ((m.name, i.name) ∷ rest)
unfolding IsAmong
alias_first m x i t type o rest true is h more = inl (ap (λ y. (m.name, y)) (sym (equal i.name x is)))
alias_first m x i t type o rest false is h more = inr (more h)

opaque_first : (m : Module) (x : ℕ) (type : TypeExpr) (o : Option TypeEntry) (rest : List TypeName) (b : Bool) → or_else (some_if b Opaque) o ≡ Some (Alias type) → (o ≡ Some (Alias type) → IsAmong (m.name, x) rest) → IsAmong (m.name, x) rest
opaque_first m x type o rest true h more = opaque_alias type h
opaque_first m x type o rest false h more = more h

named : (m : Module) (x : ℕ) (type : TypeExpr) (ds : List Decl) → first_some (type_in x) ds ≡ Some (Alias type) → IsAmong (m.name, x) (flat_map (alias_name m) ds)
unfolding first_some
named m x type [] h = none_some (Alias type) h
named m x type (TypeAlias place i t ∷ ds) h = alias_first m x i t type (first_some (type_in x) ds) (flat_map (alias_name m) ds) (nat_eq i.name x) refl h (named m x type ds)
named m x type (OpaqueType place i ∷ ds) h = opaque_first m x type (first_some (type_in x) ds) (flat_map (alias_name m) ds) (nat_eq i.name x) h (named m x type ds)
named m x type (other ∷ ds) h = named m x type ds h

module _ (system : System) where
  in_module : (m : Module) (x : ℕ) (y : TypeName) (o : Option TypeEntry) → type_entry m x ≡ o → IsAmong y (alias_steps_in system (option_map (λ entry. (m, entry)) o)) → IsAmong (m.name, x) (names_in m)
  unfolding IsAmong
  in_module m x y None is h = absurd h
  in_module m x y (Some Opaque) is h = absurd h
  in_module m x y (Some (Alias type)) is h = named m x type m.decls is

  pub find_name : (n : ℕ) (ms : List Module) (m : Module) → find (λ k. nat_eq k.name n) ms ≡ Some m → m.name ≡ n
  find_name n [] m h = none_module m h
    where
      none_module : {A : Type 0} (m : Module) → None ≡ Some m → A
      none_module m h = cc
  find_name n (k ∷ ms) m h = by_name n k ms m (nat_eq k.name n) refl h (find_name n ms m)
    where
      by_name : (n : ℕ) (k : Module) (ms : List Module) (m : Module) (b : Bool) → nat_eq k.name n ≡ b → cond b (Some k) (find (λ k. nat_eq k.name n) ms) ≡ Some m → (find (λ k. nat_eq k.name n) ms ≡ Some m → m.name ≡ n) → m.name ≡ n
      by_name n k ms m true is h more = ap (λ (q : Module). q.name) (sym (ap (λ o. unwrap_or o k) h)) ∙ equal k.name n is
      by_name n k ms m false is h more = more h

  in_design : (p y : TypeName) (o : Option Module) → module_named system p.0 ≡ o → IsAmong y (alias_steps_from system p.1 o) → IsAmong p (alias_names system)
  unfolding IsAmong
  in_design p y None is h = absurd h
  in_design p y (Some m) is h =
      let there = among_flat names_in m (m.name, p.1) system.modules (find_among (λ k. nat_eq k.name p.0) system.modules m is) (in_module m p.1 y (type_entry m p.1) refl h) in
      subst (λ x. IsAmong (x, p.1) (alias_names system)) (find_name p.0 system.modules m is) there

  pub covers : (p y : TypeName) → IsAmong y (alias_steps system p) → IsAmong p (alias_names system)
  covers p y h = in_design p y (module_named system p.0) refl h

  pub alias_followed : (test : TypeName → Bool) (n : ℕ) (p : TypeName) → leads_to n (alias_steps system) test p ≡ true → leads_to (longest_alias system) (alias_steps system) test p ≡ true
  alias_followed test n p h = followed (alias_steps system) test (alias_names system) covers (longest_alias system) (design_most system.modules) n p h

pub alias_ways_are_followed : AliasWaysAreFollowed
alias_ways_are_followed system test n p h = alias_followed system test n p h
