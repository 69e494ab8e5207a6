-- Each alias that a type's name stands for is declared in the design.
use Rattle.std.proofs.Common.{◌≡◌, ℕ, ◌+◌, Bool, true, false, List, [], ◌∷◌, ◌++◌, Option, Some, None, map, refl, ap, sym, subst, ◌∙◌, inl, inr}
use Rattle.std.specs.Prelude.{nat_eq}
use Rattle.std.specs.List.{flat_map, find}
use Rattle.std.specs.Option.{option_map}
use Rattle.uc_lexer.specs.declared.place.Place.{Place}
use Rattle.uc_syntax.specs.declared.place.Identifier.{Identifier}
use Rattle.uc_syntax.specs.declared.type_expression.Parameter.{Parameter}
use Rattle.uc_syntax.specs.declared.type_expression.TypeExpr.{TypeExpr}
use Rattle.uc_syntax.specs.declared.type_expression.TypeExpr.TheOpen.{TypeExpr-F}
use Rattle.uc_syntax.specs.declared.type_expression.TypeExpr.TheOpen.TypeExpr-F.{Boolean, Integer, Bits, Enumeration, Record, Array, Named, OfModule}
use Rattle.uc_syntax.specs.declared.type_expression.TypeExpr.TheViews.{roll-TypeExpr}
use Rattle.uc_syntax.specs.declared.type_expression.TypeExpr.TheFolds.{map-TypeExpr, fold-TypeExpr, fold-roll-TypeExpr, ind-TypeExpr}
use Rattle.uc_syntax.specs.declared.declaration.Decl.{Decl}
use Rattle.uc_syntax.specs.declared.declaration.Decl.TheVariants.{OpaqueType, TypeAlias, TypeImport, Variables, Function, Define, Procedure, Instance, Invariant, Axiom, Hyperinvariant, Hyperaxiom}
use Rattle.uc_syntax.specs.declared.declaration.Module.{Module}
use Rattle.uc_syntax.specs.WrittenTypes.{types_in, enums_of_module}
use Rattle.uc_meaning.specs.Lookup.{System, first_some, or_else, some_if, is_named, module_named}
use Rattle.uc_meaning.specs.Types.{TypeEntry, Alias, Opaque, enum_number, type_in, type_entry}
use Rattle.uc_rules.specs.Names.{Entry, Sense, SenseVariable, enters, name_at, as_type, first_fitting, formula_name, is_entry, labels_brought, labels_form, labels_from, labels_in, names_in, names_of, only_if, type_brought, type_named, type_of_module, types_brought}
use Rattle.uc_declared_types.specs.AliasLaw.{IsAmong, alias_in, aliases_of, aliases_of_module}
use Rattle.uc_declared_types.proofs.Among.{among_flat, find_among, Every, every_append, every_flat, every_map, every_none, every_one}

-- ---- a layer with each part changed

abbrev pub each_parameter : {A B : Type 0} → (A → B) → Parameter A → Parameter B
each_parameter f p = record { identifier = p.identifier; ty = f p.ty }

abbrev fields_in : {X : Type 0} → TypeExpr-F X → List (Parameter X)
fields_in (Record p fields) = fields
fields_in other = []

fields_of : {A B : Type 0} (f : A → B) (p : Place) (fields : List (Parameter A)) → fields_in (map-TypeExpr A B f (Record p fields)) ≡ map (each_parameter f) fields
fields_of f p [] = refl
fields_of f p (x ∷ fields) = ap (λ z. each_parameter f x ∷ z) (fields_of f p fields)

pub map_record : {A B : Type 0} (f : A → B) (p : Place) (fields : List (Parameter A)) → map-TypeExpr A B f (Record p fields) ≡ Record p (map (each_parameter f) fields)
map_record {A} {B} f p fields = ap (λ (z : List (Parameter B)). TypeExpr-F.Record p z) (fields_of f p fields)

-- what a type's name stands for is declared in the design, where it is an alias
unfoldable pub EntryDeclared : System → Module → TypeEntry → Type 0
EntryDeclared system m (Alias type) = IsAmong (m, type) (aliases_of system)
EntryDeclared system m Opaque = Unit {0}

unfoldable pub IsDeclared : System → Option (Module × TypeEntry) → Type 0
IsDeclared system None = Unit {0}
IsDeclared system (Some p) = EntryDeclared system p.0 p.1

abbrev Declared : System → Entry → Type 0
Declared system e = IsDeclared system (as_type e.sense)

module _ (system : System) where
  alias_there : (m : Module) (ds : List Decl) (place : Place) (i : Identifier) (type : TypeExpr) → IsAmong (TypeAlias place i type) ds → IsAmong (m, type) (flat_map (alias_in m) ds)
  unfolding IsAmong
  alias_there m ds place i type h = among_flat (alias_in m) (TypeAlias place i type) (m, type) ds h (inl refl)

  -- an alias of a module of the design
  pub alias_declared : (m : Module) (place : Place) (i : Identifier) (type : TypeExpr) → IsAmong m system.modules → IsAmong (TypeAlias place i type) m.decls → IsAmong (m, type) (aliases_of system)
  alias_declared m place i type there h = among_flat aliases_of_module m (m, type) system.modules there (alias_there m m.decls place i type h)

  labels_declared : (e k : ℕ) (ls : List Identifier) → Every (Declared system) (labels_from e k ls)
  unfolding Every IsDeclared
  labels_declared e k [] = tt
  labels_declared e k (l ∷ ls) = (tt, labels_declared e (k + 1) ls)

  brought_declared : (place : Place) (o : Option Module) → Every (Declared system) (labels_brought system place o)
  brought_declared place None = every_none (Declared system)
  brought_declared place (Some m) =
      every_flat (Declared system) (λ e. labels_from (enum_number system e.place) 0 (map (name_at place) e.labels)) (enums_of_module m)
      (λ e h. labels_declared (enum_number system e.place) 0 (map (name_at place) e.labels))

  -- labels are no types
  abbrev NoTypes : TypeExpr → Type 0
  NoTypes t = Every (Declared system) (labels_in system t)

  abbrev Child : Type 0
  Child = (t : TypeExpr) × NoTypes t

  abbrev tree : Child → TypeExpr
  tree c = c.0

  abbrev layer : TypeExpr-F Child → TypeExpr-F TypeExpr
  layer y = map-TypeExpr Child TypeExpr tree y

  abbrev labels_of_layer : TypeExpr-F Child → List Entry
  labels_of_layer y = labels_form system (map-TypeExpr TypeExpr (List Entry) (labels_in system) (layer y))

  fields_declared : (cs : List (Parameter Child)) → Every (Declared system) (flat_map (λ p. p.ty) (map (each_parameter (labels_in system)) (map (each_parameter tree) cs)))
  fields_declared [] = every_none (Declared system)
  fields_declared (c ∷ cs) =
      every_append (Declared system) (labels_in system c.ty.0) (flat_map (λ p. p.ty) (map (each_parameter (labels_in system)) (map (each_parameter tree) cs))) c.ty.1 (fields_declared cs)

  record_labels : (p : Place) (cs : List (Parameter Child)) → labels_of_layer (Record p cs) ≡ flat_map (λ q. q.ty) (map (each_parameter (labels_in system)) (map (each_parameter tree) cs))
  record_labels p cs =
      ap (λ z. labels_form system (map-TypeExpr TypeExpr (List Entry) (labels_in system) z)) (map_record tree p cs)
      ∙ ap (labels_form system) (map_record (labels_in system) p (map (each_parameter tree) cs))

  layer_declared : (y : TypeExpr-F Child) → Every (Declared system) (labels_of_layer y)
  layer_declared (Boolean p) = every_none (Declared system)
  layer_declared (Integer p) = every_none (Declared system)
  layer_declared (Bits p w) = every_none (Declared system)
  layer_declared (Enumeration p is) = labels_declared (enum_number system p) 0 is
  layer_declared (Record p cs) = subst (Every (Declared system)) (sym (record_labels p cs)) (fields_declared cs)
  layer_declared (Array p i e) = every_append (Declared system) (labels_in system i.0) (labels_in system e.0) i.1 e.1
  layer_declared (Named p n) = every_none (Declared system)
  layer_declared (OfModule p m i) = brought_declared p (module_named system m)

  step : (y : TypeExpr-F Child) → NoTypes (roll-TypeExpr (layer y))
  unfolding labels_in
  step y = subst (Every (Declared system)) (sym (fold-roll-TypeExpr (List Entry) (labels_form system) (layer y))) (layer_declared y)

  labels_in_declared : (t : TypeExpr) → NoTypes t
  labels_in_declared = ind-TypeExpr NoTypes (λ x y is. subst (λ z. NoTypes (roll-TypeExpr z)) is (step y))

  -- the types of a module of the design
  type_declared : (place : Place) (m : Module) (d : Decl) → IsAmong m system.modules → IsAmong d m.decls → Every (Declared system) (type_brought place m d)
  unfolding Every IsDeclared EntryDeclared
  type_declared place m (OpaqueType p i) there h = (tt, tt)
  type_declared place m (TypeAlias p i type) there h = (alias_declared m p i type there h, tt)
  type_declared place m other there h = tt

  types_declared : (place : Place) (o : Option Module) → ((m : Module) → o ≡ Some m → IsAmong m system.modules) → Every (Declared system) (types_brought place o)
  types_declared place None there = every_none (Declared system)
  types_declared place (Some m) there = every_flat (Declared system) (type_brought place m) m.decls (λ d h. type_declared place m d (there m refl) h)

  pub module_there : (n : ℕ) (m : Module) → module_named system n ≡ Some m → IsAmong m system.modules
  module_there n m h = find_among (λ k. nat_eq k.name n) system.modules m h

  variables_declared : (is : List Identifier) (f : Identifier → Entry) → ((i : Identifier) → Declared system (f i)) → Every (Declared system) (map f is)
  variables_declared is f h = every_map (Declared system) f is h

  names_declared : (m : Module) (d : Decl) → IsAmong m system.modules → IsAmong d m.decls → Every (Declared system) (names_of system m d)
  unfolding Every IsDeclared EntryDeclared
  names_declared m (OpaqueType place i) there h = (tt, tt)
  names_declared m (TypeAlias place i type) there h = (alias_declared m place i type there h, tt)
  names_declared m (TypeImport place n) there h =
      every_append (Declared system) (types_brought place (module_named system n.name)) (labels_brought system place (module_named system n.name))
      (types_declared place (module_named system n.name) (module_there n.name)) (brought_declared place (module_named system n.name))
  names_declared m (Variables place kind is type) there h = every_map (Declared system) (λ i. enters i (SenseVariable kind type)) is (λ i. tt)
  names_declared m (Function place i ps type) there h = (tt, tt)
  names_declared m (Define place i ps type body) there h = (tt, tt)
  names_declared m (Procedure place p) there h = (tt, tt)
  names_declared m (Instance place i n bindings) there h = (tt, tt)
  names_declared m (Invariant place i e) there h = (tt, tt)
  names_declared m (Axiom place None e) there h = tt
  names_declared m (Axiom place (Some i) e) there h = (tt, tt)
  names_declared m (Hyperinvariant place n i e) there h = (tt, tt)
  names_declared m (Hyperaxiom place n i e) there h = (tt, tt)
  names_declared m other there h = tt

  all_declared : (m : Module) → IsAmong m system.modules → Every (Declared system) (names_in system m)
  unfolding names_in
  all_declared m there =
      every_flat (Declared system) (λ d. names_of system m d ++ flat_map (labels_in system) (types_in d)) m.decls
      (λ d h. every_append (Declared system) (names_of system m d) (flat_map (labels_in system) (types_in d)) (names_declared m d there h)
      (every_flat (Declared system) (labels_in system) (types_in d) (λ t k. labels_in_declared t)))

  or_declared : (o p : Option (Module × TypeEntry)) → IsDeclared system o → IsDeclared system p → IsDeclared system (or_else o p)
  or_declared None p h k = k
  or_declared (Some x) p h k = h

  only_declared : (b : Bool) (o : Option (Module × TypeEntry)) → IsDeclared system o → IsDeclared system (only_if b o)
  unfolding IsDeclared
  only_declared true o h = h
  only_declared false o h = tt

  first_declared : (x : ℕ) (es : List Entry) → Every (Declared system) es → IsDeclared system (first_fitting as_type x es)
  unfolding Every IsDeclared first_fitting first_some
  first_declared x [] h = tt
  first_declared x (e ∷ es) h =
      or_declared (only_if (is_entry x e) (as_type e.sense)) (first_fitting as_type x es) (only_declared (is_entry x e) (as_type e.sense) h.0) (first_declared x es h.1)

  -- what a type's name stands for in a module of the design
  pub name_declared : (m : Module) (x : ℕ) → IsAmong m system.modules → IsDeclared system (type_named system m x)
  name_declared m x there = first_declared x (names_in system m) (all_declared m there)

  paired : Module → Option TypeEntry → Option (Module × TypeEntry)
  paired m o = option_map (λ entry. (m, entry)) o

  either_declared : (m : Module) (o p : Option TypeEntry) → IsDeclared system (paired m o) → IsDeclared system (paired m p) → IsDeclared system (paired m (or_else o p))
  unfolding paired
  either_declared m None p h k = k
  either_declared m (Some x) p h k = h

  if_declared : (m : Module) (b : Bool) (e : TypeEntry) → EntryDeclared system m e → IsDeclared system (paired m (some_if b e))
  unfolding paired IsDeclared
  if_declared m true e h = h
  if_declared m false e h = tt

  in_declared : (m : Module) (x : ℕ) (d : Decl) → IsAmong m system.modules → IsAmong d m.decls → IsDeclared system (paired m (type_in x d))
  unfolding paired IsDeclared EntryDeclared
  in_declared m x (TypeAlias place i type) there h = if_declared m (is_named x i) (Alias type) (alias_declared m place i type there h)
  in_declared m x (OpaqueType place i) there h = if_declared m (is_named x i) Opaque tt
  in_declared m x other there h = tt

  own_declared : (m : Module) (x : ℕ) (ds : List Decl) → IsAmong m system.modules → ((d : Decl) → IsAmong d ds → IsAmong d m.decls) → IsDeclared system (paired m (first_some (type_in x) ds))
  unfolding first_some paired IsDeclared IsAmong
  own_declared m x [] there h = tt
  own_declared m x (d ∷ ds) there h =
      either_declared m (type_in x d) (first_some (type_in x) ds) (in_declared m x d there (h d (inl refl))) (own_declared m x ds there (λ e k. h e (inr k)))

  -- what a type's name stands for as `m.t` means it
  pub of_module_declared : (m : Module) (x : ℕ) → IsAmong m system.modules → IsDeclared system (type_of_module m x)
  unfolding paired
  of_module_declared m x there = own_declared m x m.decls there (λ d h. h)
