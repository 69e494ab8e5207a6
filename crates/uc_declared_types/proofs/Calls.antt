-- What is called is said by a declaration of the module itself.
use Rattle.std.proofs.Common.{◌≡◌, ℕ, zero, suc, ◌+◌, ◌≤◌, Bool, true, false, List, [], ◌∷◌, ◌++◌, length, map, Option, Some, None, refl, ap, sym, subst, ◌∙◌, arith, ◌⊎◌, inl, inr}
use Rattle.std.specs.Prelude.{nat_eq}
use Rattle.std.specs.List.{flat_map}
use Rattle.std.proofs.lemmas.List.{length-append}
use Rattle.uc_lexer.specs.declared.place.Place.{Place}
use Rattle.uc_syntax.specs.declared.place.Identifier.{Identifier}
use Rattle.uc_syntax.specs.declared.type_expression.Parameter.{Parameter}
use Rattle.uc_syntax.specs.declared.type_expression.TypeExpr.{TypeExpr}
use Rattle.uc_syntax.specs.declared.type_expression.TypeExpr.TheOpen.{TypeExpr-F}
use Rattle.uc_syntax.specs.declared.type_expression.TypeExpr.TheOpen.TypeExpr-F.{Boolean, Integer, Bits, Enumeration, Record, Array, Named, OfModule}
use Rattle.uc_syntax.specs.declared.type_expression.TypeExpr.TheViews.{roll-TypeExpr}
use Rattle.uc_syntax.specs.declared.type_expression.TypeExpr.TheFolds.{map-TypeExpr, fold-TypeExpr, fold-roll-TypeExpr, ind-TypeExpr}
use Rattle.uc_syntax.specs.declared.declaration.Decl.{Decl}
use Rattle.uc_syntax.specs.declared.declaration.Decl.TheVariants.{OpaqueType, TypeAlias, TypeImport, Variables, Function, Define, Procedure, Instance, Invariant, Axiom, Hyperinvariant, Hyperaxiom}
use Rattle.uc_syntax.specs.declared.declaration.VariableKind.{VariableKind}
use Rattle.uc_syntax.specs.declared.declaration.Module.{Module}
use Rattle.uc_syntax.specs.WrittenTypes.{types_in, enums_of_module}
use Rattle.uc_meaning.specs.Lookup.{System, Defined, Signature, first_some, is_named, module_named, or_else, some_if}
use Rattle.uc_meaning.specs.Types.{enum_number}
use Rattle.uc_rules.specs.Names.{Called, CalledFunction, CalledDefine, Entry, SenseVariable, as_called, called_named, enters, first_fitting, is_entry, labels_brought, labels_form, labels_from, labels_in, name_at, names_in, names_of, only_if, type_brought, types_brought}
use Rattle.uc_declared_types.specs.AliasLaw.{IsAmong}
use Rattle.uc_declared_types.proofs.Among.{Every, every_append, every_flat, every_map, every_none}
use Rattle.uc_declared_types.proofs.Declared.{each_parameter, map_record}
use Rattle.uc_declared_types.specs.WayLaws.{CallsAreDeclared, called_in}

-- an entry that takes no arguments
abbrev NoCall : Entry → Type 0
NoCall e = as_called e.sense ≡ None

or_none : {B : Type 0} (o : Option B) → or_else o None ≡ o
or_none None = refl
or_none (Some x) = refl

or_assoc : {B : Type 0} (o p q : Option B) → or_else (or_else o p) q ≡ or_else o (or_else p q)
or_assoc None p q = refl
or_assoc (Some x) p q = refl

abbrev called_among : ℕ → List Entry → Option Called
called_among x es = first_fitting as_called x es

called_append : (x : ℕ) (es fs : List Entry) → called_among x (es ++ fs) ≡ or_else (called_among x es) (called_among x fs)
unfolding first_fitting first_some
called_append x [] fs = refl
called_append x (e ∷ es) fs = ap (or_else (only_if (is_entry x e) (as_called e.sense))) (called_append x es fs) ∙ sym (or_assoc (only_if (is_entry x e) (as_called e.sense)) (called_among x es) (called_among x fs))

only_none : (b : Bool) → only_if {B = Called} b None ≡ None
only_none true = refl
only_none false = refl

-- entries that take no arguments say nothing of calls
no_calls : (x : ℕ) (es : List Entry) → Every NoCall es → called_among x es ≡ None
unfolding Every first_fitting first_some
no_calls x [] h = refl
no_calls x (e ∷ es) h =
    ap (λ o. or_else (only_if (is_entry x e) o) (called_among x es)) h.0
    ∙ ap (λ o. or_else o (called_among x es)) (only_none (is_entry x e))
    ∙ no_calls x es h.1

module _ (system : System) where
  labels_no_call : (e k : ℕ) (ls : List Identifier) → Every NoCall (labels_from e k ls)
  unfolding Every
  labels_no_call e k [] = tt
  labels_no_call e k (l ∷ ls) = (refl, labels_no_call e (k + 1) ls)

  brought_no_call : (place : Place) (o : Option Module) → Every NoCall (labels_brought system place o)
  brought_no_call place None = every_none NoCall
  brought_no_call place (Some m) =
      every_flat NoCall (λ e. labels_from (enum_number system e.place) 0 (map (name_at place) e.labels)) (enums_of_module m)
      (λ e h. labels_no_call (enum_number system e.place) 0 (map (name_at place) e.labels))

  -- labels take no arguments
  abbrev NoLabelCalls : TypeExpr → Type 0
  NoLabelCalls t = Every NoCall (labels_in system t)

  abbrev Child : Type 0
  Child = (t : TypeExpr) × NoLabelCalls t

  abbrev tree : Child → TypeExpr
  tree c = c.0

  abbrev layer : TypeExpr-F Child → TypeExpr-F TypeExpr
  layer y = map-TypeExpr Child TypeExpr tree y

  abbrev labels_of_layer : TypeExpr-F Child → List Entry
  labels_of_layer y = labels_form system (map-TypeExpr TypeExpr (List Entry) (labels_in system) (layer y))

  fields_no_call : (cs : List (Parameter Child)) → Every NoCall (flat_map (λ p. p.ty) (map (each_parameter (labels_in system)) (map (each_parameter tree) cs)))
  fields_no_call [] = every_none NoCall
  fields_no_call (c ∷ cs) =
      every_append NoCall (labels_in system c.ty.0) (flat_map (λ p. p.ty) (map (each_parameter (labels_in system)) (map (each_parameter tree) cs))) c.ty.1 (fields_no_call cs)

  record_labels : (p : Place) (cs : List (Parameter Child)) → labels_of_layer (Record p cs) ≡ flat_map (λ q. q.ty) (map (each_parameter (labels_in system)) (map (each_parameter tree) cs))
  record_labels p cs =
      ap (λ z. labels_form system (map-TypeExpr TypeExpr (List Entry) (labels_in system) z)) (map_record tree p cs)
      ∙ ap (labels_form system) (map_record (labels_in system) p (map (each_parameter tree) cs))

  layer_no_call : (y : TypeExpr-F Child) → Every NoCall (labels_of_layer y)
  layer_no_call (Boolean p) = every_none NoCall
  layer_no_call (Integer p) = every_none NoCall
  layer_no_call (Bits p w) = every_none NoCall
  layer_no_call (Enumeration p is) = labels_no_call (enum_number system p) 0 is
  layer_no_call (Record p cs) = subst (Every NoCall) (sym (record_labels p cs)) (fields_no_call cs)
  layer_no_call (Array p i e) = every_append NoCall (labels_in system i.0) (labels_in system e.0) i.1 e.1
  layer_no_call (Named p n) = every_none NoCall
  layer_no_call (OfModule p m i) = brought_no_call p (module_named system m)

  step : (y : TypeExpr-F Child) → NoLabelCalls (roll-TypeExpr (layer y))
  unfolding labels_in
  step y = subst (Every NoCall) (sym (fold-roll-TypeExpr (List Entry) (labels_form system) (layer y))) (layer_no_call y)

  labels_in_no_call : (t : TypeExpr) → NoLabelCalls t
  labels_in_no_call = ind-TypeExpr NoLabelCalls (λ x y is. subst (λ z. NoLabelCalls (roll-TypeExpr z)) is (step y))

  written_no_call : (ts : List TypeExpr) → Every NoCall (flat_map (labels_in system) ts)
  written_no_call ts = every_flat NoCall (labels_in system) ts (λ t h. labels_in_no_call t)

  type_no_call : (place : Place) (m : Module) (d : Decl) → Every NoCall (type_brought place m d)
  unfolding Every
  type_no_call place m (OpaqueType p i) = (refl, tt)
  type_no_call place m (TypeAlias p i type) = (refl, tt)
  type_no_call place m other = tt

  types_no_call : (place : Place) (o : Option Module) → Every NoCall (types_brought place o)
  types_no_call place None = every_none NoCall
  types_no_call place (Some m) = every_flat NoCall (type_brought place m) m.decls (λ d h. type_no_call place m d)

  variables_no_call : (kind : VariableKind) (type : TypeExpr) (is : List Identifier) → Every NoCall (map (λ i. enters i (SenseVariable kind type)) is)
  variables_no_call kind type is = every_map NoCall (λ i. enters i (SenseVariable kind type)) is (λ i. refl)

  one_call : (b : Bool) (o : Option Called) → or_else (only_if b o) None ≡ only_if b o
  one_call b o = or_none (only_if b o)

  some_only : (b : Bool) (c : Called) → or_else (only_if b (Some c)) None ≡ some_if b c
  some_only true c = refl
  some_only false c = refl

  other_call : (b : Bool) → or_else (only_if {B = Called} b None) None ≡ None
  other_call true = refl
  other_call false = refl

  -- what a declaration says of a call, by the names that it begins with
  by_declaration : (m : Module) (x : ℕ) (d : Decl) → called_among x (names_of system m d) ≡ called_in x d
  unfolding first_fitting first_some
  by_declaration m x (OpaqueType place i) = other_call (nat_eq i.name x)
  by_declaration m x (TypeAlias place i type) = other_call (nat_eq i.name x)
  by_declaration m x (TypeImport place n) =
      no_calls x (names_of system m (TypeImport place n))
      (every_append NoCall (types_brought place (module_named system n.name)) (labels_brought system place (module_named system n.name))
      (types_no_call place (module_named system n.name)) (brought_no_call place (module_named system n.name)))
  by_declaration m x (Variables place kind is type) = no_calls x (names_of system m (Variables place kind is type)) (variables_no_call kind type is)
  by_declaration m x (Function place i ps type) = some_only (nat_eq i.name x) (CalledFunction (record { parameters = ps; type = type }))
  by_declaration m x (Define place i ps type body) = some_only (nat_eq i.name x) (CalledDefine (record { parameters = ps; type = type; body = body }))
  by_declaration m x (Procedure place p) = other_call (nat_eq p.identifier.name x)
  by_declaration m x (Instance place i n bindings) = other_call (nat_eq i.name x)
  by_declaration m x (Invariant place i e) = other_call (nat_eq i.name x)
  by_declaration m x (Axiom place None e) = refl
  by_declaration m x (Axiom place (Some i) e) = other_call (nat_eq i.name x)
  by_declaration m x (Hyperinvariant place n i e) = other_call (nat_eq i.name x)
  by_declaration m x (Hyperaxiom place n i e) = other_call (nat_eq i.name x)
  by_declaration m x other = refl

  abbrev names_with : Module → Decl → List Entry
  names_with m d = names_of system m d ++ flat_map (labels_in system) (types_in d)

  by_declarations : (m : Module) (x : ℕ) (ds : List Decl) → called_among x (flat_map (names_with m) ds) ≡ first_some (called_in x) ds
  unfolding first_some
  by_declarations m x [] = no_calls x [] (every_none NoCall)
  by_declarations m x (d ∷ ds) =
      called_append x (names_with m d) (flat_map (names_with m) ds)
      ∙ ap (λ o. or_else o (called_among x (flat_map (names_with m) ds)))
      (called_append x (names_of system m d) (flat_map (labels_in system) (types_in d))
      ∙ ap (λ o. or_else (called_among x (names_of system m d)) o) (no_calls x (flat_map (labels_in system) (types_in d)) (written_no_call (types_in d)))
      ∙ or_none (called_among x (names_of system m d))
      ∙ by_declaration m x d)
      ∙ ap (or_else (called_in x d)) (by_declarations m x ds)

  pub call_declared : (m : Module) (x : ℕ) → called_named system m x ≡ first_some (called_in x) m.decls
  unfolding names_in
  call_declared m x = by_declarations m x m.decls

pub calls_are_declared : CallsAreDeclared
calls_are_declared system m x = call_declared system m x

-- ---- the names of defines

abbrev defined_name : Decl → List ℕ
defined_name (Define place i ps type body) = i.name ∷ []
defined_name other = []

abbrev pub defined_names : List Decl → List ℕ
defined_names ds = flat_map defined_name ds

one_most : (d : Decl) → length (defined_name d) ≤ 1
one_most (Define place i ps type body) = omega arith
one_most other = omega arith

pub names_most : (ds : List Decl) → length (defined_names ds) ≤ length ds
names_most [] = omega arith
names_most (d ∷ ds) = omega (arith, length-append (defined_name d) (defined_names ds), one_most d, names_most ds)

equal : (n m : ℕ) → nat_eq n m ≡ true → n ≡ m
equal n m h = grind (arith, h)

define_first : (x : ℕ) (d e : Defined) (i : Identifier) (ds : List Decl) → (first_some (called_in x) ds ≡ Some (CalledDefine d) → IsAmong x (defined_names ds)) →
    (b : Bool) → nat_eq i.name x ≡ b → or_else (some_if b (CalledDefine e)) (first_some (called_in x) ds) ≡ Some (CalledDefine d) → IsAmong x (i.name ∷ defined_names ds)
unfolding IsAmong
define_first x d e i ds more true is h = inl (sym (equal i.name x is))
define_first x d e i ds more false is h = inr (more h)

other_called : {A : Type 0} (f : Signature) (d : Defined) → Some (CalledFunction f) ≡ Some (CalledDefine d) → A
other_called f d h = cc

function_first : (x : ℕ) (d : Defined) (f : Signature) (ds : List Decl) → (first_some (called_in x) ds ≡ Some (CalledDefine d) → IsAmong x (defined_names ds)) →
    (b : Bool) → or_else (some_if b (CalledFunction f)) (first_some (called_in x) ds) ≡ Some (CalledDefine d) → IsAmong x (defined_names ds)
function_first x d f ds more true h = other_called f d h
function_first x d f ds more false h = more h

-- a name that is a define's is one of the names of the declared defines
pub define_among : (x : ℕ) (d : Defined) (ds : List Decl) → first_some (called_in x) ds ≡ Some (CalledDefine d) → IsAmong x (defined_names ds)
unfolding first_some
define_among x d [] h = cc
define_among x d (Define place i ps type body ∷ ds) h = define_first x d (record { parameters = ps; type = type; body = body }) i ds (define_among x d ds) (nat_eq i.name x) refl h
define_among x d (Function place i ps type ∷ ds) h = function_first x d (record { parameters = ps; type = type }) ds (define_among x d ds) (nat_eq i.name x) h
define_among x d (other ∷ ds) h = define_among x d ds h
