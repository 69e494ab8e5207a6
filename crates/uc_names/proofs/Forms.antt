-- The labels in each form of a written type, and the names of a module.
use Rattle.std.proofs.Common.{◌≡◌, ℕ, ◌≤◌, List, [], ◌∷◌, ◌++◌, length, map, refl, sym, ap, ◌∙◌, ◌<◌, zero, suc, get_or, Option, Some, None}
use Rattle.std.specs.Prelude.{Result, Ok, Err, OnOk, slice_get, unwrap_or}
use Rattle.std.proofs.lemmas.Option.{get_or_from_slice_get, slice_get-get_or, unwrap_or-slice_get}
use Rattle.std.specs.List.{flat_map}
use Rattle.std.proofs.lemmas.List.{map-append}
use Rattle.std.specs.Borrow.{Bor}
use Rattle.uc_lexer.specs.declared.place.Place.{Place}
use Rattle.uc_syntax.specs.declared.place.Identifier.{Identifier}
use Rattle.uc_syntax.specs.declared.type_expression.Parameter.{Parameter}
use Rattle.uc_syntax.specs.declared.type_expression.TypeExpr.{TypeExpr}
use Rattle.uc_syntax.specs.declared.type_expression.TypeExpr.TheOpen.TypeExpr-F.{Boolean as BooleanForm, Integer as IntegerForm, Bits as BitsForm, Enumeration as EnumerationForm, Record as RecordForm, Array as ArrayForm, Named as NamedForm, OfModule as OfModuleForm}
use Rattle.uc_syntax.specs.declared.type_expression.TypeExpr.TheViews.{roll-TypeExpr, Record, Array}
use Rattle.uc_syntax.specs.declared.type_expression.TypeExpr.TheVariants.{Boolean, Integer, Bits, Enumeration, Named, OfModule}
use Rattle.uc_syntax.specs.declared.type_expression.TypeExpr.TheFolds.{fold-TypeExpr, fold-roll-TypeExpr}
use Rattle.uc_syntax.specs.declared.declaration.Decl.{Decl}
use Rattle.uc_syntax.specs.declared.declaration.Decl.TheVariants.{OpaqueType, TypeAlias, TypeImport, Variables, Function, Define, Procedure, Instance, Init, Next, Invariant, Axiom, Hyperinvariant, Hyperaxiom, Control}
use Rattle.uc_syntax.specs.declared.declaration.Module.{Module}
use Rattle.uc_syntax.specs.declared.declaration.VariableKind.{VariableKind}
use Rattle.uc_syntax.specs.WrittenTypes.{enums_of_module}
use Rattle.uc_syntax.proofs.Added.{AddedUpTo, added_end, append_nil}
use Rattle.uc_syntax.proofs.Labels.{flat_map_map}
use Rattle.uc_meaning.specs.Lookup.{System, module_named}
use Rattle.uc_meaning.specs.Types.{enum_number}
use Rattle.uc_rules.specs.Names.{Entry as Meant, SenseType, enters, names_of, type_brought, labels_brought, labels_form, labels_from, labels_in, name_at, names_in}
use Rattle.uc_names.specs.declared.senses.DeclaredType.{DeclaredType}
use Rattle.uc_names.specs.declared.senses.Entry.{Entry}
use Rattle.uc_names.specs.declared.senses.Sense.TheVariants.{Declared}
use Rattle.uc_names.specs.Senses.{entries_meant, entry_at, module_in, no_module, sense_meant}
use Rattle.uc_type_names.specs.declared.enums.WrittenEnum.{WrittenEnum}
use Rattle.uc_type_names.specs.Lent.{lent, meant, enum_meant}
use Rattle.uc_names.specs.Entries.{labels_by_types, labels_of_enum, names_by, own_names}

module _ (system : System) where
  pub labels_boolean : (place : Place) → labels_in system (Boolean place) ≡ []
  unfolding labels_in roll-TypeExpr denote.Hole.Carrier.roll
  labels_boolean place = fold-roll-TypeExpr (List Meant) (labels_form system) (BooleanForm place)

  pub labels_integer : (place : Place) → labels_in system (Integer place) ≡ []
  unfolding labels_in roll-TypeExpr denote.Hole.Carrier.roll
  labels_integer place = fold-roll-TypeExpr (List Meant) (labels_form system) (IntegerForm place)

  pub labels_bits : (place : Place) (width : ℕ) → labels_in system (Bits place width) ≡ []
  unfolding labels_in roll-TypeExpr denote.Hole.Carrier.roll
  labels_bits place width = fold-roll-TypeExpr (List Meant) (labels_form system) (BitsForm place width)

  pub labels_enumeration : (place : Place) (labels : List Identifier) → labels_in system (Enumeration place labels) ≡ labels_from (enum_number system place) 0 labels
  unfolding labels_in roll-TypeExpr denote.Hole.Carrier.roll
  labels_enumeration place labels = fold-roll-TypeExpr (List Meant) (labels_form system) (EnumerationForm place labels)

  pub labels_record : (place : Place) (fields : List (Parameter TypeExpr)) → labels_in system (Record place fields) ≡ flat_map (λ p. labels_in system p.ty) fields
  unfolding labels_in roll-TypeExpr denote.Hole.Carrier.roll
  labels_record place fields = fold-roll-TypeExpr (List Meant) (labels_form system) (RecordForm place fields) ∙ flat_map_map (λ p. p.ty) _ fields

  pub labels_array : (place : Place) (index : TypeExpr) (element : TypeExpr) → labels_in system (Array place index element) ≡ labels_in system index ++ labels_in system element
  unfolding labels_in roll-TypeExpr denote.Hole.Carrier.roll
  labels_array place index element = fold-roll-TypeExpr (List Meant) (labels_form system) (ArrayForm place index element)

  pub labels_named : (place : Place) (x : ℕ) → labels_in system (Named place x) ≡ []
  unfolding labels_in roll-TypeExpr denote.Hole.Carrier.roll
  labels_named place x = fold-roll-TypeExpr (List Meant) (labels_form system) (NamedForm place x)

  pub labels_of_other : (place : Place) (m : ℕ) (i : Identifier) → labels_in system (OfModule place m i) ≡ labels_brought system place (module_named system m)
  unfolding labels_in roll-TypeExpr denote.Hole.Carrier.roll
  labels_of_other place m i = fold-roll-TypeExpr (List Meant) (labels_form system) (OfModuleForm place m i)

  map_names : (at : Place) (ls : List Identifier) → map (λ l. name_at at l.name) ls ≡ map (name_at at) (map (λ l. l.name) ls)
  map_names at [] = refl
  map_names at (l ∷ ls) = ap (λ xs. name_at at l.name ∷ xs) (map_names at ls)

  enums_brought : (at : Place) (es : List WrittenEnum) →
      flat_map (labels_of_enum system at) es ≡ flat_map (λ e. labels_from (enum_number system e.place) 0 (map (name_at at) e.labels)) (map enum_meant es)
  enums_brought at [] = refl
  enums_brought at (e ∷ es) = (λ k. labels_from (enum_number system e.place) 0 (map_names at e.labels.now k) ++ enums_brought at es k)

  -- the labels of the enums of a module, as they are brought in at a place
  pub module_brought : (at : Place) (m : Module) (es : List WrittenEnum) → meant es ≡ enums_of_module m → flat_map (labels_of_enum system at) es ≡ labels_brought system at (Some m)
  unfolding meant
  module_brought at m es is = enums_brought at es ∙ ap (flat_map (λ e. labels_from (enum_number system e.place) 0 (map (name_at at) e.labels))) is

  -- the labels of types that are lent
  pub labels_lent : (ts : List (Bor TypeExpr)) → labels_by_types system ts ≡ flat_map (labels_in system) (lent ts)
  unfolding lent
  labels_lent ts = sym (flat_map_map (labels_in system) (λ t. t.now) ts)

  pub names_end : (m : Module) (ds : List Decl) (now : List Meant) (i : ℕ) → ds ≡ m.decls → AddedUpTo (names_by system m) ds [] i now → length ds ≤ i → now ≡ names_in system m
  unfolding names_in
  names_end m ds now i is so_far past = added_end (names_by system m) ds [] now i so_far past ∙ ap (flat_map (names_by system m)) is

pub entries_none : (ms : List Module) → entries_meant ms [] ≡ []
unfolding entries_meant
entries_none ms = refl

-- the module at a place
pub module_found : (ms : List Module) (k : ℕ) (m : Module) → slice_get ms k ≡ Some m → module_in ms k ≡ m
module_found ms k m h = get_or_from_slice_get ms k m no_module h

pub module_missing : (ms : List Module) (k : ℕ) → slice_get ms k ≡ None → module_in ms k ≡ no_module
module_missing ms k h = sym (unwrap_or-slice_get ms k no_module) ∙ ap (λ o. unwrap_or o no_module) h

pub declared_there : (ds es : List Decl) (k : ℕ) (d e : Decl) → k < length ds → d ≡ get_or ds k e → ds ≡ es → slice_get es k ≡ Some d
declared_there ds es k d e within at is = ap (λ xs. slice_get xs k) (sym is) ∙ slice_get-get_or ds k e within ∙ ap (λ x. Some x) (sym at)

pub missing_labels : (system : System) (at : Place) (k : ℕ) (before : List Meant) → slice_get system.modules k ≡ None → before ≡ before ++ labels_brought system at (Some (module_in system.modules k))
missing_labels system at k before h =
    sym (append_nil before) ∙ ap (λ m. before ++ labels_brought system at (Some m)) (sym (module_missing system.modules k h))

pub found_labels : (system : System) (at : Place) (k : ℕ) (m : Module) (es xs : List WrittenEnum) → slice_get system.modules k ≡ Some m → meant es ≡ enums_of_module m → xs ≡ es →
    flat_map (labels_of_enum system at) xs ≡ labels_brought system at (Some (module_in system.modules k))
found_labels system at k m es xs h is same =
    ap (flat_map (labels_of_enum system at)) same ∙ module_brought system at m es is ∙ ap (λ n. labels_brought system at (Some n)) (sym (module_found system.modules k m h))

-- the entry of a type that a module declares, and as it is brought in from one

pub named_opaque : (system : System) (t : DeclaredType) (d : Decl) (place : Place) (i : Identifier) → slice_get (module_in system.modules t.home).decls t.declaration ≡ Some d → d ≡ OpaqueType place i →
    enters i (sense_meant system.modules (Declared t)) ∷ [] ≡ names_of system (module_in system.modules t.home) d
named_opaque system t d place i there is =
    ap (λ o. enters i (SenseType (module_in system.modules t.home) (entry_at o)) ∷ []) (there ∙ ap (λ e. Some e) is) ∙ sym (ap (names_of system (module_in system.modules t.home)) is)

pub named_alias : (system : System) (t : DeclaredType) (d : Decl) (place : Place) (i : Identifier) (type : TypeExpr) → slice_get (module_in system.modules t.home).decls t.declaration ≡ Some d → d ≡ TypeAlias place i type →
    enters i (sense_meant system.modules (Declared t)) ∷ [] ≡ names_of system (module_in system.modules t.home) d
named_alias system t d place i type there is =
    ap (λ o. enters i (SenseType (module_in system.modules t.home) (entry_at o)) ∷ []) (there ∙ ap (λ e. Some e) is) ∙ sym (ap (names_of system (module_in system.modules t.home)) is)

pub brought_opaque : (ms : List Module) (at : Place) (t : DeclaredType) (d : Decl) (place : Place) (i : Identifier) → slice_get (module_in ms t.home).decls t.declaration ≡ Some d → d ≡ OpaqueType place i →
    enters (name_at at i.name) (sense_meant ms (Declared t)) ∷ [] ≡ type_brought at (module_in ms t.home) d
brought_opaque ms at t d place i there is =
    ap (λ o. enters (name_at at i.name) (SenseType (module_in ms t.home) (entry_at o)) ∷ []) (there ∙ ap (λ e. Some e) is) ∙ sym (ap (type_brought at (module_in ms t.home)) is)

pub brought_alias : (ms : List Module) (at : Place) (t : DeclaredType) (d : Decl) (place : Place) (i : Identifier) (type : TypeExpr) → slice_get (module_in ms t.home).decls t.declaration ≡ Some d → d ≡ TypeAlias place i type →
    enters (name_at at i.name) (sense_meant ms (Declared t)) ∷ [] ≡ type_brought at (module_in ms t.home) d
brought_alias ms at t d place i type there is =
    ap (λ o. enters (name_at at i.name) (SenseType (module_in ms t.home) (entry_at o)) ∷ []) (there ∙ ap (λ e. Some e) is) ∙ sym (ap (type_brought at (module_in ms t.home)) is)

pub meant_none : meant [] ≡ []
unfolding meant
meant_none = refl

pub meant_joined : (es fs : List WrittenEnum) → meant (es ++ fs) ≡ meant es ++ meant fs
unfolding meant
meant_joined es fs = map-append enum_meant es fs

-- ---- the name that a declaration has

pub own_by : (s : System) (m : Module) (d e : Decl) (xs : List Meant) → d ≡ e → xs ≡ own_names s m e → xs ≡ own_names s m d
own_by s m d e xs is found = found ∙ sym (ap (own_names s m) is)

pub own_opaque : (s : System) (t : DeclaredType) (d : Decl) (place : Place) (i : Identifier) → slice_get (module_in s.modules t.home).decls t.declaration ≡ Some d → d ≡ OpaqueType place i →
    enters i (sense_meant s.modules (Declared t)) ∷ [] ≡ own_names s (module_in s.modules t.home) d
own_opaque s t d place i there is =
    own_by s (module_in s.modules t.home) d (OpaqueType place i) (enters i (sense_meant s.modules (Declared t)) ∷ []) is (named_opaque s t d place i there is ∙ ap (names_of s (module_in s.modules t.home)) is)

pub own_alias : (s : System) (t : DeclaredType) (d : Decl) (place : Place) (i : Identifier) (type : TypeExpr) → slice_get (module_in s.modules t.home).decls t.declaration ≡ Some d → d ≡ TypeAlias place i type →
    enters i (sense_meant s.modules (Declared t)) ∷ [] ≡ own_names s (module_in s.modules t.home) d
own_alias s t d place i type there is =
    own_by s (module_in s.modules t.home) d (TypeAlias place i type) (enters i (sense_meant s.modules (Declared t)) ∷ []) is (named_alias s t d place i type there is ∙ ap (names_of s (module_in s.modules t.home)) is)

-- a declaration that brings nothing in and declares no variables has at most its own name
pub own_all : (s : System) (m : Module) (d : Decl) → ((p : Place) (i : Identifier) → d ≡ TypeImport p i → ⊥) → ((p : Place) (k : VariableKind) (is : List Identifier) (t : TypeExpr) → d ≡ Variables p k is t → ⊥) →
    own_names s m d ≡ names_of s m d
own_all s m (OpaqueType p i) brings lists = refl
own_all s m (TypeAlias p i t) brings lists = refl
own_all s m (TypeImport p i) brings lists = absurd (brings p i refl)
own_all s m (Variables p k is t) brings lists = absurd (lists p k is t refl)
own_all s m (Function p i ps t) brings lists = refl
own_all s m (Define p i ps t e) brings lists = refl
own_all s m (Procedure p q) brings lists = refl
own_all s m (Instance p i n bs) brings lists = refl
own_all s m (Init p block) brings lists = refl
own_all s m (Next p block) brings lists = refl
own_all s m (Invariant p i e) brings lists = refl
own_all s m (Axiom p i e) brings lists = refl
own_all s m (Hyperinvariant p n i e) brings lists = refl
own_all s m (Hyperaxiom p n i e) brings lists = refl
own_all s m (Control p cs) brings lists = refl

-- what a call says of its success, and what follows from it
pub on_ok : {A E : Type 0} {P Q : Type 0} (r : Result A E) → (P → Q) → OnOk r P → OnOk r Q
on_ok (Ok a) more held = more held
on_ok (Err e) more held = held
