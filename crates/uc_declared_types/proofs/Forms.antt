-- What is found of each form of a written type, by what is found of its parts.
use Rattle.std.proofs.Common.{◌≡◌, ℕ, ◌+◌, ◌<◌, ◌≤◌, List, [], ◌∷◌, ◌++◌, length, map, take, get_or, Option, Some, None, refl, ap, sym, subst, ◌∙◌}
use Rattle.std.specs.List.{flat_map}
use Rattle.std.proofs.lemmas.List.{take_all, map-append}
use Rattle.uc_lexer.specs.declared.place.Place.{Place}
use Rattle.uc_syntax.specs.declared.place.Identifier.{Identifier}
use Rattle.uc_syntax.specs.declared.type_expression.Parameter.{Parameter}
use Rattle.uc_syntax.specs.declared.type_expression.TypeExpr.{TypeExpr}
use Rattle.uc_syntax.specs.declared.type_expression.TypeExpr.TheOpen.TypeExpr-F.{Boolean as BooleanForm, Integer as IntegerForm, Bits as BitsForm, Enumeration as EnumerationForm, Record as RecordForm, Array as ArrayForm, Named as NamedForm, OfModule as OfModuleForm}
use Rattle.uc_syntax.specs.declared.type_expression.TypeExpr.TheViews.{roll-TypeExpr, Record, Array}
use Rattle.uc_syntax.specs.declared.type_expression.TypeExpr.TheVariants.{Boolean, Integer, Bits, Enumeration, Named, OfModule}
use Rattle.uc_syntax.specs.declared.type_expression.TypeExpr.TheFolds.{fold-roll-TypeExpr}
use Rattle.uc_syntax.specs.declared.declaration.Module.{Module}
use Rattle.uc_values.specs.declared.ty.Ty.TheVariants.{Bool as boolean_type, Int as integer_type, Enum as enum_type}
use Rattle.uc_meaning.specs.Lookup.{System, module_named}
use Rattle.uc_meaning.specs.Types.{enum_number}
use Rattle.uc_rules.specs.declared.fault.Fault.{Fault}
use Rattle.uc_rules.specs.declared.outcome.Outcome.TheVariants.{Has}
use Rattle.uc_rules.specs.Names.{repeated_in_list, type_named}
use Rattle.uc_rules.specs.Declarations.{identifiers_of}
use Rattle.uc_rules.specs.Rows.{width_outcome}
use Rattle.uc_rules.specs.Types.{Aliases, TypeFound, array_outcome, entry_outcome, finds, found_by, known_fields, of_module, record_outcome, type_form}
use Rattle.uc_declared_types.proofs.Declared.{each_parameter}
use Rattle.uc_declared_types.specs.Aliases.{fields_found}

names_mapped : {A B : Type 0} (f : A → B) (ps : List (Parameter A)) → map {B = Identifier} (λ p. p.identifier) (map (each_parameter f) ps) ≡ map {B = Identifier} (λ p. p.identifier) ps
names_mapped f [] = refl
names_mapped f (p ∷ ps) = ap (λ is. p.identifier ∷ is) (names_mapped f ps)

faults_mapped : (f : TypeExpr → Module → TypeFound) (m : Module) (ps : List (Parameter TypeExpr)) →
    flat_map (λ p. (p.ty m).faults) (map (each_parameter f) ps) ≡ flat_map (λ p. (f p.ty m).faults) ps
faults_mapped f m [] = refl
faults_mapped f m (p ∷ ps) = ap (λ fs. (f p.ty m).faults ++ fs) (faults_mapped f m ps)

fields_mapped : (f : TypeExpr → Module → TypeFound) (m : Module) (ps : List (Parameter TypeExpr)) →
    map {B = Parameter TypeFound} (λ p. record { identifier = p.identifier; ty = p.ty m }) (map (each_parameter f) ps) ≡ map {B = Parameter TypeFound} (λ p. record { identifier = p.identifier; ty = f p.ty m }) ps
fields_mapped f m [] = refl
fields_mapped f m (p ∷ ps) = ap (λ qs. record { identifier = p.identifier; ty = f p.ty m } ∷ qs) (fields_mapped f m ps)

module _ (s : System) (alias : Aliases) (m : Module) where
  pub form_boolean : (place : Place) → found_by s alias m (Boolean place) ≡ finds place [] (Has boolean_type)
  unfolding found_by roll-TypeExpr denote.Hole.Carrier.roll
  form_boolean place = ap (λ (f : Module → TypeFound). f m) (fold-roll-TypeExpr (Module → TypeFound) (type_form s alias) (BooleanForm place))

  pub form_integer : (place : Place) → found_by s alias m (Integer place) ≡ finds place [] (Has integer_type)
  unfolding found_by roll-TypeExpr denote.Hole.Carrier.roll
  form_integer place = ap (λ (f : Module → TypeFound). f m) (fold-roll-TypeExpr (Module → TypeFound) (type_form s alias) (IntegerForm place))

  pub form_bits : (place : Place) (width : ℕ) → found_by s alias m (Bits place width) ≡ finds place [] (width_outcome width)
  unfolding found_by roll-TypeExpr denote.Hole.Carrier.roll
  form_bits place width = ap (λ (f : Module → TypeFound). f m) (fold-roll-TypeExpr (Module → TypeFound) (type_form s alias) (BitsForm place width))

  pub form_enumeration : (place : Place) (labels : List Identifier) → found_by s alias m (Enumeration place labels) ≡ finds place [] (Has (enum_type (enum_number s place) (length labels)))
  unfolding found_by roll-TypeExpr denote.Hole.Carrier.roll
  form_enumeration place labels = ap (λ (f : Module → TypeFound). f m) (fold-roll-TypeExpr (Module → TypeFound) (type_form s alias) (EnumerationForm place labels))

  abbrev by_alias : TypeExpr → Module → TypeFound
  by_alias u n = found_by s alias n u

  pub form_record : (place : Place) (ps : List (Parameter TypeExpr)) →
      found_by s alias m (Record place ps) ≡ finds place (repeated_in_list (identifiers_of ps) ++ flat_map (λ p. (found_by s alias m p.ty).faults) ps) (record_outcome (fields_found s alias m ps))
  unfolding found_by roll-TypeExpr denote.Hole.Carrier.roll
  form_record place ps =
      ap (λ (f : Module → TypeFound). f m) (fold-roll-TypeExpr (Module → TypeFound) (type_form s alias) (RecordForm place ps))
      ∙ (λ t. finds place (repeated_in_list (names_mapped by_alias ps t) ++ faults_mapped by_alias m ps t) (record_outcome (known_fields (fields_mapped by_alias m ps t))))

  pub form_array : (place : Place) (index element : TypeExpr) →
      found_by s alias m (Array place index element)
      ≡ finds place ((found_by s alias m index).faults ++ (found_by s alias m element).faults) (array_outcome (found_by s alias m index).type (found_by s alias m element).type)
  unfolding found_by roll-TypeExpr denote.Hole.Carrier.roll
  form_array place index element = ap (λ (f : Module → TypeFound). f m) (fold-roll-TypeExpr (Module → TypeFound) (type_form s alias) (ArrayForm place index element))

  pub form_named : (place : Place) (x : ℕ) → found_by s alias m (Named place x) ≡ finds place [] (entry_outcome s alias x (type_named s m x))
  unfolding found_by roll-TypeExpr denote.Hole.Carrier.roll
  form_named place x = ap (λ (f : Module → TypeFound). f m) (fold-roll-TypeExpr (Module → TypeFound) (type_form s alias) (NamedForm place x))

  pub form_of_module : (place : Place) (n : ℕ) (i : Identifier) → found_by s alias m (OfModule place n i) ≡ of_module s alias place i (module_named s n)
  unfolding found_by roll-TypeExpr denote.Hole.Carrier.roll
  form_of_module place n i = ap (λ (f : Module → TypeFound). f m) (fold-roll-TypeExpr (Module → TypeFound) (type_form s alias) (OfModuleForm place n i))
