-- Where written types begin.
use Rattle.std.proofs.Common.{◌≡◌, ℕ, List, Option, Some, None, refl, ap, ◌∙◌, sym}
use Rattle.uc_lexer.specs.declared.place.Place.{Place}
use Rattle.uc_syntax.specs.declared.place.Identifier.{Identifier}
use Rattle.uc_syntax.specs.declared.type_expression.Parameter.{Parameter}
use Rattle.uc_syntax.specs.declared.type_expression.TypeExpr.{TypeExpr}
use Rattle.uc_syntax.specs.declared.type_expression.TypeExpr.TheOpen.TypeExpr-F.{Boolean as BooleanForm, Integer as IntegerForm, Bits as BitsForm, Enumeration as EnumerationForm, Record as RecordForm, Array as ArrayForm, Named as NamedForm, OfModule as OfModuleForm}
use Rattle.uc_syntax.specs.declared.type_expression.TypeExpr.TheViews.{roll-TypeExpr, Record, Array}
use Rattle.uc_syntax.specs.declared.type_expression.TypeExpr.TheVariants.{Boolean, Integer, Bits, Enumeration, Named, OfModule}
use Rattle.uc_syntax.specs.declared.type_expression.TypeExpr.TheFolds.{fold-roll-TypeExpr}
use Rattle.uc_syntax.specs.declared.declaration.Module.{Module}
use Rattle.uc_meaning.specs.Lookup.{System, module_named}
use Rattle.uc_rules.specs.Types.{Aliases, TypeFound, found_by, longest_alias, of_module, type_form, type_found, type_through}

abbrev aliases : System → Aliases
aliases s = type_through (longest_alias s) s

abbrev at_place : Module → (Module → TypeFound) → Place
at_place m f = (f m).place

module _ (s : System) (m : Module) (place : Place) where
  pub place_boolean : place ≡ (type_found s m (Boolean place)).place
  unfolding type_found found_by roll-TypeExpr denote.Hole.Carrier.roll
  place_boolean = sym (ap (at_place m) (fold-roll-TypeExpr (Module → TypeFound) (type_form s (aliases s)) (BooleanForm place)))

  pub place_integer : place ≡ (type_found s m (Integer place)).place
  unfolding type_found found_by roll-TypeExpr denote.Hole.Carrier.roll
  place_integer = sym (ap (at_place m) (fold-roll-TypeExpr (Module → TypeFound) (type_form s (aliases s)) (IntegerForm place)))

  pub place_bits : (width : ℕ) → place ≡ (type_found s m (Bits place width)).place
  unfolding type_found found_by roll-TypeExpr denote.Hole.Carrier.roll
  place_bits width = sym (ap (at_place m) (fold-roll-TypeExpr (Module → TypeFound) (type_form s (aliases s)) (BitsForm place width)))

  pub place_enumeration : (labels : List Identifier) → place ≡ (type_found s m (Enumeration place labels)).place
  unfolding type_found found_by roll-TypeExpr denote.Hole.Carrier.roll
  place_enumeration labels = sym (ap (at_place m) (fold-roll-TypeExpr (Module → TypeFound) (type_form s (aliases s)) (EnumerationForm place labels)))

  pub place_record : (ps : List (Parameter TypeExpr)) → place ≡ (type_found s m (Record place ps)).place
  unfolding type_found found_by roll-TypeExpr denote.Hole.Carrier.roll
  place_record ps = sym (ap (at_place m) (fold-roll-TypeExpr (Module → TypeFound) (type_form s (aliases s)) (RecordForm place ps)))

  pub place_array : (index element : TypeExpr) → place ≡ (type_found s m (Array place index element)).place
  unfolding type_found found_by roll-TypeExpr denote.Hole.Carrier.roll
  place_array index element = sym (ap (at_place m) (fold-roll-TypeExpr (Module → TypeFound) (type_form s (aliases s)) (ArrayForm place index element)))

  pub place_named : (x : ℕ) → place ≡ (type_found s m (Named place x)).place
  unfolding type_found found_by roll-TypeExpr denote.Hole.Carrier.roll
  place_named x = sym (ap (at_place m) (fold-roll-TypeExpr (Module → TypeFound) (type_form s (aliases s)) (NamedForm place x)))

  of_any : (alias : Aliases) (i : Identifier) (o : Option Module) → (of_module s alias place i o).place ≡ place
  of_any alias i None = refl
  of_any alias i (Some n) = refl

  pub place_of_module : (n : ℕ) (i : Identifier) → place ≡ (type_found s m (OfModule place n i)).place
  unfolding type_found found_by roll-TypeExpr denote.Hole.Carrier.roll
  place_of_module n i = sym (ap (at_place m) (fold-roll-TypeExpr (Module → TypeFound) (type_form s (aliases s)) (OfModuleForm place n i)) ∙ of_any (aliases s) i (module_named s n))
