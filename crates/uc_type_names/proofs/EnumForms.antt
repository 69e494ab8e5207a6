-- The enums in each form of a written type.
use Rattle.std.proofs.Common.{◌≡◌, ℕ, ◌≤◌, List, [], ◌∷◌, ◌++◌, length, map, refl, sym, ap, ◌∙◌}
use Rattle.std.specs.List.{flat_map}
use Rattle.std.specs.Borrow.{Bor}
use Rattle.std.proofs.lemmas.List.{map-append}
use Rattle.std.proofs.lemmas.Grind.{flat_map-append}
use Rattle.uc_lexer.specs.declared.place.Place.{Place}
use Rattle.uc_syntax.specs.declared.place.Identifier.{Identifier}
use Rattle.uc_syntax.specs.declared.type_expression.Parameter.{Parameter}
use Rattle.uc_syntax.specs.declared.type_expression.TypeExpr.{TypeExpr}
use Rattle.uc_syntax.specs.declared.type_expression.TypeExpr.TheOpen.TypeExpr-F.{Boolean as BooleanForm, Integer as IntegerForm, Bits as BitsForm, Enumeration as EnumerationForm, Record as RecordForm, Array as ArrayForm, Named as NamedForm, OfModule as OfModuleForm}
use Rattle.uc_syntax.specs.declared.type_expression.TypeExpr.TheViews.{roll-TypeExpr, Record, Array}
use Rattle.uc_syntax.specs.declared.type_expression.TypeExpr.TheVariants.{Boolean, Integer, Bits, Enumeration, Named, OfModule}
use Rattle.uc_syntax.specs.declared.type_expression.TypeExpr.TheFolds.{fold-TypeExpr, fold-roll-TypeExpr}
use Rattle.uc_syntax.specs.declared.declaration.Module.{Module}
use Rattle.uc_syntax.specs.WrittenTypes.{Written, enums_form, enums_in, enums_of_module, types_in}
use Rattle.uc_syntax.proofs.Added.{AddedUpTo, added_end}
use Rattle.uc_syntax.proofs.Labels.{flat_map_map, flat_flat}
use Rattle.uc_type_names.specs.declared.enums.WrittenEnum.{WrittenEnum}
use Rattle.uc_type_names.specs.Lent.{lent, meant, enum_meant, enums_in_types}

pub meant_push : (es : List WrittenEnum) (e : WrittenEnum) → meant (es ++ e ∷ []) ≡ meant es ++ enum_meant e ∷ []
unfolding meant
meant_push es e = map-append enum_meant es (e ∷ [])

pub meant_none : meant [] ≡ []
unfolding meant
meant_none = refl

pub enums_boolean : (place : Place) → enums_in (Boolean place) ≡ []
unfolding enums_in roll-TypeExpr denote.Hole.Carrier.roll
enums_boolean place = fold-roll-TypeExpr (List Written) enums_form (BooleanForm place)

pub enums_integer : (place : Place) → enums_in (Integer place) ≡ []
unfolding enums_in roll-TypeExpr denote.Hole.Carrier.roll
enums_integer place = fold-roll-TypeExpr (List Written) enums_form (IntegerForm place)

pub enums_bits : (place : Place) (width : ℕ) → enums_in (Bits place width) ≡ []
unfolding enums_in roll-TypeExpr denote.Hole.Carrier.roll
enums_bits place width = fold-roll-TypeExpr (List Written) enums_form (BitsForm place width)

pub enums_enumeration : (place : Place) (labels : List Identifier) → enums_in (Enumeration place labels) ≡ record { place = place; labels = map (λ l. l.name) labels } ∷ []
unfolding enums_in roll-TypeExpr denote.Hole.Carrier.roll
enums_enumeration place labels = fold-roll-TypeExpr (List Written) enums_form (EnumerationForm place labels)

pub enums_record : (place : Place) (fields : List (Parameter TypeExpr)) → enums_in (Record place fields) ≡ flat_map (λ p. enums_in p.ty) fields
unfolding enums_in roll-TypeExpr denote.Hole.Carrier.roll
enums_record place fields = fold-roll-TypeExpr (List Written) enums_form (RecordForm place fields) ∙ flat_map_map (λ p. p.ty) _ fields

pub enums_array : (place : Place) (index : TypeExpr) (element : TypeExpr) → enums_in (Array place index element) ≡ enums_in index ++ enums_in element
unfolding enums_in roll-TypeExpr denote.Hole.Carrier.roll
enums_array place index element = fold-roll-TypeExpr (List Written) enums_form (ArrayForm place index element)

pub enums_named : (place : Place) (x : ℕ) → enums_in (Named place x) ≡ []
unfolding enums_in roll-TypeExpr denote.Hole.Carrier.roll
enums_named place x = fold-roll-TypeExpr (List Written) enums_form (NamedForm place x)

pub enums_of_other : (place : Place) (m : ℕ) (i : Identifier) → enums_in (OfModule place m i) ≡ []
unfolding enums_in roll-TypeExpr denote.Hole.Carrier.roll
enums_of_other place m i = fold-roll-TypeExpr (List Written) enums_form (OfModuleForm place m i)

-- the enums of the types that a declaration writes
pub lent_enums : (ts : List (Bor TypeExpr)) → enums_in_types ts ≡ flat_map enums_in (lent ts)
unfolding lent
lent_enums ts = sym (flat_map_map enums_in (λ t. t.now) ts)

pub enums_end : (m : Module) (now : List WrittenEnum) (i : ℕ) → AddedUpTo (λ d. flat_map enums_in (types_in d)) m.decls [] i (meant now) → length m.decls ≤ i →
    meant now ≡ enums_of_module m
enums_end m now i so_far past = added_end (λ d. flat_map enums_in (types_in d)) m.decls [] (meant now) i so_far past ∙ sym (flat_flat enums_in types_in m.decls)
