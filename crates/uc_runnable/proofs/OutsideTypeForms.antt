-- The first form that does not run in each form of a written type.
use Rattle.std.proofs.Common.{◌≡◌, ℕ, List, [], ◌∷◌, Option, Some, None, refl, sym, ap, ◌∙◌}
use Rattle.std.specs.Option.{option_or}
use Rattle.uc_lexer.specs.declared.place.Place.{Place}
use Rattle.uc_syntax.specs.declared.place.Identifier.{Identifier}
use Rattle.uc_syntax.specs.declared.type_expression.Parameter.{Parameter}
use Rattle.uc_syntax.specs.declared.type_expression.TypeExpr.{TypeExpr}
use Rattle.uc_syntax.specs.declared.type_expression.TypeExpr.TheOpen.{TypeExpr-F}
use Rattle.uc_syntax.specs.declared.type_expression.TypeExpr.TheOpen.TypeExpr-F.{Boolean as BooleanForm, Integer as IntegerForm, Bits as BitsForm, Enumeration as EnumerationForm, Record as RecordForm, Array as ArrayForm, Named as NamedForm, OfModule as OfModuleForm}
use Rattle.uc_syntax.specs.declared.type_expression.TypeExpr.TheViews.{roll-TypeExpr, Record, Array}
use Rattle.uc_syntax.specs.declared.type_expression.TypeExpr.TheVariants.{Boolean, Integer, Bits, Enumeration, Named, OfModule}
use Rattle.uc_syntax.specs.declared.type_expression.TypeExpr.TheFolds.{map-TypeExpr, fold-roll-TypeExpr}
use Rattle.uc_meaning.specs.Lookup.{first_some}
use Rattle.uc_runnable.specs.Outside.{outside_type_form, outside_type}

pub outside_boolean : (t : TypeExpr) (p : Place) → t ≡ Boolean p → None ≡ outside_type t
unfolding outside_type roll-TypeExpr denote.Hole.Carrier.roll
outside_boolean t p is = sym (ap outside_type is ∙ fold-roll-TypeExpr (Option Place) outside_type_form (BooleanForm p))

pub outside_integer : (t : TypeExpr) (p : Place) → t ≡ Integer p → Some p ≡ outside_type t
unfolding outside_type roll-TypeExpr denote.Hole.Carrier.roll
outside_integer t p is = sym (ap outside_type is ∙ fold-roll-TypeExpr (Option Place) outside_type_form (IntegerForm p))

pub outside_bits : (t : TypeExpr) (p : Place) (width : ℕ) → t ≡ Bits p width → None ≡ outside_type t
unfolding outside_type roll-TypeExpr denote.Hole.Carrier.roll
outside_bits t p width is = sym (ap outside_type is ∙ fold-roll-TypeExpr (Option Place) outside_type_form (BitsForm p width))

pub outside_enum : (t : TypeExpr) (p : Place) (labels : List Identifier) → t ≡ Enumeration p labels → None ≡ outside_type t
unfolding outside_type roll-TypeExpr denote.Hole.Carrier.roll
outside_enum t p labels is = sym (ap outside_type is ∙ fold-roll-TypeExpr (Option Place) outside_type_form (EnumerationForm p labels))

pub outside_array : (t : TypeExpr) (p : Place) (index element : TypeExpr) → t ≡ Array p index element → Some p ≡ outside_type t
unfolding outside_type roll-TypeExpr denote.Hole.Carrier.roll
outside_array t p index element is = sym (ap outside_type is ∙ fold-roll-TypeExpr (Option Place) outside_type_form (ArrayForm p index element))

pub outside_named : (t : TypeExpr) (p : Place) (x : ℕ) → t ≡ Named p x → None ≡ outside_type t
unfolding outside_type roll-TypeExpr denote.Hole.Carrier.roll
outside_named t p x is = sym (ap outside_type is ∙ fold-roll-TypeExpr (Option Place) outside_type_form (NamedForm p x))

pub outside_of_module : (t : TypeExpr) (p : Place) (m : ℕ) (i : Identifier) → t ≡ OfModule p m i → None ≡ outside_type t
unfolding outside_type roll-TypeExpr denote.Hole.Carrier.roll
outside_of_module t p m i is = sym (ap outside_type is ∙ fold-roll-TypeExpr (Option Place) outside_type_form (OfModuleForm p m i))

-- the parts of a record, by what they come to
abbrev fields_of : {X : Type 0} → TypeExpr-F X → List (Parameter X)
fields_of (RecordForm p fields) = fields
fields_of other = []

each_field : (f : TypeExpr → Option Place) (p : Place) (fields : List (Parameter TypeExpr))
    → first_some (λ q. q.ty) (fields_of (map-TypeExpr TypeExpr (Option Place) f (RecordForm p fields))) ≡ first_some (λ q. f q.ty) fields
unfolding first_some
each_field f p [] = refl
each_field f p (q ∷ fields) = ap (option_or (f q.ty)) (each_field f p fields)

record_is : (p : Place) (fields : List (Parameter TypeExpr)) → outside_type (Record p fields) ≡ first_some (λ q. outside_type q.ty) fields
unfolding outside_type roll-TypeExpr denote.Hole.Carrier.roll
record_is p fields = fold-roll-TypeExpr (Option Place) outside_type_form (RecordForm p fields) ∙ each_field outside_type p fields

pub outside_record : (t : TypeExpr) (p : Place) (fields shown : List (Parameter TypeExpr)) (r : Option Place) → t ≡ Record p fields → shown ≡ fields → r ≡ first_some (λ q. outside_type q.ty) shown →
    r ≡ outside_type t
outside_record t p fields shown r is same found = found ∙ ap (first_some (λ q. outside_type q.ty)) same ∙ sym (ap outside_type is ∙ record_is p fields)
