-- Which forms of written types hold no array.
use Rattle.std.proofs.Common.{◌≡◌, ℕ, Bool, true, false, ◌&&◌, List, [], ◌∷◌, refl, sym, ap, ◌∙◌}
use Rattle.std.specs.List.{list_all}
use Rattle.uc_lexer.specs.declared.place.Place.{Place}
use Rattle.uc_syntax.specs.declared.place.Identifier.{Identifier}
use Rattle.uc_syntax.specs.declared.type_expression.Parameter.{Parameter}
use Rattle.uc_syntax.specs.declared.type_expression.TypeExpr.{TypeExpr}
use Rattle.uc_syntax.specs.declared.type_expression.TypeExpr.TheOpen.{TypeExpr-F}
use Rattle.uc_syntax.specs.declared.type_expression.TypeExpr.TheOpen.TypeExpr-F.{Boolean as BooleanForm, Integer as IntegerForm, Bits as BitsForm, Enumeration as EnumerationForm, Record as RecordForm, Array as ArrayForm, Named as NamedForm, OfModule as OfModuleForm}
use Rattle.uc_syntax.specs.declared.type_expression.TypeExpr.TheViews.{roll-TypeExpr, Record, Array}
use Rattle.uc_syntax.specs.declared.type_expression.TypeExpr.TheVariants.{Boolean, Integer, Bits, Enumeration, Named, OfModule}
use Rattle.uc_syntax.specs.declared.type_expression.TypeExpr.TheFolds.{map-TypeExpr, fold-roll-TypeExpr}
use Rattle.uc_runnable.specs.Plain.{spares_arrays_form, spares_arrays}

boolean_is : (p : Place) → spares_arrays (Boolean p) ≡ true
unfolding spares_arrays roll-TypeExpr denote.Hole.Carrier.roll
boolean_is p = fold-roll-TypeExpr Bool spares_arrays_form (BooleanForm p)

integer_is : (p : Place) → spares_arrays (Integer p) ≡ true
unfolding spares_arrays roll-TypeExpr denote.Hole.Carrier.roll
integer_is p = fold-roll-TypeExpr Bool spares_arrays_form (IntegerForm p)

bits_is : (p : Place) (width : ℕ) → spares_arrays (Bits p width) ≡ true
unfolding spares_arrays roll-TypeExpr denote.Hole.Carrier.roll
bits_is p width = fold-roll-TypeExpr Bool spares_arrays_form (BitsForm p width)

enum_is : (p : Place) (labels : List Identifier) → spares_arrays (Enumeration p labels) ≡ true
unfolding spares_arrays roll-TypeExpr denote.Hole.Carrier.roll
enum_is p labels = fold-roll-TypeExpr Bool spares_arrays_form (EnumerationForm p labels)

array_is : (p : Place) (index : TypeExpr) (element : TypeExpr) → spares_arrays (Array p index element) ≡ false
unfolding spares_arrays roll-TypeExpr denote.Hole.Carrier.roll
array_is p index element = fold-roll-TypeExpr Bool spares_arrays_form (ArrayForm p index element)

named_is : (p : Place) (x : ℕ) → spares_arrays (Named p x) ≡ true
unfolding spares_arrays roll-TypeExpr denote.Hole.Carrier.roll
named_is p x = fold-roll-TypeExpr Bool spares_arrays_form (NamedForm p x)

of_module_is : (p : Place) (m : ℕ) (i : Identifier) → spares_arrays (OfModule p m i) ≡ true
unfolding spares_arrays roll-TypeExpr denote.Hole.Carrier.roll
of_module_is p m i = fold-roll-TypeExpr Bool spares_arrays_form (OfModuleForm p m i)

-- the parts of a record, by what they come to
abbrev fields_of : {X : Type 0} → TypeExpr-F X → List (Parameter X)
fields_of (RecordForm p fields) = fields
fields_of other = []

each_field : (f : TypeExpr → Bool) (p : Place) (fields : List (Parameter TypeExpr))
    → list_all (λ q. q.ty) (fields_of (map-TypeExpr TypeExpr Bool f (RecordForm p fields))) ≡ list_all (λ q. f q.ty) fields
each_field f p [] = refl
each_field f p (q ∷ fields) = ap (λ b. f q.ty && b) (each_field f p fields)

record_is : (p : Place) (fields : List (Parameter TypeExpr)) → spares_arrays (Record p fields) ≡ list_all (λ q. spares_arrays q.ty) fields
unfolding spares_arrays roll-TypeExpr denote.Hole.Carrier.roll
record_is p fields = fold-roll-TypeExpr Bool spares_arrays_form (RecordForm p fields) ∙ each_field spares_arrays p fields

pub spares_boolean : (t : TypeExpr) (p : Place) → t ≡ Boolean p → true ≡ spares_arrays t
spares_boolean t p is = sym (ap spares_arrays is ∙ boolean_is p)

pub spares_integer : (t : TypeExpr) (p : Place) → t ≡ Integer p → true ≡ spares_arrays t
spares_integer t p is = sym (ap spares_arrays is ∙ integer_is p)

pub spares_bits : (t : TypeExpr) (p : Place) (width : ℕ) → t ≡ Bits p width → true ≡ spares_arrays t
spares_bits t p width is = sym (ap spares_arrays is ∙ bits_is p width)

pub spares_enum : (t : TypeExpr) (p : Place) (labels : List Identifier) → t ≡ Enumeration p labels → true ≡ spares_arrays t
spares_enum t p labels is = sym (ap spares_arrays is ∙ enum_is p labels)

pub spares_array : (t : TypeExpr) (p : Place) (index element : TypeExpr) → t ≡ Array p index element → false ≡ spares_arrays t
spares_array t p index element is = sym (ap spares_arrays is ∙ array_is p index element)

pub spares_named : (t : TypeExpr) (p : Place) (x : ℕ) → t ≡ Named p x → true ≡ spares_arrays t
spares_named t p x is = sym (ap spares_arrays is ∙ named_is p x)

pub spares_of_module : (t : TypeExpr) (p : Place) (m : ℕ) (i : Identifier) → t ≡ OfModule p m i → true ≡ spares_arrays t
spares_of_module t p m i is = sym (ap spares_arrays is ∙ of_module_is p m i)

pub spares_record : (t : TypeExpr) (p : Place) (fields : List (Parameter TypeExpr)) (r : Bool) → t ≡ Record p fields → r ≡ list_all (λ q. spares_arrays q.ty) fields → r ≡ spares_arrays t
spares_record t p fields r is h = h ∙ sym (ap spares_arrays is ∙ record_is p fields)
