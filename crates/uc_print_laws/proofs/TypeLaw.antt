-- The printed words of a type spell it.
use Rattle.std.proofs.Common.{◌≡◌, ℕ, List, [], ◌∷◌, Option, Some, None, map, refl, sym, ap, subst, ◌∙◌}
use Rattle.uc_forms.specs.Form.{declares}
use Rattle.uc_lexer.specs.declared.place.Place.{Place}
use Rattle.uc_grammar.specs.declared.word.Kind.TheVariants as kinds
use Rattle.uc_grammar.specs.declared.word.Word.{Word}
use Rattle.uc_grammar.specs.Code.{width_in, name_in}
use Rattle.uc_grammar.specs.Syntax.{rule, ty, parameter as parameter_form, identifier as identifier_of, new_id, array, enum_braces, record_braces, named_type}
use Rattle.uc_syntax.specs.declared.place.Identifier.{Identifier}
use Rattle.uc_syntax.specs.declared.type_expression.Parameter.{Parameter}
use Rattle.uc_syntax.specs.declared.type_expression.TypeExpr.{TypeExpr}
use Rattle.uc_syntax.specs.declared.type_expression.TypeExpr.TheOpen.{TypeExpr-F}
use Rattle.uc_syntax.specs.declared.type_expression.TypeExpr.TheOpen.TypeExpr-F.{Boolean, Integer, Bits, Enumeration, Record, Array, Named, OfModule}
use Rattle.uc_syntax.specs.declared.type_expression.TypeExpr.TheVariants as types
use Rattle.uc_syntax.specs.declared.type_expression.TypeExpr.TheViews as type_views
use Rattle.uc_syntax.specs.declared.type_expression.TypeExpr.TheViews.{roll-TypeExpr}
use Rattle.uc_syntax.specs.declared.type_expression.TypeExpr.TheFolds.{map-TypeExpr, fold-roll-TypeExpr, ind-TypeExpr}
use Rattle.uc_print_laws.specs.Piece.{name, Shows}
use Rattle.uc_print_laws.specs.Printed.{Printed, piece, sign, identifier, ◌<+>◌, nested, listed, nowhere, erased_identifier}
use Rattle.uc_print_laws.specs.Types.{parameter, type_form, printed_type, each_parameter, parameter_nowhere, erase_type_form, erased_type}
use Rattle.uc_print_laws.specs.PrintedLaw.{Prints, TypesAreSpelled}
use Rattle.uc_print_laws.proofs.PrintedWords.{name_code}
use Rattle.uc_print_laws.proofs.PrintedSteps.{s_a_name, s_optional_none, s_optional_some, unit, s_first, s_next, s_word, s_name, s_both, s_made, s_after, s_before, s_deep, s_listed, s_id, same}
use Rattle.uc_print_laws.proofs.Maps.{map_twice, listed_over}

-- ---- a layer with each part changed

abbrev fields_in : {X : Type 0} → TypeExpr-F X → List (Parameter X)
fields_in (Record p fields) = fields
fields_in other = []

fields_of : {A B : Type 0} (f : A → B) (p : Place) (fields : List (Parameter A)) → fields_in (map-TypeExpr A B f (Record p fields)) ≡ map (each_parameter f) fields
fields_of f p [] = refl
fields_of f p (x ∷ fields) = ap (λ z. each_parameter f x ∷ z) (fields_of f p fields)

pub map_record : {A B : Type 0} (f : A → B) (p : Place) (fields : List (Parameter A)) → map-TypeExpr A B f (Record p fields) ≡ Record p (map (each_parameter f) fields)
map_record {A} {B} f p fields = ap (λ (z : List (Parameter B)). TypeExpr-F.Record p z) (fields_of f p fields)

-- ---- equations

pub printed_boolean : (p : Place) → printed_type (types.Boolean p) ≡ sign kinds.KwBoolean
unfolding roll-TypeExpr denote.Hole.Carrier.roll
printed_boolean p = fold-roll-TypeExpr Printed type_form (Boolean p)

pub erased_boolean : (p : Place) → erased_type (types.Boolean p) ≡ types.Boolean nowhere
unfolding roll-TypeExpr denote.Hole.Carrier.roll
erased_boolean p = fold-roll-TypeExpr TypeExpr erase_type_form (Boolean p)

pub erased_integer : (p : Place) → erased_type (types.Integer p) ≡ types.Integer nowhere
unfolding roll-TypeExpr denote.Hole.Carrier.roll
erased_integer p = fold-roll-TypeExpr TypeExpr erase_type_form (Integer p)

pub erased_bits : (p : Place) (w : ℕ) → erased_type (types.Bits p w) ≡ types.Bits nowhere w
unfolding roll-TypeExpr denote.Hole.Carrier.roll
erased_bits p w = fold-roll-TypeExpr TypeExpr erase_type_form (Bits p w)

pub erased_enumeration : (p : Place) (is : List Identifier) → erased_type (types.Enumeration p is) ≡ types.Enumeration nowhere (map erased_identifier is)
unfolding roll-TypeExpr denote.Hole.Carrier.roll
erased_enumeration p is = fold-roll-TypeExpr TypeExpr erase_type_form (Enumeration p is)

abbrev pub erased_parameter : Parameter TypeExpr → Parameter TypeExpr
erased_parameter p = parameter_nowhere (each_parameter erased_type p)

pub erased_record : (p : Place) (fs : List (Parameter TypeExpr)) → erased_type (type_views.Record p fs) ≡ type_views.Record nowhere (map erased_parameter fs)
unfolding roll-TypeExpr denote.Hole.Carrier.roll
erased_record p fs = fold-roll-TypeExpr TypeExpr erase_type_form (Record p fs) ∙ ap erase_type_form (map_record erased_type p fs) ∙ ap (λ z. type_views.Record nowhere z) (map_twice (each_parameter erased_type) parameter_nowhere fs)

pub erased_array : (p : Place) (i e : TypeExpr) → erased_type (type_views.Array p i e) ≡ type_views.Array nowhere (erased_type i) (erased_type e)
unfolding roll-TypeExpr denote.Hole.Carrier.roll
erased_array p i e = fold-roll-TypeExpr TypeExpr erase_type_form (Array p i e)

pub erased_named : (p : Place) (n : ℕ) → erased_type (types.Named p n) ≡ types.Named nowhere n
unfolding roll-TypeExpr denote.Hole.Carrier.roll
erased_named p n = fold-roll-TypeExpr TypeExpr erase_type_form (Named p n)

pub erased_of_module : (p : Place) (m : ℕ) (i : Identifier) → erased_type (types.OfModule p m i) ≡ types.OfModule nowhere m (erased_identifier i)
unfolding roll-TypeExpr denote.Hole.Carrier.roll
erased_of_module p m i = fold-roll-TypeExpr TypeExpr erase_type_form (OfModule p m i)

-- ---- each form

-- a type as printed, and the type that it is without places
abbrev Good : Printed → TypeExpr → Type 0
Good x t = Prints ty x (λ u. erased_type u ≡ t)

pub s_new_id : (i : Identifier) → Prints new_id (identifier i) (λ j. erased_identifier j ≡ erased_identifier i)
s_new_id i = s_made identifier_of (λ w q. ap (λ z. record { place = nowhere; name = z }) q.1) (s_name declares (name i.name) (λ k q. name_code k q.0))

good_boolean : Good (sign kinds.KwBoolean) (types.Boolean nowhere)
unfolding ty
good_boolean = s_first (s_made _ (λ w q. erased_boolean w.place) (s_word kinds.KwBoolean kinds.KwBoolean refl))

good_integer : Good (sign kinds.KwInteger) (types.Integer nowhere)
unfolding ty
good_integer = s_next (s_first (s_made _ (λ w q. erased_integer w.place) (s_word kinds.KwInteger kinds.KwInteger refl)))

good_bits : (n : ℕ) → Good (sign (kinds.BvType n)) (types.Bits nowhere n)
unfolding ty
good_bits n = s_next (s_next (s_first (s_made _ (λ w q. erased_bits w.place (width_in w.kind) ∙ ap (λ z. types.Bits nowhere (width_in z)) q.1) (s_word (kinds.BvType 0) (kinds.BvType n) refl))))

s_labels : (is : List Identifier) → Prints (rule enum_braces) (sign kinds.LeftBrace <+> (listed identifier is <+> sign kinds.RightBrace)) (λ js. map erased_identifier js ≡ map erased_identifier is)
s_labels is = s_after kinds.LeftBrace (s_before kinds.RightBrace (s_listed new_id erased_identifier identifier erased_identifier s_new_id is))

good_enumeration : (is : List Identifier) → Good (type_form (Enumeration nowhere is)) (types.Enumeration nowhere (map erased_identifier is))
unfolding ty
good_enumeration is = s_next (s_next (s_next (s_first (s_made _ (λ x q. erased_enumeration x.0.place x.1 ∙ ap (λ z. types.Enumeration nowhere z) q.1) (s_both (s_word kinds.KwEnum kinds.KwEnum refl) (s_deep enum_braces (s_labels is)))))))

-- a name with its type
pub s_parameter : (i : Identifier) (x : Printed) (t : TypeExpr) → Good x t → Prints parameter_form (identifier i <+> (sign kinds.Colon <+> x)) (λ p. erased_parameter p ≡ record { identifier = erased_identifier i; ty = t })
s_parameter i x t p = s_made _ (λ y q. ap (λ z. record { identifier = z; ty = erased_type y.1 }) q.0 ∙ ap (λ z. record { identifier = erased_identifier i; ty = z }) q.1) (s_both (s_new_id i) (s_after kinds.Colon p))

good_array : (x y : Printed) (t u : TypeExpr) → Good x t → Good y u → Good (type_form (Array nowhere x y)) (type_views.Array nowhere t u)
unfolding ty
good_array x y t u p q = s_next (s_next (s_next (s_next (s_next (s_first (s_deep array
    (s_made _ (λ z r. erased_array z.0.place z.1.0 z.1.1 ∙ ap (λ v. type_views.Array nowhere v (erased_type z.1.1)) r.1.0 ∙ ap (λ v. type_views.Array nowhere t v) r.1.1)
    (s_both (s_word kinds.LeftBracket kinds.LeftBracket refl) (s_both (s_before kinds.RightBracket p) q)))))))))

good_named : (n : ℕ) → Good (piece (name n)) (types.Named nowhere n)
unfolding ty
good_named n = s_next (s_next (s_next (s_next (s_next (s_next (same (unit (piece (name n))) (s_made named_type (named_is n) (s_both (s_a_name (name n) (λ k q. name_code k q.0)) s_optional_none))))))))
  where
    named_is : (n : ℕ) (x : Word × Option Identifier) → Shows (name n) x.0.kind × (x.1 ≡ None) → erased_type (named_type x) ≡ types.Named nowhere n
    named_is n (w, None) q = erased_named w.place (name_in w.kind) ∙ ap (λ z. types.Named nowhere z) q.0.1
    named_is n (w, Some i) q = absurd cc

abbrev IsSomeOf : Identifier → Option Identifier → Type 0
IsSomeOf i None = ⊥
IsSomeOf i (Some j) = erased_identifier j ≡ erased_identifier i

good_of_module : (m : ℕ) (i : Identifier) → Good (type_form (OfModule nowhere m i)) (types.OfModule nowhere m (erased_identifier i))
unfolding ty
good_of_module m i = s_next (s_next (s_next (s_next (s_next (s_next (s_made named_type of_module_is (s_both (s_a_name (name m) (λ k q. name_code k q.0)) (s_optional_some {Q = IsSomeOf i} (s_after kinds.Dot (s_id i))))))))))
  where
    of_module_is : (x : Word × Option Identifier) → Shows (name m) x.0.kind × IsSomeOf i x.1 → erased_type (named_type x) ≡ types.OfModule nowhere m (erased_identifier i)
    of_module_is (w, None) q = absurd q.1
    of_module_is (w, Some j) q = erased_of_module w.place (name_in w.kind) j ∙ ap (λ z. types.OfModule nowhere z (erased_identifier j)) q.0.1 ∙ ap (λ z. types.OfModule nowhere m z) q.1

-- ---- every type

abbrev Holds : TypeExpr → Type 0
Holds t = Good (printed_type t) (erased_type t)

abbrev Child : Type 0
Child = (t : TypeExpr) × Holds t

abbrev tree : Child → TypeExpr
tree c = c.0

abbrev Field : Type 0
Field = Parameter Child

abbrev field_words : Field → Printed
field_words c = identifier c.identifier <+> (sign kinds.Colon <+> printed_type c.ty.0)

abbrev field_tree : Field → Parameter TypeExpr
field_tree c = record { identifier = erased_identifier c.identifier; ty = erased_type c.ty.0 }

good_record : (cs : List Field) → Good (sign kinds.KwRecord <+> nested (sign kinds.LeftBrace <+> (listed field_words cs <+> sign kinds.RightBrace))) (type_views.Record nowhere (map field_tree cs))
unfolding ty
good_record cs = s_next (s_next (s_next (s_next (s_first (s_made _ (λ x q. erased_record x.0.place x.1 ∙ ap (λ z. type_views.Record nowhere z) q.1) (s_both (s_word kinds.KwRecord kinds.KwRecord refl) (s_deep record_braces
    (s_after kinds.LeftBrace (s_before kinds.RightBrace (s_listed parameter_form erased_parameter field_words field_tree (λ c. s_parameter c.identifier (printed_type c.ty.0) (erased_type c.ty.0) c.ty.1) cs))))))))))

abbrev layer : TypeExpr-F Child → TypeExpr-F TypeExpr
layer y = map-TypeExpr Child TypeExpr tree y

abbrev words_of : TypeExpr-F Child → Printed
words_of y = type_form (map-TypeExpr TypeExpr Printed printed_type (layer y))

abbrev tree_of : TypeExpr-F Child → TypeExpr
tree_of y = erase_type_form (map-TypeExpr TypeExpr TypeExpr erased_type (layer y))

record_words : (p : Place) (cs : List Field) → words_of (Record p cs) ≡ sign kinds.KwRecord <+> nested (sign kinds.LeftBrace <+> (listed field_words cs <+> sign kinds.RightBrace))
record_words p cs =
    ap (λ z. type_form (map-TypeExpr TypeExpr Printed printed_type z)) (map_record tree p cs) ∙ ap type_form (map_record printed_type p (map (each_parameter tree) cs))
    ∙ ap (λ z. sign kinds.KwRecord <+> nested (sign kinds.LeftBrace <+> (z <+> sign kinds.RightBrace))) (listed_over (each_parameter printed_type) parameter (map (each_parameter tree) cs) ∙ listed_over (each_parameter tree) (λ x. parameter (each_parameter printed_type x)) cs)

record_tree : (p : Place) (cs : List Field) → tree_of (Record p cs) ≡ type_views.Record nowhere (map field_tree cs)
record_tree p cs =
    ap (λ z. erase_type_form (map-TypeExpr TypeExpr TypeExpr erased_type z)) (map_record tree p cs) ∙ ap erase_type_form (map_record erased_type p (map (each_parameter tree) cs))
    ∙ ap (λ z. type_views.Record nowhere z) (map_twice (each_parameter erased_type) parameter_nowhere (map (each_parameter tree) cs) ∙ map_twice (each_parameter tree) erased_parameter cs)

good_at : {x y : Printed} {t u : TypeExpr} → x ≡ y → t ≡ u → Good y u → Good x t
good_at {x} {y} {t} {u} i j g = subst (λ z. Good z t) (sym i) (subst (λ z. Good y z) (sym j) g)

layer_good : (y : TypeExpr-F Child) → Good (words_of y) (tree_of y)
layer_good (Boolean p) = good_boolean
layer_good (Integer p) = good_integer
layer_good (Bits p w) = good_bits w
layer_good (Enumeration p is) = good_enumeration is
layer_good (Record p cs) = good_at (record_words p cs) (record_tree p cs) (good_record cs)
layer_good (Array p i e) = good_array (printed_type i.0) (printed_type e.0) (erased_type i.0) (erased_type e.0) i.1 e.1
layer_good (Named p n) = good_named n
layer_good (OfModule p m i) = good_of_module m i

step : (y : TypeExpr-F Child) → Holds (roll-TypeExpr (layer y))
step y = good_at (fold-roll-TypeExpr Printed type_form (layer y)) (fold-roll-TypeExpr TypeExpr erase_type_form (layer y)) (layer_good y)

pub type_spelled : (t : TypeExpr) → Holds t
type_spelled = ind-TypeExpr Holds (λ x y is. subst (λ z. Holds (roll-TypeExpr z)) is (step y))

pub types_spelled : TypesAreSpelled
types_spelled t = type_spelled t
