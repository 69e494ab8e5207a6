-- The words of types.
use Rattle.std.specs.Prelude.{map}
use Rattle.uc_grammar.specs.declared.word.Kind.TheVariants.{BvType, LeftBrace, RightBrace, LeftBracket, RightBracket, Colon, Dot, KwBoolean, KwInteger, KwEnum, KwRecord}
use Rattle.uc_syntax.specs.declared.type_expression.Parameter.{Parameter}
use Rattle.uc_syntax.specs.declared.type_expression.TypeExpr.{TypeExpr}
use Rattle.uc_syntax.specs.declared.type_expression.TypeExpr.TheOpen.{TypeExpr-F}
use Rattle.uc_syntax.specs.declared.type_expression.TypeExpr.TheOpen.TypeExpr-F.{Boolean, Integer, Bits, Enumeration, Record, Array, Named, OfModule}
use Rattle.uc_syntax.specs.declared.type_expression.TypeExpr.TheVariants as types
use Rattle.uc_syntax.specs.declared.type_expression.TypeExpr.TheViews as type_views
use Rattle.uc_syntax.specs.declared.type_expression.TypeExpr.TheFolds.{fold-TypeExpr}
use Rattle.uc_print_laws.specs.Piece.{name}
use Rattle.uc_print_laws.specs.Printed.{Printed, piece, sign, identifier, ◌<+>◌, nested, listed, nowhere, erased_identifier}

-- a name with its type
abbrev pub parameter : Parameter Printed → Printed
parameter p = identifier p.identifier <+> (sign Colon <+> p.ty)

abbrev pub type_form : TypeExpr-F Printed → Printed
type_form (Boolean p) = sign KwBoolean
type_form (Integer p) = sign KwInteger
type_form (Bits p width) = sign (BvType width)
type_form (Enumeration p labels) = sign KwEnum <+> nested (sign LeftBrace <+> (listed identifier labels <+> sign RightBrace))
type_form (Record p fields) = sign KwRecord <+> nested (sign LeftBrace <+> (listed parameter fields <+> sign RightBrace))
type_form (Array p index element) = nested (sign LeftBracket <+> ((index <+> sign RightBracket) <+> element))
type_form (Named p n) = piece (name n)
type_form (OfModule p m i) = piece (name m) <+> (sign Dot <+> identifier i)

abbrev pub printed_type : TypeExpr → Printed
printed_type = fold-TypeExpr Printed type_form

-- ---- without places

abbrev pub each_parameter : {A B : Type 0} → (A → B) → Parameter A → Parameter B
each_parameter f p = record { identifier = p.identifier; ty = f p.ty }

abbrev pub parameter_nowhere : {A : Type 0} → Parameter A → Parameter A
parameter_nowhere p = record { identifier = erased_identifier p.identifier; ty = p.ty }

abbrev pub erase_type_form : TypeExpr-F TypeExpr → TypeExpr
erase_type_form (Boolean p) = types.Boolean nowhere
erase_type_form (Integer p) = types.Integer nowhere
erase_type_form (Bits p width) = types.Bits nowhere width
erase_type_form (Enumeration p labels) = types.Enumeration nowhere (map erased_identifier labels)
erase_type_form (Record p fields) = type_views.Record nowhere (map parameter_nowhere fields)
erase_type_form (Array p index element) = type_views.Array nowhere index element
erase_type_form (Named p n) = types.Named nowhere n
erase_type_form (OfModule p m i) = types.OfModule nowhere m (erased_identifier i)

abbrev pub erased_type : TypeExpr → TypeExpr
erased_type = fold-TypeExpr TypeExpr erase_type_form
