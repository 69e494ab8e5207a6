-- The last alternatives of a type, which functions of their own read.
use Rattle.uc_forms.specs.Form.{both, made, deep, word, after, ◌<|>◌}
use Rattle.uc_grammar.specs.declared.word.Kind.TheVariants.{KwEnum, KwRecord, Dot}
use Rattle.uc_grammar.specs.Syntax.{F, enum_braces, record_braces, array, a_name, id, optional, named_type}
use Rattle.uc_syntax.specs.declared.type_expression.TypeExpr.{TypeExpr}
use Rattle.uc_syntax.specs.declared.type_expression.TypeExpr.TheVariants as types
use Rattle.uc_syntax.specs.declared.type_expression.TypeExpr.TheViews as type_views

-- a name, and maybe a name of a module's type behind it
unfoldable pub named : F TypeExpr
named = made named_type (both a_name (optional (after Dot id)))

-- an enum, a record, an array or a name
unfoldable pub braced : F TypeExpr
unfolding named
braced = made (λ x. types.Enumeration x.0.place x.1) (both (word KwEnum) (deep enum_braces))
    <|> made (λ x. type_views.Record x.0.place x.1) (both (word KwRecord) (deep record_braces))
    <|> deep array
    <|> named
