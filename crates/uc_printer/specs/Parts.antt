-- What is printed of parts of declarations.
use Rattle.std.specs.Prelude.{ℕ, List}
use Rattle.uc_grammar.specs.declared.word.Kind.TheVariants as kinds
use Rattle.uc_syntax.specs.declared.place.Identifier.{Identifier}
use Rattle.uc_syntax.specs.declared.type_expression.Parameter.{Parameter}
use Rattle.uc_syntax.specs.declared.type_expression.TypeExpr.{TypeExpr}
use Rattle.uc_syntax.specs.declared.expression.Expr.{Expr}
use Rattle.uc_print_laws.specs.Printed.{Printed, sign, identifier, ◌<+>◌, nested}
use Rattle.uc_print_laws.specs.Types.{printed_type}
use Rattle.uc_print_laws.specs.Expressions.{enclosed, printed_expr}
use Rattle.uc_print_laws.specs.Declarations.{parameter_words}

-- a name with its parameters and its type
abbrev pub function_head : Identifier → List (Parameter TypeExpr) → TypeExpr → Printed
function_head i ps t = identifier i <+> (enclosed parameter_words ps <+> (sign kinds.Colon <+> printed_type t))

-- a name with its formula
abbrev pub formula : Identifier → Expr → Printed
formula i e = identifier i <+> (sign kinds.Colon <+> (printed_expr e <+> sign kinds.Semicolon))

-- the same behind the number of copies
abbrev pub hyper_formula : ℕ → Identifier → Expr → Printed
hyper_formula n i e = nested (sign kinds.LeftBracket <+> (sign (kinds.Number n) <+> sign kinds.RightBracket)) <+> formula i e
