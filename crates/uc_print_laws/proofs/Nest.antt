-- What is printed of each nested form.
use Rattle.std.proofs.Common.{ℕ, Some, None}
use Rattle.uc_forms.specs.Form.{deep}
use Rattle.uc_grammar.specs.declared.word.Kind.TheVariants as kinds
use Rattle.uc_grammar.specs.Syntax.{Nested, Value, enum_braces, record_braces, array, arguments, in_name, parens, brackets, sign_operand, if_expression, target_index, block, typed_name, range_bounds, negative_bound, call_targets, in_number, maybe_number, paths, control_braces, params, results, binds, bind_value, hyper_number, module_braces}
use Rattle.uc_syntax.specs.declared.expression.Expr.{Expr}
use Rattle.uc_print_laws.specs.Piece.{Piece}
use Rattle.uc_print_laws.specs.Printed.{Printed, sign, identifier, ◌<+>◌, nested, each, listed, in_parens}
use Rattle.uc_print_laws.specs.Types.{printed_type}
use Rattle.uc_print_laws.specs.Expressions.{leveled, at, printed_expr, enclosed, each_selection, selection_words}
use Rattle.uc_print_laws.specs.Statements.{part_words, target_words, bound_words}
use Rattle.uc_print_laws.specs.Declarations.{path_words, command_words, parameter_words, code_words, binding_words, decl_words}
use Rattle.uc_print_laws.proofs.Good.{Good}
use Rattle.uc_print_laws.proofs.ShapedSteps.{Deeper, Keeps}

abbrev braced : Printed → Printed
braced x = nested (sign kinds.LeftBrace <+> (x <+> sign kinds.RightBrace))

-- an expression that may stand where those of at most this height may
abbrev pub At : (Piece → Type 0) → ℕ → ℕ → Expr → Type 0
At P m k e = Good P m (at k (leveled e))

abbrev pub Nest : (Piece → Type 0) → ℕ → (n : Nested) → Value n → Type 0
Nest P m enum_braces is = Good P m (braced (listed identifier is))
Nest P m record_braces fs = Good P m (braced (listed parameter_words fs))
Nest P m array t = Good P m (printed_type t)
Nest P m arguments es = Good P m (enclosed printed_expr es)
Nest P m in_name i = Good P m (in_parens (identifier i))
Nest P m parens p = Good P m (in_parens (printed_expr p.1))
Nest P m brackets s = Good P m (selection_words (each_selection leveled s))
Nest P m sign_operand p = At P m 0 p.1
Nest P m if_expression p = At P m 12 p.1
Nest P m target_index t = Good P m (part_words t)
Nest P m block b = Good P m (code_words b.1)
Nest P m typed_name p = Good P m (in_parens (parameter_words p))
Nest P m range_bounds b = Good P m (in_parens (bound_words b.0 <+> (sign kinds.Comma <+> bound_words b.1)))
Nest P m negative_bound b = Good P m (bound_words b)
Nest P m call_targets ts = Good P m (enclosed target_words ts)
Nest P m in_number n = Good P m (in_parens (sign (kinds.Number n)))
Nest P m maybe_number o = elim o [ None ↦ Unit {0} | Some n ↦ Good P m (in_parens (sign (kinds.Number n))) ]
Nest P m paths ps = Good P m (enclosed path_words ps)
Nest P m control_braces cs = Good P m (braced (each command_words cs))
Nest P m params ps = Good P m (enclosed parameter_words ps)
Nest P m results ps = Good P m (in_parens (listed parameter_words ps))
Nest P m binds bs = Good P m (enclosed binding_words bs)
Nest P m bind_value e = Good P m (in_parens (printed_expr e))
Nest P m hyper_number n = Good P m (nested (sign kinds.LeftBracket <+> (sign (kinds.Number n) <+> sign kinds.RightBracket)))
Nest P m module_braces ds = Good P m (braced (each decl_words ds))

-- so it is with all nested forms that are spelled so
abbrev pub Deep : (Piece → Type 0) → ℕ → Deeper → Type 0
Deep P m L = (n : Nested) → Keeps P L (deep n) (Nest P m n)
