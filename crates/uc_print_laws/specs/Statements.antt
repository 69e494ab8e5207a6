-- The words of statements.
use Rattle.std.specs.Prelude.{true, false, List, [], ◌∷◌, map, Option, Some, None}
use Rattle.std.specs.Option.{option_map}
use Rattle.uc_grammar.specs.declared.word.Kind.TheVariants as kinds
use Rattle.uc_syntax.specs.declared.place.Identifier.{Identifier}
use Rattle.uc_syntax.specs.declared.type_expression.TypeExpr.{TypeExpr}
use Rattle.uc_syntax.specs.declared.statement.Arm.{Arm}
use Rattle.uc_syntax.specs.declared.statement.Target.{Target}
use Rattle.uc_syntax.specs.declared.statement.TargetPart.{TargetPart}
use Rattle.uc_syntax.specs.declared.statement.TargetPart.TheVariants.{Field, Element}
use Rattle.uc_syntax.specs.declared.statement.RangeBound.{RangeBound}
use Rattle.uc_syntax.specs.declared.statement.RangeBound.TheVariants.{Number, BitsLiteral}
use Rattle.uc_syntax.specs.declared.statement.Stmt.{Stmt}
use Rattle.uc_syntax.specs.declared.statement.Stmt.TheOpen.{Stmt-F}
use Rattle.uc_syntax.specs.declared.statement.Stmt.TheOpen.Stmt-F.{Local, Skip, Block, Assert, Assume, Havoc, Assign, If, Case, For, Call, Next}
use Rattle.uc_syntax.specs.declared.statement.Stmt.TheVariants as stmts
use Rattle.uc_syntax.specs.declared.statement.Stmt.TheViews as stmt_views
use Rattle.uc_syntax.specs.declared.statement.Stmt.TheFolds.{fold-Stmt}
use Rattle.uc_print_laws.specs.Piece.{name}
use Rattle.uc_print_laws.specs.Printed.{Printed, none, piece, sign, identifier, ◌<+>◌, nested, when, each, joined, listed, has_one, in_parens, nowhere, erased_identifier}
use Rattle.uc_print_laws.specs.Types.{printed_type, erased_type}
use Rattle.uc_print_laws.specs.Expressions.{printed_expr, erased_expr, enclosed, prime}

-- ---- targets and bounds

abbrev pub part_words : TargetPart → Printed
part_words (Field p i) = sign kinds.Dot <+> identifier i
part_words (Element p e) = nested (sign kinds.LeftBracket <+> (printed_expr e <+> sign kinds.RightBracket))

abbrev pub target_words : Target → Printed
target_words t = piece (name t.name) <+> (prime t.is_primed <+> each part_words t.parts)

abbrev pub bound_words : RangeBound → Printed
bound_words (Number p true n) = nested (sign kinds.Minus <+> sign (kinds.Number n))
bound_words (Number p false n) = sign (kinds.Number n)
bound_words (BitsLiteral p n width) = sign (kinds.BvLit n width)

-- ---- parts of statements

abbrev pub block_words : List Printed → Printed
block_words xs = nested (sign kinds.LeftBrace <+> (each (λ x. x) xs <+> sign kinds.RightBrace))

-- behind a label, where there is one
abbrev pub labelled : Option Identifier → Printed → Printed
labelled None x = x
labelled (Some i) x = identifier i <+> (sign kinds.Colon <+> x)

abbrev pub arm_words : Arm Printed → Printed
arm_words a = printed_expr a.condition <+> block_words a.body

abbrev pub further_words : Arm Printed → Printed
further_words a = sign kinds.KwElse <+> (sign kinds.KwIf <+> arm_words a)

abbrev pub else_words : Option (List Printed) → Printed
else_words None = none
else_words (Some xs) = sign kinds.KwElse <+> block_words xs

abbrev pub choice_words : List (Arm Printed) → Option (List Printed) → Printed
choice_words [] o = none
choice_words (a ∷ arms) o = sign kinds.KwIf <+> (arm_words a <+> (each further_words arms <+> else_words o))

abbrev pub case_words : Arm Printed → Printed
case_words a = printed_expr a.condition <+> (sign kinds.Colon <+> block_words a.body)

abbrev pub default_words : Option (List Printed) → Printed
default_words None = sign kinds.KwEsac
default_words (Some xs) = (sign kinds.KwDefault <+> (sign kinds.Colon <+> block_words xs)) <+> sign kinds.KwEsac

-- a loop variable without a type has no parentheses
abbrev pub variable_words : Identifier → Option TypeExpr → Printed
variable_words i None = identifier i
variable_words i (Some t) = in_parens (identifier i <+> (sign kinds.Colon <+> printed_type t))

-- a call without targets has neither parentheses nor `=`
abbrev pub called_words : List Target → Printed
called_words [] = none
called_words (t ∷ ts) = in_parens (joined kinds.Comma target_words (t ∷ ts)) <+> sign kinds.Assign

abbrev pub stmt_form : Stmt-F Printed → Printed
stmt_form (Local p is t) = sign kinds.KwVar <+> (listed identifier is <+> (sign kinds.Colon <+> (printed_type t <+> sign kinds.Semicolon)))
stmt_form (Skip p) = sign kinds.KwSkip <+> sign kinds.Semicolon
stmt_form (Block p xs) = block_words xs
stmt_form (Assert p label e) = sign kinds.KwAssert <+> labelled label (printed_expr e <+> sign kinds.Semicolon)
stmt_form (Assume p e) = sign kinds.KwAssume <+> (printed_expr e <+> sign kinds.Semicolon)
stmt_form (Havoc p i primed) = sign kinds.KwHavoc <+> (identifier i <+> (prime primed <+> sign kinds.Semicolon))
stmt_form (Assign p ts es) = listed target_words ts <+> (sign kinds.Assign <+> (listed printed_expr es <+> sign kinds.Semicolon))
stmt_form (If p arms o) = when (has_one arms) (choice_words arms o)
stmt_form (Case p arms o) = sign kinds.KwCase <+> (each case_words arms <+> default_words o)
stmt_form (For p i t from to xs) =
    sign kinds.KwFor <+> (variable_words i t <+> (sign kinds.KwIn <+> (sign (kinds.Range 0) <+> (in_parens (bound_words from <+> (sign kinds.Comma <+> bound_words to)) <+> block_words xs))))
stmt_form (Call p ts i es) = sign kinds.KwCall <+> (called_words ts <+> (identifier i <+> (enclosed printed_expr es <+> sign kinds.Semicolon)))
stmt_form (Next p i) = sign kinds.KwNext <+> (in_parens (identifier i) <+> sign kinds.Semicolon)

abbrev pub printed_stmt : Stmt → Printed
printed_stmt = fold-Stmt Printed stmt_form

-- ---- without places

abbrev pub erased_part : TargetPart → TargetPart
erased_part (Field p i) = Field nowhere (erased_identifier i)
erased_part (Element p e) = Element nowhere (erased_expr e)

abbrev pub erased_target : Target → Target
erased_target t = record { place = nowhere; name = t.name; is_primed = t.is_primed; parts = map erased_part t.parts }

abbrev pub erased_bound : RangeBound → RangeBound
erased_bound (Number p minus n) = Number nowhere minus n
erased_bound (BitsLiteral p n width) = BitsLiteral nowhere n width

abbrev pub each_arm : {A B : Type 0} → (A → B) → Arm A → Arm B
each_arm f a = record { condition = a.condition; body = map f a.body }

abbrev pub arm_nowhere : {A : Type 0} → Arm A → Arm A
arm_nowhere a = record { condition = erased_expr a.condition; body = a.body }

abbrev pub erase_stmt_form : Stmt-F Stmt → Stmt
erase_stmt_form (Local p is t) = stmts.Local nowhere (map erased_identifier is) (erased_type t)
erase_stmt_form (Skip p) = stmts.Skip nowhere
erase_stmt_form (Block p ss) = stmt_views.Block nowhere ss
erase_stmt_form (Assert p label e) = stmts.Assert nowhere (option_map erased_identifier label) (erased_expr e)
erase_stmt_form (Assume p e) = stmts.Assume nowhere (erased_expr e)
erase_stmt_form (Havoc p i primed) = stmts.Havoc nowhere (erased_identifier i) primed
erase_stmt_form (Assign p ts es) = stmts.Assign nowhere (map erased_target ts) (map erased_expr es)
erase_stmt_form (If p arms o) = stmt_views.If nowhere (map arm_nowhere arms) o
erase_stmt_form (Case p arms o) = stmt_views.Case nowhere (map arm_nowhere arms) o
erase_stmt_form (For p i t from to ss) = stmt_views.For nowhere (erased_identifier i) (option_map erased_type t) (erased_bound from) (erased_bound to) ss
erase_stmt_form (Call p ts i es) = stmts.Call nowhere (map erased_target ts) (erased_identifier i) (map erased_expr es)
erase_stmt_form (Next p i) = stmts.Next nowhere (erased_identifier i)

abbrev pub erased_stmt : Stmt → Stmt
erased_stmt = fold-Stmt Stmt erase_stmt_form
