-- The first form of a design, in the order of its texts, that does not run today.
use Rattle.std.specs.Prelude.{ℕ, zero, suc, Bool, true, false, if◌then◌else◌, List, [], ◌∷◌, drop, Option, Some, None}
use Rattle.std.specs.Option.{option_or}
use Rattle.uc_lexer.specs.declared.place.Place.{Place}
use Rattle.uc_syntax.specs.declared.type_expression.TypeExpr.{TypeExpr}
use Rattle.uc_syntax.specs.declared.type_expression.TypeExpr.TheOpen.{TypeExpr-F}
use Rattle.uc_syntax.specs.declared.type_expression.TypeExpr.TheOpen.TypeExpr-F.{Integer, Record, Array}
use Rattle.uc_syntax.specs.declared.type_expression.TypeExpr.TheFolds.{fold-TypeExpr}
use Rattle.uc_syntax.specs.declared.expression.BitFunction.{BitFunction}
use Rattle.uc_syntax.specs.declared.expression.BitFunction.TheVariants.{ZeroExtend, SignExtend}
use Rattle.uc_syntax.specs.declared.expression.Expr.{Expr}
use Rattle.uc_syntax.specs.declared.expression.Expr.TheOpen.{Expr-F}
use Rattle.uc_syntax.specs.declared.expression.Expr.TheOpen.Expr-F.{If, Iff, Implies, Or, And, Compare, BitOr, BitXor, BitAnd, Concat, Sum, Product, Unary, Selected}
use Rattle.uc_syntax.specs.declared.expression.Expr.TheFolds.{fold-Expr}
use Rattle.uc_syntax.specs.declared.expression.Primary.{Primary}
use Rattle.uc_syntax.specs.declared.expression.Primary.TheVariants.{Number, Apply, OnBits, Grouped}
use Rattle.uc_syntax.specs.declared.expression.Selection.{Selection}
use Rattle.uc_syntax.specs.declared.expression.Selection.TheVariants.{Element, Update}
use Rattle.uc_syntax.specs.declared.statement.Target.{Target}
use Rattle.uc_syntax.specs.declared.statement.TargetPart.{TargetPart}
use Rattle.uc_syntax.specs.declared.statement.TargetPart.TheVariants.{Element as ElementOf}
use Rattle.uc_syntax.specs.declared.statement.Arm.{Arm}
use Rattle.uc_syntax.specs.declared.statement.Stmt.{Stmt}
use Rattle.uc_syntax.specs.declared.statement.Stmt.TheOpen.{Stmt-F}
use Rattle.uc_syntax.specs.declared.statement.Stmt.TheOpen.Stmt-F.{Local, Block, Assert, Assume, Assign, If as Choice, Case as Cases, For, Call}
use Rattle.uc_syntax.specs.declared.statement.Stmt.TheFolds.{fold-Stmt}
use Rattle.uc_syntax.specs.declared.declaration.Command.{Command}
use Rattle.uc_syntax.specs.declared.declaration.Decl.{Decl}
use Rattle.uc_syntax.specs.declared.declaration.Decl.TheVariants.{OpaqueType, TypeAlias, TypeImport, Variables, Function, Define, Procedure, Instance, Init, Next, Invariant, Axiom, Hyperinvariant, Hyperaxiom, Control}
use Rattle.uc_syntax.specs.declared.declaration.Module.{Module}
use Rattle.uc_meaning.specs.Lookup.{first_some}
use Rattle.uc_runnable.specs.Commands.{runs, stands_at}

abbrev pub first_of : List (Option Place) → Option Place
first_of parts = first_some (λ o. o) parts

-- ---- numbers that are expressions

abbrev pub is_extension : BitFunction → Bool
is_extension ZeroExtend = true
is_extension SignExtend = true
is_extension other = false

-- the number of an extension is no expression
abbrev pub expressions_among : {A : Type 0} → BitFunction → List A → List A
expressions_among function arguments = if is_extension function then drop 1 arguments else arguments

abbrev pub number_in_primary : Place → Primary (Option Place) → Option Place
number_in_primary place (Number n) = Some place
number_in_primary place (Apply f arguments) = first_of arguments
number_in_primary place (OnBits function arguments) = first_of (expressions_among function arguments)
number_in_primary place (Grouped e) = e
number_in_primary place other = None

abbrev pub number_in_selection : Selection (Option Place) → Option Place
number_in_selection (Element place i) = i
number_in_selection (Update place i v) = option_or i v
number_in_selection other = None

abbrev pub number_form : Expr-F (Option Place) → Option Place
number_form (If place branches otherwise) = option_or (first_some (λ b. option_or b.condition b.value) branches) otherwise
number_form (Iff place parts marks) = first_of parts
number_form (Implies place parts marks) = first_of parts
number_form (Or place parts marks) = first_of parts
number_form (And place parts marks) = first_of parts
number_form (Compare place how mark a b) = option_or a b
number_form (BitOr place parts marks) = first_of parts
number_form (BitXor place parts marks) = first_of parts
number_form (BitAnd place parts marks) = first_of parts
number_form (Concat place parts marks) = first_of parts
number_form (Sum place parts signs) = first_of parts
number_form (Product place parts marks) = first_of parts
number_form (Unary place operator e) = e
number_form (Selected place primary selections) = option_or (number_in_primary place primary) (first_some number_in_selection selections)

-- the first number in an expression that is an expression
unfoldable pub number_in : Expr → Option Place
number_in = fold-Expr (Option Place) number_form

abbrev pub number_in_part : TargetPart → Option Place
number_in_part (ElementOf place e) = number_in e
number_in_part other = None

-- the first number in the indices of a target
abbrev pub number_in_target : Target → Option Place
number_in_target t = first_some number_in_part t.parts

-- ---- types

-- the type of whole numbers, and an array, at their first words
abbrev pub outside_type_form : TypeExpr-F (Option Place) → Option Place
outside_type_form (Integer place) = Some place
outside_type_form (Record place fields) = first_some (λ p. p.ty) fields
outside_type_form (Array place index element) = Some place
outside_type_form other = None

unfoldable pub outside_type : TypeExpr → Option Place
outside_type = fold-TypeExpr (Option Place) outside_type_form

-- ---- statements

abbrev pub outside_arm : Arm (Option Place) → Option Place
outside_arm a = option_or (number_in a.condition) (first_of a.body)

abbrev pub outside_else : Option (List (Option Place)) → Option Place
outside_else None = None
outside_else (Some block) = first_of block

-- an assertion and a loop, at their words; of the others, the first form in them
abbrev pub outside_statement_form : Stmt-F (Option Place) → Option Place
outside_statement_form (Local place names type) = outside_type type
outside_statement_form (Block place block) = first_of block
outside_statement_form (Assert place label e) = Some place
outside_statement_form (Assume place e) = number_in e
outside_statement_form (Assign place targets sources) = option_or (first_some number_in_target targets) (first_some number_in sources)
outside_statement_form (Choice place arms otherwise) = option_or (first_some outside_arm arms) (outside_else otherwise)
outside_statement_form (Cases place arms otherwise) = option_or (first_some outside_arm arms) (outside_else otherwise)
outside_statement_form (For place x type from to block) = Some place
outside_statement_form (Call place targets f arguments) = option_or (first_some number_in_target targets) (first_some number_in arguments)
outside_statement_form other = None

unfoldable pub outside_statement : Stmt → Option Place
outside_statement = fold-Stmt (Option Place) outside_statement_form

abbrev pub outside_block : List Stmt → Option Place
outside_block block = first_some outside_statement block

-- ---- control blocks

-- a command that does not run, at its first word
abbrev pub outside_command : Command → Option Place
outside_command c = if runs c then None else Some (stands_at c)

-- ---- declarations

-- a declaration of a form that does not run as a whole, at its first word; of the others, the first form in them
abbrev pub outside_declaration : Decl → Option Place
outside_declaration (OpaqueType place i) = Some place
outside_declaration (TypeAlias place i type) = outside_type type
outside_declaration (TypeImport place m) = None
outside_declaration (Variables place kind names type) = outside_type type
outside_declaration (Function place i parameters type) = Some place
outside_declaration (Define place i parameters type body) = Some place
outside_declaration (Procedure place p) = Some place
outside_declaration (Instance place i m bindings) = Some place
outside_declaration (Init place block) = outside_block block
outside_declaration (Next place block) = outside_block block
outside_declaration (Invariant place i e) = number_in e
outside_declaration (Axiom place i e) = number_in e
outside_declaration (Hyperinvariant place copies i e) = Some place
outside_declaration (Hyperaxiom place copies i e) = Some place
outside_declaration (Control place commands) = first_some outside_command commands

abbrev pub outside_module : Module → Option Place
outside_module m = first_some outside_declaration m.decls

-- The first such form in modules, of which main has a number: any other module, at its word, and in main what its declarations have.
abbrev pub outside_in : List Module → ℕ → Option Place
outside_in [] main = None
outside_in (m ∷ ms) zero = option_or (outside_module m) (first_some (λ n. Some n.place) ms)
outside_in (m ∷ ms) (suc main) = Some m.place
