-- The productions of the grammar as they are usually written: one form for each way, none with a common start taken out.
-- In what a form spells, the order of its alternatives means nothing.
use Rattle.std.specs.Prelude.{ℕ, true, false, List, [], ◌∷◌, Option, Some, None}
use Rattle.std.proofs.Common.{inr}
use Rattle.uc_forms.specs.Form.{both, made, deep, word, one_of, after, before, many, joined_by, ◌<|>◌}
use Rattle.uc_lexer.specs.declared.place.Place.{Place}
use Rattle.uc_syntax.specs.declared.place.Identifier.{Identifier}
use Rattle.uc_syntax.specs.declared.type_expression.Parameter.{Parameter}
use Rattle.uc_syntax.specs.declared.type_expression.TypeExpr.{TypeExpr}
use Rattle.uc_syntax.specs.declared.type_expression.TypeExpr.TheVariants as types
use Rattle.uc_syntax.specs.declared.type_expression.TypeExpr.TheViews as type_views
use Rattle.uc_syntax.specs.declared.expression.Branch.{Branch}
use Rattle.uc_syntax.specs.declared.expression.Selection.{Selection}
use Rattle.uc_syntax.specs.declared.expression.Selection.TheVariants as selections
use Rattle.uc_syntax.specs.declared.expression.Primary.TheVariants as primaries
use Rattle.uc_syntax.specs.declared.expression.Expr.{Expr}
use Rattle.uc_syntax.specs.declared.expression.Expr.TheViews as expressions
use Rattle.uc_syntax.specs.declared.statement.Stmt.{Stmt}
use Rattle.uc_syntax.specs.declared.statement.Stmt.TheVariants as statements_
use Rattle.uc_syntax.specs.declared.statement.Stmt.TheViews as statement_views
use Rattle.uc_syntax.specs.declared.statement.Target.{Target}
use Rattle.uc_syntax.specs.declared.declaration.Binding.{Binding}
use Rattle.uc_syntax.specs.declared.declaration.Command.{Command}
use Rattle.uc_syntax.specs.declared.declaration.Command.TheVariants as commands
use Rattle.uc_syntax.specs.declared.declaration.Decl.{Decl}
use Rattle.uc_syntax.specs.declared.declaration.Decl.TheVariants as declarations
use Rattle.uc_grammar.specs.declared.word.Word.{Word}
use Rattle.uc_grammar.specs.declared.word.Kind.TheVariants.{Check, PrintResults, PrintCex, Number, BvType, BvLit, LeftParen, RightParen, LeftBrace, RightBrace, LeftBracket, RightBracket, Semicolon, Colon, Dot, Prime, Assign, Star, Arrow, KwType, KwBoolean, KwInteger, KwEnum, KwRecord, KwIf, KwElse, KwCase, KwDefault, KwEsac, KwVar, KwInput, KwOutput, KwConst, KwFunction, KwDefine, KwProcedure, KwInstance, KwInit, KwNext, KwInvariant, KwAxiom, KwHyperinvariant, KwHyperaxiom, KwControl, KwSkip, KwAssert, KwAssume, KwHavoc, KwOld, KwTrue, KwFalse}
use Rattle.uc_grammar.specs.Code.{name_in, value_in, width_in}
use Rattle.uc_grammar.specs.Syntax.{F, Placed, Head, enum_braces, record_braces, array, arguments, in_name, parens, brackets, block, paths, params, binds, bind_value, hyper_number, control_braces, a_name, id, new_id, optional, has, listed, ty, parameter, head, applied, expr, branch, equivalence, arm, statements, statement, target, targets, place_of, for_statement, call_statement, run, command, variable_kind, procedure, hyper_of, declaration}

-- Type = "boolean" | "integer" | BvType | "enum" "{" Ids "}" | "record" "{" Params "}" | "[" Type "]" Type | Id | Id "." Id
unfoldable pub written_ty : F TypeExpr
written_ty = made (λ w. types.Boolean w.place) (word KwBoolean)
    <|> made (λ w. types.Integer w.place) (word KwInteger)
    <|> made (λ w. types.Bits w.place (width_in w.kind)) (word (BvType 0))
    <|> made (λ x. types.Enumeration x.0.place x.1) (both (word KwEnum) (deep enum_braces))
    <|> made (λ x. type_views.Record x.0.place x.1) (both (word KwRecord) (deep record_braces))
    <|> deep array
    <|> made (λ w. types.Named w.place (name_in w.kind)) a_name
    <|> made (λ x. types.OfModule x.0.place (name_in x.0.kind) x.1) (both a_name (after Dot id))

-- Prim = "true" | "false" | Num | BvLit | "old" "(" Id ")" | "(" Expr ")" | Id ["'"] | Id "(" [Exprs] ")"
unfoldable pub written_primary : F Head
written_primary = made (λ w. head w.place (primaries.Truth true)) (word KwTrue)
    <|> made (λ w. head w.place (primaries.Truth false)) (word KwFalse)
    <|> made (λ w. head w.place (primaries.Number (value_in w.kind))) (word (Number 0))
    <|> made (λ w. head w.place (primaries.BitsLiteral (value_in w.kind) (width_in w.kind))) (word (BvLit 0 0))
    <|> made (λ x. head x.0.place (primaries.Old x.1)) (both (word KwOld) (deep in_name))
    <|> made (λ p. (p.0, inr p.1)) (deep parens)
    <|> made (λ x. head x.0.place (primaries.Name (name_in x.0.kind) (has x.1))) (both a_name (optional (word Prime)))
    <|> made (λ x. head x.0.place (applied x.0.kind x.1)) (both a_name (deep arguments))

-- Sel = "." Id | "." Num | a selection in brackets
unfoldable pub written_selection : F (Selection Expr)
written_selection = made (λ x. selections.Field x.0.place x.1) (both (word Dot) id)
    <|> made (λ x. selections.Copy x.0.place (value_in x.1.kind)) (both (word Dot) (word (Number 0)))
    <|> deep brackets

-- "[" Expr "]" | "[" Expr "->" Expr "]" | "[" Num ":" Num "]"
unfoldable pub written_brackets : F (Selection Expr)
written_brackets = made (λ x. selections.Element x.0.place x.1) (both (word LeftBracket) (before expr RightBracket))
    <|> made (λ x. selections.Update x.0.place x.1.0 x.1.1) (both (word LeftBracket) (both expr (after Arrow (before expr RightBracket))))
    <|> made (λ x. selections.Extract x.0.place (value_in x.1.0.kind) (value_in x.1.1.kind)) (both (word LeftBracket) (both (word (Number 0)) (after Colon (before (word (Number 0)) RightBracket))))

-- the arms of a chain of `if`, and what stands behind the last `else`
abbrev pub Arms : Type 0
Arms = List (Branch Expr) × Placed

-- the arms of an `if` expression as the grammar spells them
unfoldable pub arms : F Arms
arms = made (λ x. (x.0 ∷ x.1.0, x.1.1)) (both branch (both (many branch) equivalence))

-- "if" Expr "then" Expr "else" Expr, where an `if` that stands behind `else` goes on with the arms of the first, no deeper than it: ifs
-- is what spells it
unfoldable pub written_arms : F Arms → F Arms
written_arms ifs = made (λ x. (x.0 ∷ x.1.0, x.1.1)) (both branch (ifs <|> made (λ e. ([], e)) equivalence))

-- an `if` expression, with all its arms in one node
abbrev pub node_of : Arms → Placed
node_of ([], e) = e
node_of (b ∷ bs, e) = (b.place, expressions.If b.place (b ∷ bs) e.1)

unfoldable pub written_if : F Placed
written_if = made node_of arms

-- none where it is not there
abbrev pub or_none : {A : Type 0} → Option (List A) → List A
or_none (Some xs) = xs
or_none None = []

-- "(" [f] ")"
abbrev pub in_parens : {A : Type 0} → F (List A) → F (List A)
in_parens f = after LeftParen (before (made or_none (optional f)) RightParen)

abbrev pub written_arguments : F (List Expr)
written_arguments = in_parens (listed expr)

abbrev pub written_params : F (List (Parameter TypeExpr))
written_params = in_parens (listed parameter)

-- Bind = Id ":" "(" Expr ")"
abbrev pub written_binds : F (List Binding)
written_binds = in_parens (listed (made (λ x. record { identifier = x.0; expression = x.1 }) (both id (after Colon (deep bind_value)))))

abbrev pub written_call_targets : F (List Target)
written_call_targets = in_parens (listed target)

-- Path = Id { "." Id }
abbrev pub written_paths : F (List (List Identifier))
written_paths = in_parens (listed (joined_by Dot id))

-- "(" [Num] ")"
abbrev pub written_maybe_number : F (Option ℕ)
written_maybe_number = after LeftParen (before (optional (made (λ w. value_in w.kind) (word (Number 0)))) RightParen)

-- "{" { f } "}"
abbrev pub in_braces : {A : Type 0} → F A → F (Word × List A)
in_braces f = both (word LeftBrace) (before (many f) RightBrace)

-- Block = "{" { Stmt } "}"
unfoldable pub written_block : F (Place × List Stmt)
written_block = made (λ x. (x.0.place, x.1)) (in_braces statement)

unfoldable pub written_control_braces : F (List Command)
written_control_braces = made (λ x. x.1) (in_braces command)

unfoldable pub written_module_braces : F (List Decl)
written_module_braces = made (λ x. x.1) (in_braces declaration)

-- [Id ":"] Expr ";", where the label is a name that the form n takes
abbrev pub labelled_expr : F Identifier → F (Option Identifier × Expr)
labelled_expr n = both (optional (before n Colon)) (before expr Semicolon)

-- "if" Expr Block { "else" "if" Expr Block } ["else" Block]
unfoldable pub written_if_statement : F Stmt
written_if_statement = made (λ x. statement_views.If x.0.place (x.1.0 ∷ x.1.1.0) x.1.1.1) (both (word KwIf) (both arm (both (many (after KwElse (after KwIf arm))) (optional (after KwElse statements)))))

-- "case" { Expr ":" Block } ["default" ":" Block] "esac"
unfoldable pub written_case_statement : F Stmt
written_case_statement = made (λ x. statement_views.Case x.0.place x.1.0 x.1.1.0)
    (both (word KwCase) (both (many (made (λ x. record { condition = x.0; body = x.1 }) (both expr (after Colon statements)))) (both (optional (after KwDefault (after Colon statements))) (word KwEsac))))

-- Stmt = "var" Ids ":" Type ";" | "skip" ";" | Block | "assert" [Id ":"] Expr ";" | "assume" Expr ";" | "havoc" Id ["'"] ";" | an `if` | a `case` | a `for`
--      | a `call` | "next" "(" Id ")" ";" | Targets "=" Exprs ";"
unfoldable pub written_statement : F Stmt
written_statement = made (λ x. statements_.Local x.0.place x.1.0 x.1.1) (both (word KwVar) (both (listed new_id) (after Colon (before ty Semicolon))))
    <|> made (λ x. statements_.Skip x.0.place) (both (word KwSkip) (word Semicolon))
    <|> made (λ b. statement_views.Block b.0 b.1) (deep block)
    <|> made (λ x. statements_.Assert x.0.place x.1.0 x.1.1) (both (word KwAssert) (labelled_expr id))
    <|> made (λ x. statements_.Assume x.0.place x.1) (both (word KwAssume) (before expr Semicolon))
    <|> made (λ x. statements_.Havoc x.0.place x.1.0 (has x.1.1)) (both (word KwHavoc) (both id (before (optional (word Prime)) Semicolon)))
    <|> written_if_statement <|> written_case_statement <|> for_statement <|> call_statement
    <|> made (λ x. statements_.Next x.0.place x.1) (both (word KwNext) (before (deep in_name) Semicolon))
    <|> made (λ x. statements_.Assign (place_of x.0) x.0 x.1) (both targets (after Assign (before (listed expr) Semicolon)))

-- the place of a command's first word: its name, if it has one
abbrev pub first_place : Option Identifier → Place → Place
first_place (Some i) p = i.place
first_place None p = p

-- Command = [Id "="] Run ";" | "check" ";" | "print_results" ";" | [Id "."] "print_cex" ["(" [Paths] ")"] ";"
unfoldable pub written_command : F Command
written_command = made (λ x. commands.Run (first_place x.0 x.1.0) x.0 x.1.1) (both (optional (before id Assign)) (before run Semicolon))
    <|> made (λ w. commands.Check w.place) (before (word (Check 0)) Semicolon)
    <|> made (λ w. commands.PrintResults w.place) (before (word (PrintResults 0)) Semicolon)
    <|> made (λ x. commands.PrintCounterexamples (first_place x.0 x.1.0.place) x.0 x.1.1) (both (optional (before id Dot)) (both (word (PrintCex 0)) (before (optional (deep paths)) Semicolon)))

-- "type" Id ";" | "type" Id "=" Type ";" | "type" "*" "=" Id "." "*" ";"
unfoldable pub written_type_declaration : F Decl
written_type_declaration = made (λ x. declarations.OpaqueType x.0.place x.1) (both (word KwType) (before new_id Semicolon))
    <|> made (λ x. declarations.TypeAlias x.0.place x.1.0 x.1.1) (both (word KwType) (both new_id (after Assign (before ty Semicolon))))
    <|> made (λ x. declarations.TypeImport x.0.place x.1) (both (word KwType) (after Star (after Assign (before (before (before id Dot) Star) Semicolon))))

-- Decl = a declaration of a type | ("var" | "input" | "output" | "const") Ids ":" Type ";" | "function" Id "(" [Params] ")" ":" Type ";"
--      | "define" Id "(" [Params] ")" ":" Type "=" Expr ";" | "procedure" .. | "instance" Id ":" Id "(" [Binds] ")" ";" | "init" Block | "next" Block
--      | "invariant" Id ":" Expr ";" | "axiom" [Id ":"] Expr ";" | ("hyperinvariant" | "hyperaxiom") "[" Num "]" Id ":" Expr ";" | "control" "{" { Command } "}"
unfoldable pub written_declaration : F Decl
written_declaration = written_type_declaration
    <|> made (λ x. declarations.Variables x.0.place (variable_kind x.0.kind) x.1.0 x.1.1) (both (one_of KwVar (KwInput ∷ KwOutput ∷ KwConst ∷ [])) (both (listed new_id) (after Colon (before ty Semicolon))))
    <|> made (λ x. declarations.Function x.0.place x.1.0 x.1.1.0 x.1.1.1) (both (word KwFunction) (both new_id (both (deep params) (after Colon (before ty Semicolon)))))
    <|> made (λ x. declarations.Define x.0.place x.1.0 x.1.1.0 x.1.1.1.0 x.1.1.1.1) (both (word KwDefine) (both new_id (both (deep params) (after Colon (both ty (after Assign (before expr Semicolon)))))))
    <|> made (λ x. declarations.Procedure x.0.place x.1) (both (word KwProcedure) procedure)
    <|> made (λ x. declarations.Instance x.0.place x.1.0 x.1.1.0 x.1.1.1) (both (word KwInstance) (both new_id (after Colon (both id (before (deep binds) Semicolon)))))
    <|> made (λ x. declarations.Init x.0.place x.1) (both (word KwInit) statements)
    <|> made (λ x. declarations.Next x.0.place x.1) (both (word KwNext) statements)
    <|> made (λ x. declarations.Invariant x.0.place x.1.0 x.1.1) (both (word KwInvariant) (both new_id (after Colon (before expr Semicolon))))
    <|> made (λ x. declarations.Axiom x.0.place x.1.0 x.1.1) (both (word KwAxiom) (labelled_expr new_id))
    <|> made hyper_of (both (one_of KwHyperinvariant (KwHyperaxiom ∷ [])) (both (deep hyper_number) (both new_id (after Colon (before expr Semicolon)))))
    <|> made (λ x. declarations.Control x.0.place x.1) (both (word KwControl) (deep control_braces))
