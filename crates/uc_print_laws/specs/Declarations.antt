-- The words of commands, declarations, modules and texts.
use Rattle.std.specs.Prelude.{List, [], ◌∷◌, map, Option, Some, None}
use Rattle.std.specs.Option.{option_map}
use Rattle.uc_grammar.specs.declared.word.Kind.{Kind}
use Rattle.uc_grammar.specs.declared.word.Kind.TheVariants as kinds
use Rattle.uc_syntax.specs.declared.place.Identifier.{Identifier}
use Rattle.uc_syntax.specs.declared.type_expression.Parameter.{Parameter}
use Rattle.uc_syntax.specs.declared.type_expression.TypeExpr.{TypeExpr}
use Rattle.uc_syntax.specs.declared.statement.Stmt.{Stmt}
use Rattle.uc_syntax.specs.declared.declaration.VariableKind.{VariableKind}
use Rattle.uc_syntax.specs.declared.declaration.VariableKind.TheVariants.{Variable, Input, Output, Constant}
use Rattle.uc_syntax.specs.declared.declaration.Clause.{Clause}
use Rattle.uc_syntax.specs.declared.declaration.Clause.TheVariants.{Requires, Ensures, Modifies}
use Rattle.uc_syntax.specs.declared.declaration.Procedure as procedures
use Rattle.uc_syntax.specs.declared.declaration.Binding.{Binding}
use Rattle.uc_syntax.specs.declared.declaration.WrittenRun.{WrittenRun}
use Rattle.uc_syntax.specs.declared.declaration.WrittenRun.TheVariants.{Unroll, Induction, Verify}
use Rattle.uc_syntax.specs.declared.declaration.Command.{Command}
use Rattle.uc_syntax.specs.declared.declaration.Command.TheVariants.{Run, Check, PrintResults, PrintCounterexamples}
use Rattle.uc_syntax.specs.declared.declaration.Decl.{Decl}
use Rattle.uc_syntax.specs.declared.declaration.Decl.TheVariants.{OpaqueType, TypeAlias, TypeImport, Variables, Function, Define, Procedure, Instance, Init, Next, Invariant, Axiom, Hyperinvariant, Hyperaxiom, Control}
use Rattle.uc_syntax.specs.declared.declaration.Module.{Module}
use Rattle.uc_print_laws.specs.Piece.{name}
use Rattle.uc_print_laws.specs.Printed.{Printed, none, piece, sign, identifier, ◌<+>◌, nested, when, each, joined, listed, has_one, in_parens, nowhere, erased_identifier}
use Rattle.uc_print_laws.specs.Types.{parameter, printed_type, erased_type, each_parameter, parameter_nowhere}
use Rattle.uc_print_laws.specs.Expressions.{printed_expr, erased_expr, enclosed}
use Rattle.uc_print_laws.specs.Statements.{labelled, block_words, printed_stmt, erased_stmt}

-- ---- commands

abbrev pub run_words : WrittenRun → Printed
run_words (Unroll n) = sign (kinds.Unroll 0) <+> in_parens (sign (kinds.Number n))
run_words (Induction None) = sign (kinds.Induction 0)
run_words (Induction (Some n)) = sign (kinds.Induction 0) <+> in_parens (sign (kinds.Number n))
run_words (Verify i) = sign (kinds.Verify 0) <+> in_parens (identifier i)

abbrev pub path_words : List Identifier → Printed
path_words is = when (has_one is) (joined kinds.Dot identifier is)

abbrev pub paths_words : Option (List (List Identifier)) → Printed
paths_words None = none
paths_words (Some ps) = enclosed path_words ps

abbrev pub counterexample_words : Option (List (List Identifier)) → Printed
counterexample_words ps = sign (kinds.PrintCex 0) <+> (paths_words ps <+> sign kinds.Semicolon)

abbrev pub command_words : Command → Printed
command_words (Run p None r) = run_words r <+> sign kinds.Semicolon
command_words (Run p (Some i) r) = identifier i <+> (sign kinds.Assign <+> (run_words r <+> sign kinds.Semicolon))
command_words (Check p) = sign (kinds.Check 0) <+> sign kinds.Semicolon
command_words (PrintResults p) = sign (kinds.PrintResults 0) <+> sign kinds.Semicolon
command_words (PrintCounterexamples p None ps) = counterexample_words ps
command_words (PrintCounterexamples p (Some i) ps) = identifier i <+> (sign kinds.Dot <+> counterexample_words ps)

-- ---- declarations

abbrev pub parameter_words : Parameter TypeExpr → Printed
parameter_words p = parameter (each_parameter printed_type p)

abbrev pub code_words : List Stmt → Printed
code_words ss = block_words (map printed_stmt ss)

abbrev pub clause_words : Clause → Printed
clause_words (Requires p e) = sign kinds.KwRequires <+> (printed_expr e <+> sign kinds.Semicolon)
clause_words (Ensures p e) = sign kinds.KwEnsures <+> (printed_expr e <+> sign kinds.Semicolon)
clause_words (Modifies p is) = sign kinds.KwModifies <+> (listed identifier is <+> sign kinds.Semicolon)

abbrev pub results_words : List (Parameter TypeExpr) → Printed
results_words [] = none
results_words (r ∷ rs) = sign kinds.KwReturns <+> in_parens (listed parameter_words (r ∷ rs))

abbrev pub procedure_words : procedures.Procedure → Printed
procedure_words q = identifier q.identifier <+> (enclosed parameter_words q.parameters <+> (results_words q.results <+> (each clause_words q.clauses <+> code_words q.body)))

abbrev pub binding_words : Binding → Printed
binding_words b = identifier b.identifier <+> (sign kinds.Colon <+> in_parens (printed_expr b.expression))

abbrev pub variable_kind : VariableKind → Kind
variable_kind Variable = kinds.KwVar
variable_kind Input = kinds.KwInput
variable_kind Output = kinds.KwOutput
variable_kind Constant = kinds.KwConst

abbrev pub decl_words : Decl → Printed
decl_words (OpaqueType p i) = sign kinds.KwType <+> (identifier i <+> sign kinds.Semicolon)
decl_words (TypeAlias p i t) = sign kinds.KwType <+> (identifier i <+> (sign kinds.Assign <+> (printed_type t <+> sign kinds.Semicolon)))
decl_words (TypeImport p i) = sign kinds.KwType <+> (sign kinds.Star <+> (sign kinds.Assign <+> (((identifier i <+> sign kinds.Dot) <+> sign kinds.Star) <+> sign kinds.Semicolon)))
decl_words (Variables p k is t) = sign (variable_kind k) <+> (listed identifier is <+> (sign kinds.Colon <+> (printed_type t <+> sign kinds.Semicolon)))
decl_words (Function p i ps t) = sign kinds.KwFunction <+> (identifier i <+> (enclosed parameter_words ps <+> (sign kinds.Colon <+> (printed_type t <+> sign kinds.Semicolon))))
decl_words (Define p i ps t e) = sign kinds.KwDefine <+> (identifier i <+> (enclosed parameter_words ps <+> (sign kinds.Colon <+> (printed_type t <+> (sign kinds.Assign <+> (printed_expr e <+> sign kinds.Semicolon))))))
decl_words (Procedure p q) = sign kinds.KwProcedure <+> procedure_words q
decl_words (Instance p i m bs) = sign kinds.KwInstance <+> (identifier i <+> (sign kinds.Colon <+> (identifier m <+> (enclosed binding_words bs <+> sign kinds.Semicolon))))
decl_words (Init p ss) = sign kinds.KwInit <+> code_words ss
decl_words (Next p ss) = sign kinds.KwNext <+> code_words ss
decl_words (Invariant p i e) = sign kinds.KwInvariant <+> (identifier i <+> (sign kinds.Colon <+> (printed_expr e <+> sign kinds.Semicolon)))
decl_words (Axiom p label e) = sign kinds.KwAxiom <+> labelled label (printed_expr e <+> sign kinds.Semicolon)
decl_words (Hyperinvariant p n i e) = sign kinds.KwHyperinvariant <+> (nested (sign kinds.LeftBracket <+> (sign (kinds.Number n) <+> sign kinds.RightBracket)) <+> (identifier i <+> (sign kinds.Colon <+> (printed_expr e <+> sign kinds.Semicolon))))
decl_words (Hyperaxiom p n i e) = sign kinds.KwHyperaxiom <+> (nested (sign kinds.LeftBracket <+> (sign (kinds.Number n) <+> sign kinds.RightBracket)) <+> (identifier i <+> (sign kinds.Colon <+> (printed_expr e <+> sign kinds.Semicolon))))
decl_words (Control p cs) = sign kinds.KwControl <+> nested (sign kinds.LeftBrace <+> (each command_words cs <+> sign kinds.RightBrace))

abbrev pub module_words : Module → Printed
module_words m = sign kinds.KwModule <+> (piece (name m.name) <+> nested (sign kinds.LeftBrace <+> (each decl_words m.decls <+> sign kinds.RightBrace)))

-- a text, or a whole design
abbrev pub modules_words : List Module → Printed
modules_words ms = each module_words ms

-- ---- without places

abbrev pub erased_run : WrittenRun → WrittenRun
erased_run (Unroll n) = Unroll n
erased_run (Induction n) = Induction n
erased_run (Verify i) = Verify (erased_identifier i)

abbrev pub erased_identifiers : List Identifier → List Identifier
erased_identifiers is = map erased_identifier is

abbrev pub erased_command : Command → Command
erased_command (Run p o r) = Run nowhere (option_map erased_identifier o) (erased_run r)
erased_command (Check p) = Check nowhere
erased_command (PrintResults p) = PrintResults nowhere
erased_command (PrintCounterexamples p o ps) = PrintCounterexamples nowhere (option_map erased_identifier o) (option_map (λ qs. map erased_identifiers qs) ps)

abbrev pub erased_parameter : Parameter TypeExpr → Parameter TypeExpr
erased_parameter p = parameter_nowhere (each_parameter erased_type p)

abbrev pub erased_clause : Clause → Clause
erased_clause (Requires p e) = Requires nowhere (erased_expr e)
erased_clause (Ensures p e) = Ensures nowhere (erased_expr e)
erased_clause (Modifies p is) = Modifies nowhere (erased_identifiers is)

abbrev pub erased_procedure : procedures.Procedure → procedures.Procedure
erased_procedure q = record {
  identifier = erased_identifier q.identifier;
  parameters = map erased_parameter q.parameters;
  results = map erased_parameter q.results;
  clauses = map erased_clause q.clauses;
  body = map erased_stmt q.body;
}

abbrev pub erased_binding : Binding → Binding
erased_binding b = record { identifier = erased_identifier b.identifier; expression = erased_expr b.expression }

abbrev pub erased_decl : Decl → Decl
erased_decl (OpaqueType p i) = OpaqueType nowhere (erased_identifier i)
erased_decl (TypeAlias p i t) = TypeAlias nowhere (erased_identifier i) (erased_type t)
erased_decl (TypeImport p i) = TypeImport nowhere (erased_identifier i)
erased_decl (Variables p k is t) = Variables nowhere k (erased_identifiers is) (erased_type t)
erased_decl (Function p i ps t) = Function nowhere (erased_identifier i) (map erased_parameter ps) (erased_type t)
erased_decl (Define p i ps t e) = Define nowhere (erased_identifier i) (map erased_parameter ps) (erased_type t) (erased_expr e)
erased_decl (Procedure p q) = Procedure nowhere (erased_procedure q)
erased_decl (Instance p i m bs) = Instance nowhere (erased_identifier i) (erased_identifier m) (map erased_binding bs)
erased_decl (Init p ss) = Init nowhere (map erased_stmt ss)
erased_decl (Next p ss) = Next nowhere (map erased_stmt ss)
erased_decl (Invariant p i e) = Invariant nowhere (erased_identifier i) (erased_expr e)
erased_decl (Axiom p label e) = Axiom nowhere (option_map erased_identifier label) (erased_expr e)
erased_decl (Hyperinvariant p n i e) = Hyperinvariant nowhere n (erased_identifier i) (erased_expr e)
erased_decl (Hyperaxiom p n i e) = Hyperaxiom nowhere n (erased_identifier i) (erased_expr e)
erased_decl (Control p cs) = Control nowhere (map erased_command cs)

abbrev pub erased_module : Module → Module
erased_module m = record { place = nowhere; name = m.name; decls = map erased_decl m.decls }

abbrev pub erased_modules : List Module → List Module
erased_modules ms = map erased_module ms
