-- The grammar of the language, as forms whose values are the syntax trees.
use Rattle.std.specs.Prelude.{ℕ, Bool, true, false, map, List, [], ◌∷◌, Option, Some, None, ◌⊎◌, refl}
use Rattle.std.proofs.Common.{inl, inr}
use Rattle.uc_forms.specs.Alphabet.{Alphabet}
use Rattle.uc_forms.specs.Form.{Mark, quiet, declares, Form, nothing, both, either, chain, until, made, ahead, deep, Rules, word, one_of, declared, restart, after, before, many, joined_by, ◌<|>◌}
use Rattle.uc_grammar.specs.declared.word.Word.{Word}
use Rattle.uc_grammar.specs.declared.word.Kind.{Kind}
use Rattle.uc_grammar.specs.declared.word.Kind.TheVariants.{Name, OnBits, Range, Unroll, Induction, Verify, Check, PrintResults, PrintCex, Number, BvType, BvLit, LeftParen, RightParen, LeftBrace, RightBrace, LeftBracket, RightBracket, Comma, Semicolon, Colon, Dot, Prime, Assign, Equal, NotEqual, Iff, Implies, And, Or, Not, Less, LessEqual, Greater, GreaterEqual, LessUnsigned, LessEqualUnsigned, GreaterUnsigned, GreaterEqualUnsigned, Plus, Minus, Star, Concat, Ampersand, Bar, Caret, Tilde, Arrow, KwModule, KwType, KwVar, KwInput, KwOutput, KwConst, KwFunction, KwDefine, KwProcedure, KwReturns, KwRequires, KwEnsures, KwModifies, KwInstance, KwInit, KwNext, KwInvariant, KwAxiom, KwHyperinvariant, KwHyperaxiom, KwControl, KwBoolean, KwInteger, KwEnum, KwRecord, KwIf, KwElse, KwThen, KwCase, KwDefault, KwEsac, KwFor, KwIn, KwCall, KwSkip, KwAssert, KwAssume, KwHavoc, KwOld, KwTrue, KwFalse}
use Rattle.uc_grammar.specs.Code.{code_of, name_in, value_in, width_in}
use Rattle.uc_lexer.specs.declared.place.Place.{Place}
use Rattle.uc_syntax.specs.declared.place.Identifier.{Identifier}
use Rattle.uc_syntax.specs.declared.type_expression.Parameter.{Parameter}
use Rattle.uc_syntax.specs.declared.type_expression.TypeExpr.{TypeExpr}
use Rattle.uc_syntax.specs.declared.type_expression.TypeExpr.TheVariants as types
use Rattle.uc_syntax.specs.declared.type_expression.TypeExpr.TheViews as type_views
use Rattle.uc_syntax.specs.declared.expression.UnaryOperator.{UnaryOperator}
use Rattle.uc_syntax.specs.declared.expression.UnaryOperator.TheVariants as unary_operators
use Rattle.uc_syntax.specs.declared.expression.Comparison.{Comparison}
use Rattle.uc_syntax.specs.declared.expression.Comparison.TheVariants as comparisons
use Rattle.uc_syntax.specs.declared.expression.SumSign.{SumSign}
use Rattle.uc_syntax.specs.declared.expression.BitFunction.TheVariants as bit_functions
use Rattle.uc_syntax.specs.declared.expression.Branch.{Branch}
use Rattle.uc_syntax.specs.declared.expression.Selection.{Selection}
use Rattle.uc_syntax.specs.declared.expression.Selection.TheVariants as selections_
use Rattle.uc_syntax.specs.declared.expression.Primary.{Primary}
use Rattle.uc_syntax.specs.declared.expression.Primary.TheVariants as primaries
use Rattle.uc_syntax.specs.declared.expression.Expr.{Expr}
use Rattle.uc_syntax.specs.declared.expression.Expr.TheViews as exprs_
use Rattle.uc_syntax.specs.declared.statement.Stmt.{Stmt}
use Rattle.uc_syntax.specs.declared.statement.Stmt.TheVariants as stmts_
use Rattle.uc_syntax.specs.declared.statement.Stmt.TheViews as stmt_views
use Rattle.uc_syntax.specs.declared.statement.Arm.{Arm}
use Rattle.uc_syntax.specs.declared.statement.RangeBound.{RangeBound}
use Rattle.uc_syntax.specs.declared.statement.RangeBound.TheVariants as bounds
use Rattle.uc_syntax.specs.declared.statement.Target.{Target}
use Rattle.uc_syntax.specs.declared.statement.TargetPart.{TargetPart}
use Rattle.uc_syntax.specs.declared.statement.TargetPart.TheVariants as target_parts
use Rattle.uc_syntax.specs.declared.declaration.VariableKind.{VariableKind}
use Rattle.uc_syntax.specs.declared.declaration.VariableKind.TheVariants as variable_kinds
use Rattle.uc_syntax.specs.declared.declaration.Clause.{Clause}
use Rattle.uc_syntax.specs.declared.declaration.Clause.TheVariants as clauses
use Rattle.uc_syntax.specs.declared.declaration.Procedure.{Procedure}
use Rattle.uc_syntax.specs.declared.declaration.Binding.{Binding}
use Rattle.uc_syntax.specs.declared.declaration.WrittenRun.{WrittenRun}
use Rattle.uc_syntax.specs.declared.declaration.WrittenRun.TheVariants as runs
use Rattle.uc_syntax.specs.declared.declaration.Command.{Command}
use Rattle.uc_syntax.specs.declared.declaration.Command.TheVariants as commands
use Rattle.uc_syntax.specs.declared.declaration.Decl.{Decl}
use Rattle.uc_syntax.specs.declared.declaration.Decl.TheVariants as decls_
use Rattle.uc_syntax.specs.declared.declaration.Module.{Module}

abbrev pub words : Alphabet
words = record {
  Word = Word;
  Kind = Kind;
  code = code_of;
  kind = λ w. code_of w.kind;
  example = λ k. record { kind = k; place = record { file = 0; line = 0; col = 0 } };
  example_is = λ k. refl;
}

-- a tree, and the place of its first word
abbrev pub Placed : Type 0
Placed = Place × Expr

-- The nested forms: brackets of all kinds, a sign with its operand, an `if` expression with its chain of `else if`, and an
-- array type with its element.
pub data Nested : Type 0 where
  enum_braces : Nested
  record_braces : Nested
  array : Nested
  arguments : Nested
  in_name : Nested
  parens : Nested
  brackets : Nested
  sign_operand : Nested
  if_expression : Nested
  target_index : Nested
  block : Nested
  typed_name : Nested
  range_bounds : Nested
  negative_bound : Nested
  call_targets : Nested
  in_number : Nested
  maybe_number : Nested
  paths : Nested
  control_braces : Nested
  params : Nested
  results : Nested
  binds : Nested
  bind_value : Nested
  hyper_number : Nested
  module_braces : Nested

abbrev pub Value : Nested → Type 0
Value enum_braces = List Identifier
Value record_braces = List (Parameter TypeExpr)
Value array = TypeExpr
Value arguments = List Expr
Value in_name = Identifier
Value parens = Placed
Value brackets = Selection Expr
Value sign_operand = Placed
Value if_expression = Placed
Value target_index = TargetPart
Value block = Place × List Stmt
Value typed_name = Parameter TypeExpr
Value range_bounds = RangeBound × RangeBound
Value negative_bound = RangeBound
Value call_targets = List Target
Value in_number = ℕ
Value maybe_number = Option ℕ
Value paths = List (List Identifier)
Value control_braces = List Command
Value params = List (Parameter TypeExpr)
Value results = List (Parameter TypeExpr)
Value binds = List Binding
Value bind_value = Expr
Value hyper_number = ℕ
Value module_braces = List Decl

abbrev pub F : Type 0 → Type 1
F A = Form words Nested Value A

-- Above each form stands what it spells, alternatives in its order: a quoted word is itself, `[ ]` is once or not, `{ }` any number of times, and `Xs` one X
-- or several with commas between them. Id, Num, Bits and BitsType are words with a value.

-- ---- names

-- the further kinds of names: those that the grammar knows
abbrev pub known : List Kind
known = OnBits bit_functions.ZeroExtend 0 ∷ Range 0 ∷ Unroll 0 ∷ Induction 0 ∷ Verify 0 ∷ Check 0 ∷ PrintResults 0 ∷ PrintCex 0 ∷ []

abbrev pub identifier : Word → Identifier
identifier w = record { place = w.place; name = name_in w.kind }

abbrev pub a_name : F Word
a_name = one_of (Name 0) known

abbrev pub id : F Identifier
id = made identifier a_name

-- a name that is declared
abbrev pub new_id : F Identifier
new_id = made identifier (declared (Name 0) known)

abbrev pub listed : {A : Type 0} → F A → F (List A)
listed f = joined_by Comma f

-- a tree without its place
abbrev pub bare : F Placed → F Expr
bare f = made (λ p. p.1) f

-- once or not
abbrev pub optional : {A : Type 0} → F A → F (Option A)
optional f = made (elim [ inl a ↦ Some a | inr u ↦ None ]) (either f nothing)

abbrev pub flat : {A : Type 0} → Option (Option A) → Option A
flat (Some a) = a
flat None = None

abbrev pub has : {A : Type 0} → Option A → Bool
has (Some a) = true
has None = false

-- ---- types

abbrev pub named_type : Word × Option Identifier → TypeExpr
named_type x = elim x.1 [ Some i ↦ types.OfModule x.0.place (name_in x.0.kind) i | None ↦ types.Named x.0.place (name_in x.0.kind) ]

-- "boolean" | "integer" | BitsType | "enum" "{" Ids "}" | "record" "{" Params "}" | "[" Type "]" Type | Id ["." Id]
unfoldable pub ty : F TypeExpr
ty = made (λ w. types.Boolean w.place) (word KwBoolean)
    <|> made (λ w. types.Integer w.place) (word KwInteger)
    <|> made (λ w. types.Bits w.place (width_in w.kind)) (word (BvType 0))
    <|> made (λ x. types.Enumeration x.0.place x.1) (both (word KwEnum) (deep enum_braces))
    <|> made (λ x. type_views.Record x.0.place x.1) (both (word KwRecord) (deep record_braces))
    <|> deep array
    <|> made named_type (both a_name (optional (after Dot id)))

-- Id ":" Type
abbrev pub parameter : F (Parameter TypeExpr)
parameter = made (λ x. record { identifier = x.0; ty = x.1 }) (both new_id (after Colon ty))

-- ---- expressions

abbrev pub Head : Type 0
Head = Place × (Primary Expr ⊎ Expr)

abbrev pub head : Place → Primary Expr → Head
head p q = (p, inl q)

-- an application, or a function on bits
abbrev pub applied : Kind → List Expr → Primary Expr
applied (OnBits f n) es = primaries.OnBits f es
applied k es = primaries.Apply (name_in k) es

abbrev pub named : Word × (Word ⊎ (List Expr ⊎ Unit {0})) → Head
named x = elim x.1 [
  | inl w ↦ head x.0.place (primaries.Name (name_in x.0.kind) true)
  | inr y ↦ elim y [
    | inl es ↦ head x.0.place (applied x.0.kind es)
    | inr u ↦ head x.0.place (primaries.Name (name_in x.0.kind) false)
  ]
]

-- "true" | "false" | Num | Bits | "old" "(" Id ")" | "(" Expr ")"
-- | Id "'" | Id "(" [Exprs] ")" | Id
unfoldable pub primary : F Head
primary = made (λ w. head w.place (primaries.Truth true)) (word KwTrue)
    <|> made (λ w. head w.place (primaries.Truth false)) (word KwFalse)
    <|> made (λ w. head w.place (primaries.Number (value_in w.kind))) (word (Number 0))
    <|> made (λ w. head w.place (primaries.BitsLiteral (value_in w.kind) (width_in w.kind))) (word (BvLit 0 0))
    <|> made (λ x. head x.0.place (primaries.Old x.1)) (both (word KwOld) (deep in_name))
    <|> made (λ p. (p.0, inr p.1)) (deep parens)
    <|> made named (both a_name (either (word Prime) (either (deep arguments) nothing)))

-- "." Id | "." Num
-- | "[" Num ":" Num "]" | "[" Expr "]" | "[" Expr "->" Expr "]"
unfoldable pub selection : F (Selection Expr)
selection = made (λ x. elim x.1 [ inl i ↦ selections_.Field x.0.place i | inr w ↦ selections_.Copy x.0.place (value_in w.kind) ]) (both (word Dot) (either id (word (Number 0)))) <|> deep brackets

-- Grouping parentheses leave no node, unless selections follow.
abbrev pub selected_of : Head × List (Selection Expr) → Placed
selected_of x = elim x.0.1 [
  | inl q ↦ (x.0.0, exprs_.Selected x.0.0 q x.1)
  | inr e ↦ elim x.1 [ [] ↦ (x.0.0, e) | s ∷ ss ↦ (x.0.0, exprs_.Selected x.0.0 (primaries.Grouped e) (s ∷ ss)) ]
]

-- ("!" | "-" | "~") Unary
-- | Primary { Selection }
unfoldable pub unary : F Placed
unary = deep sign_operand <|> made selected_of (both primary (many selection))

-- A chain of one level is one node with its operands, and the places of the operators between them.
abbrev pub chain_of : (Place → List Expr → List Place → Expr) → Placed × List (Word × Placed) → Placed
chain_of node x = elim x.1 [ [] ↦ x.0 | y ∷ ys ↦ (x.0.0, node x.0.0 (x.0.1 ∷ map (λ z. z.1.1) (y ∷ ys)) (map (λ z. z.0.place) (y ∷ ys))) ]

abbrev pub level : (Place → List Expr → List Place → Expr) → Kind → F Placed → F Placed
level node sign f = made (chain_of node) (both f (many (both (word sign) f)))

abbrev pub sum_sign : Word → SumSign
sum_sign w = record { place = w.place; is_minus = elim w.kind [ Minus ↦ true | _ ↦ false ] }

abbrev pub sum_of : Placed × List (Word × Placed) → Placed
sum_of x = elim x.1 [ [] ↦ x.0 | y ∷ ys ↦ (x.0.0, exprs_.Sum x.0.0 (x.0.1 ∷ map (λ z. z.1.1) (y ∷ ys)) (map (λ z. sum_sign z.0) (y ∷ ys))) ]

abbrev pub comparison : Kind → Comparison
comparison NotEqual = comparisons.Unequal
comparison Less = comparisons.Less
comparison LessEqual = comparisons.AtMost
comparison Greater = comparisons.Greater
comparison GreaterEqual = comparisons.AtLeast
comparison LessUnsigned = comparisons.LessUnsigned
comparison LessEqualUnsigned = comparisons.AtMostUnsigned
comparison GreaterUnsigned = comparisons.GreaterUnsigned
comparison GreaterEqualUnsigned = comparisons.AtLeastUnsigned
comparison _ = comparisons.Equal

abbrev pub compared_of : Placed × Option (Word × Placed) → Placed
compared_of x = elim x.1 [ None ↦ x.0 | Some y ↦ (x.0.0, exprs_.Compare x.0.0 (comparison y.0.kind) y.0.place x.0.1 y.1.1) ]

-- Unary { "*" Unary }
unfoldable pub product : F Placed
product = level exprs_.Product Star unary

-- Product { ("+" | "-") Product }
unfoldable pub summed : F Placed
summed = made sum_of (both product (many (both (one_of Plus (Minus ∷ [])) product)))

-- Summed { "++" Summed }
unfoldable pub concatenated : F Placed
concatenated = level exprs_.Concat Concat summed

-- Concatenated { "&" Concatenated }
unfoldable pub bit_and : F Placed
bit_and = level exprs_.BitAnd Ampersand concatenated

-- BitAnd { "^" BitAnd }
unfoldable pub bit_xor : F Placed
bit_xor = level exprs_.BitXor Caret bit_and

-- BitXor { "|" BitXor }
unfoldable pub bit_or : F Placed
bit_or = level exprs_.BitOr Bar bit_xor

-- BitOr [("==" | "!=" | "<" | "<=" | ">" | ">=" | "<_u" | "<=_u" | ">_u" | ">=_u") BitOr]
unfoldable pub compared : F Placed
compared = made compared_of (both bit_or (optional (both (one_of Equal (NotEqual ∷ Less ∷ LessEqual ∷ Greater ∷ GreaterEqual ∷ LessUnsigned ∷ LessEqualUnsigned ∷ GreaterUnsigned ∷ GreaterEqualUnsigned ∷ [])) bit_or)))

-- Compared { "&&" Compared }
unfoldable pub conjunction : F Placed
conjunction = level exprs_.And And compared

-- Conjunction { "||" Conjunction }
unfoldable pub disjunction : F Placed
disjunction = level exprs_.Or Or conjunction

-- Disjunction { "==>" Disjunction }
unfoldable pub implication : F Placed
implication = level exprs_.Implies Implies disjunction

-- Implication { "<==>" Implication }
unfoldable pub equivalence : F Placed
equivalence = level exprs_.Iff Iff implication

-- Branch { Branch } Equivalence
-- | Equivalence
unfoldable pub expression : F Placed
expression = deep if_expression <|> equivalence

abbrev pub expr : F Expr
expr = bare expression

-- "if" Expr "then" Expr "else"
unfoldable pub branch : F (Branch Expr)
branch = made (λ x. record { place = x.0.place; condition = x.1.0; value = x.1.1 }) (both (word KwIf) (both (before expr KwThen) (before expr KwElse)))

abbrev pub unary_operator : Kind → UnaryOperator
unary_operator Minus = unary_operators.Negate
unary_operator Tilde = unary_operators.Complement
unary_operator _ = unary_operators.Not

-- ---- statements

abbrev pub label_of : {A : Type 0} → (Word × A) ⊎ A → Option Identifier × A
label_of (inl x) = (Some (identifier x.0), x.1)
label_of (inr a) = (None, a)

-- [Id ":"] f, where the label does this
abbrev pub labelled : {A : Type 0} → Mark → F A → F (Option Identifier × A)
labelled q f = made label_of (ahead q (Name 0) known Colon f f)

abbrev pub target_of : Word × (Option Word × List TargetPart) → Target
target_of x = record { place = x.0.place; name = name_in x.0.kind; is_primed = has x.1.0; parts = x.1.1 }

-- "." Id
-- | "[" Expr "]"
unfoldable pub target_part : F TargetPart
target_part = made (λ x. target_parts.Field x.0.place x.1) (both (word Dot) id) <|> deep target_index

-- Id ["'"] { TargetPart }
unfoldable pub target : F Target
target = made target_of (both a_name (both (optional (word Prime)) (many target_part)))

abbrev pub targets : F (List Target)
targets = listed target

-- "-" Num | Num | Bits
unfoldable pub bound : F RangeBound
bound = deep negative_bound
    <|> made (λ w. bounds.Number w.place false (value_in w.kind)) (word (Number 0))
    <|> made (λ w. bounds.BitsLiteral w.place (value_in w.kind) (width_in w.kind)) (word (BvLit 0 0))

-- "{" { Stmt } "}"
abbrev pub statements : F (List Stmt)
statements = made (λ b. b.1) (deep block)

-- Expr Block
abbrev pub arm : F (Arm Stmt)
arm = made (λ x. record { condition = x.0; body = x.1 }) (both expr statements)

-- "if" Arm { "else" "if" Arm } ["else" Block]
unfoldable pub if_statement : F Stmt
if_statement = made (λ x. stmt_views.If x.0.place (x.1.0 ∷ x.1.1.0) x.1.1.1) (both (word KwIf) (both arm (chain (after KwElse (either (after KwIf arm) statements)))))

abbrev pub default_block : (List Stmt × Word) ⊎ Word → Option (List Stmt)
default_block (inl x) = Some x.0
default_block (inr w) = None

-- "case" { Expr ":" Block } ["default" ":" Block] "esac"
unfoldable pub case_statement : F Stmt
case_statement = made (λ x. stmt_views.Case x.0.place x.1.0 (default_block x.1.1))
    (both (word KwCase) (until (made (λ x. record { condition = x.0; body = x.1 }) (both expr (after Colon statements))) (either (both (after KwDefault (after Colon statements)) (word KwEsac)) (word KwEsac))))

abbrev pub loop_variable : Parameter TypeExpr ⊎ Identifier → Identifier × Option TypeExpr
loop_variable (inl p) = (p.identifier, Some p.ty)
loop_variable (inr i) = (i, None)

-- "for" ("(" Param ")" | Id) "in" "range" "(" Bound "," Bound ")" Block
unfoldable pub for_statement : F Stmt
for_statement = made (λ x. stmt_views.For x.0.place x.1.0.0 x.1.0.1 x.1.1.0.0 x.1.1.0.1 x.1.1.1)
    (both (word KwFor) (both (made loop_variable (either (deep typed_name) new_id)) (after KwIn (after (Range 0) (both (deep range_bounds) statements)))))

abbrev pub called_targets : Option (List Target) → List Target
called_targets (Some ts) = ts
called_targets None = []

-- "call" ["(" [Targets] ")" "="] Id "(" [Exprs] ")" ";"
unfoldable pub call_statement : F Stmt
call_statement = made (λ x. stmts_.Call x.0.place (called_targets x.1.0) x.1.1.0 x.1.1.1)
    (both (word KwCall) (both (optional (before (deep call_targets) Assign)) (both id (before (deep arguments) Semicolon))))

abbrev pub place_of : List Target → Place
place_of (t ∷ ts) = t.place
place_of [] = record { file = 0; line = 0; col = 0 }

-- "var" Ids ":" Type ";"
-- | "skip" ";"
-- | Block
-- | "assert" [Id ":"] Expr ";"
-- | "assume" Expr ";"
-- | "havoc" Id ["'"] ";"
-- | IfStatement | CaseStatement | ForStatement | CallStatement
-- | "next" "(" Id ")" ";"
-- | Targets "=" Exprs ";"
unfoldable pub statement : F Stmt
statement = made (λ x. stmts_.Local x.0.place x.1.0 x.1.1) (both (word KwVar) (both (listed new_id) (after Colon (before ty Semicolon))))
    <|> made (λ x. stmts_.Skip x.0.place) (both (word KwSkip) (word Semicolon))
    <|> made (λ b. stmt_views.Block b.0 b.1) (deep block)
    <|> made (λ x. stmts_.Assert x.0.place x.1.0 x.1.1) (both (word KwAssert) (labelled quiet (before expr Semicolon)))
    <|> made (λ x. stmts_.Assume x.0.place x.1) (both (word KwAssume) (before expr Semicolon))
    <|> made (λ x. stmts_.Havoc x.0.place x.1.0 (has x.1.1)) (both (word KwHavoc) (both id (before (optional (word Prime)) Semicolon)))
    <|> if_statement <|> case_statement <|> for_statement <|> call_statement
    <|> made (λ x. stmts_.Next x.0.place x.1) (both (word KwNext) (before (deep in_name) Semicolon))
    <|> made (λ x. stmts_.Assign (place_of x.0) x.0 x.1) (both targets (after Assign (before (listed expr) Semicolon)))

-- ---- commands

-- "unroll" "(" Num ")"
-- | "induction" ["(" [Num] ")"]
-- | "verify" "(" Id ")"
unfoldable pub run : F (Place × WrittenRun)
run = made (λ x. (x.0.place, runs.Unroll x.1)) (both (word (Unroll 0)) (deep in_number))
    <|> made (λ x. (x.0.place, runs.Induction (flat x.1))) (both (word (Induction 0)) (optional (deep maybe_number)))
    <|> made (λ x. (x.0.place, runs.Verify x.1)) (both (word (Verify 0)) (deep in_name))

-- "print_cex" ["(" [Paths] ")"] ";"
unfoldable pub counterexample : F (Option (List (List Identifier)))
counterexample = after (PrintCex 0) (before (optional (deep paths)) Semicolon)

-- behind a word: "=" Run ";", or "." "print_cex" .., or what the word itself begins
abbrev pub Ending : Type 0
Ending = (Place × WrittenRun) ⊎ (Option (List (List Identifier)) ⊎ (Word → Command))

abbrev pub command_of : Word × Ending → Command
command_of x = elim x.1 [
  | inl r ↦ commands.Run x.0.place (Some (identifier x.0)) r.1
  | inr y ↦ elim y [ inl ps ↦ commands.PrintCounterexamples x.0.place (Some (identifier x.0)) ps | inr own ↦ own x.0 ]
]

-- Word "=" Run ";"
-- | Word "." Counterexample
-- | Word Own, what the word itself begins
abbrev pub led : F Word → F (Word → Command) → F Command
led f own = made command_of (both f (either (after Assign (before run Semicolon)) (either (after Dot counterexample) own)))

abbrev pub named_command : Word × ((Place × WrittenRun) ⊎ Option (List (List Identifier))) → Command
named_command x = elim x.1 [ inl r ↦ commands.Run x.0.place (Some (identifier x.0)) r.1 | inr ps ↦ commands.PrintCounterexamples x.0.place (Some (identifier x.0)) ps ]

-- "unroll" "(" Num ")" ";"
-- | "induction" ["(" [Num] ")"] ";"
-- | "verify" "(" Id ")" ";"
-- | "check" ";"
-- | "print_results" ";"
-- | "print_cex" ["(" [Paths] ")"] ";"
-- | Id "=" Run ";" | Id "." Counterexample, where the Id is also any of the words above
unfoldable pub command : F Command
command = led (word (Unroll 0)) (made (λ n w. commands.Run w.place None (runs.Unroll n)) (before (deep in_number) Semicolon))
    <|> led (word (Induction 0)) (made (λ n w. commands.Run w.place None (runs.Induction (flat n))) (before (optional (deep maybe_number)) Semicolon))
    <|> led (word (Verify 0)) (made (λ i w. commands.Run w.place None (runs.Verify i)) (before (deep in_name) Semicolon))
    <|> led (word (Check 0)) (made (λ s w. commands.Check w.place) (word Semicolon))
    <|> led (word (PrintResults 0)) (made (λ s w. commands.PrintResults w.place) (word Semicolon))
    <|> led (word (PrintCex 0)) (made (λ ps w. commands.PrintCounterexamples w.place None ps) (before (optional (deep paths)) Semicolon))
    <|> made named_command (both (one_of (Name 0) (OnBits bit_functions.ZeroExtend 0 ∷ Range 0 ∷ [])) (either (after Assign (before run Semicolon)) (after Dot counterexample)))

-- ---- declarations

-- "requires" Expr ";"
-- | "ensures" Expr ";"
-- | "modifies" Ids ";"
unfoldable pub clause : F Clause
clause = made (λ x. clauses.Requires x.0.place x.1) (both (word KwRequires) (before expr Semicolon))
    <|> made (λ x. clauses.Ensures x.0.place x.1) (both (word KwEnsures) (before expr Semicolon))
    <|> made (λ x. clauses.Modifies x.0.place x.1) (both (word KwModifies) (before (listed id) Semicolon))

abbrev pub variable_kind : Kind → VariableKind
variable_kind KwInput = variable_kinds.Input
variable_kind KwOutput = variable_kinds.Output
variable_kind KwConst = variable_kinds.Constant
variable_kind _ = variable_kinds.Variable

abbrev pub type_of : Word × ((Identifier × (Word ⊎ TypeExpr)) ⊎ Identifier) → Decl
type_of x = elim x.1 [
  | inl y ↦ elim y.1 [ inl w ↦ decls_.OpaqueType x.0.place y.0 | inr t ↦ decls_.TypeAlias x.0.place y.0 t ]
  | inr i ↦ decls_.TypeImport x.0.place i
]

-- "type" Id ";" | "type" Id "=" Type ";"
-- | "type" "*" "=" Id "." "*" ";"
unfoldable pub type_declaration : F Decl
type_declaration = made type_of (both (word KwType) (either (both new_id (either (word Semicolon) (after Assign (before ty Semicolon)))) (after Star (after Assign (before (before (before id Dot) Star) Semicolon)))))

abbrev pub results_of : Option (List (Parameter TypeExpr)) → List (Parameter TypeExpr)
results_of (Some ps) = ps
results_of None = []

abbrev pub procedure_of : Identifier × (List (Parameter TypeExpr) × (Option (List (Parameter TypeExpr)) × (List Clause × List Stmt))) → Procedure
procedure_of x = record { identifier = x.0; parameters = x.1.0; results = results_of x.1.1.0; clauses = x.1.1.1.0; body = x.1.1.1.1 }

-- Id "(" [Params] ")" ["returns" "(" Params ")"] { Clause } Block
unfoldable pub procedure : F Procedure
procedure = made procedure_of (both new_id (both (deep params) (both (optional (after KwReturns (deep results))) (both (many clause) statements))))

abbrev pub hyper_of : Word × (ℕ × (Identifier × Expr)) → Decl
hyper_of x = elim x.0.kind [ KwHyperaxiom ↦ decls_.Hyperaxiom x.0.place x.1.0 x.1.1.0 x.1.1.1 | _ ↦ decls_.Hyperinvariant x.0.place x.1.0 x.1.1.0 x.1.1.1 ]

-- TypeDeclaration
-- | ("var" | "input" | "output" | "const") Ids ":" Type ";"
-- | "function" Id "(" [Params] ")" ":" Type ";"
-- | "define" Id "(" [Params] ")" ":" Type "=" Expr ";"
-- | "procedure" Procedure
-- | "instance" Id ":" Id "(" [Binds] ")" ";"
-- | "init" Block
-- | "next" Block
-- | "invariant" Id ":" Expr ";"
-- | "axiom" [Id ":"] Expr ";"
-- | ("hyperinvariant" | "hyperaxiom") "[" Num "]" Id ":" Expr ";"
-- | "control" "{" { Command } "}"
unfoldable pub declaration : F Decl
declaration = type_declaration
    <|> made (λ x. decls_.Variables x.0.place (variable_kind x.0.kind) x.1.0 x.1.1) (both (one_of KwVar (KwInput ∷ KwOutput ∷ KwConst ∷ [])) (both (listed new_id) (after Colon (before ty Semicolon))))
    <|> made (λ x. decls_.Function x.0.place x.1.0 x.1.1.0 x.1.1.1) (both (word KwFunction) (both new_id (both (deep params) (after Colon (before ty Semicolon)))))
    <|> made (λ x. decls_.Define x.0.place x.1.0 x.1.1.0 x.1.1.1.0 x.1.1.1.1) (both (word KwDefine) (both new_id (both (deep params) (after Colon (both ty (after Assign (before expr Semicolon)))))))
    <|> made (λ x. decls_.Procedure x.0.place x.1) (both (word KwProcedure) procedure)
    <|> made (λ x. decls_.Instance x.0.place x.1.0 x.1.1.0 x.1.1.1) (both (word KwInstance) (both new_id (after Colon (both id (before (deep binds) Semicolon)))))
    <|> made (λ x. decls_.Init x.0.place x.1) (both (word KwInit) statements)
    <|> made (λ x. decls_.Next x.0.place x.1) (both (word KwNext) statements)
    <|> made (λ x. decls_.Invariant x.0.place x.1.0 x.1.1) (both (word KwInvariant) (both new_id (after Colon (before expr Semicolon))))
    <|> made (λ x. decls_.Axiom x.0.place x.1.0 x.1.1) (both (word KwAxiom) (labelled declares (before expr Semicolon)))
    <|> made hyper_of (both (one_of KwHyperinvariant (KwHyperaxiom ∷ [])) (both (deep hyper_number) (both new_id (after Colon (before expr Semicolon)))))
    <|> made (λ x. decls_.Control x.0.place x.1) (both (word KwControl) (deep control_braces))

-- "module" Id "{" { Decl } "}": the count of declared names starts again at each module
unfoldable pub module_form : F Module
module_form = made (λ x. record { place = x.0.place; name = name_in x.1.0.kind; decls = x.1.1 }) (both (restart KwModule) (both a_name (deep module_braces)))

-- { Module }
unfoldable pub text : F (List Module)
text = many module_form

-- ---- nested forms

-- "(" f ")", and maybe nothing between
abbrev pub enclosed : {A : Type 0} → F (List A) → F (List A)
enclosed f = after LeftParen (made (elim [ inl w ↦ [] | inr xs ↦ xs ]) (either (word RightParen) (before f RightParen)))

-- The nested forms, each by its name. A Path is Id { "." Id }, and a Bind Id ":" "(" Expr ")".
-- enum_braces: "{" Ids "}"
-- record_braces: "{" Params "}"
-- array: "[" Type "]" Type
-- arguments: "(" [Exprs] ")"
-- in_name: "(" Id ")"
-- parens: "(" Expr ")"
-- brackets: "[" Num ":" Num "]" | "[" Expr "]" | "[" Expr "->" Expr "]"
-- sign_operand: ("!" | "-" | "~") Unary
-- if_expression: Branch { Branch } Equivalence
-- target_index: "[" Expr "]"
-- block: "{" { Stmt } "}"
-- typed_name: "(" Param ")"
-- range_bounds: "(" Bound "," Bound ")"
-- negative_bound: "-" Num
-- call_targets: "(" [Targets] ")"
-- in_number: "(" Num ")"
-- maybe_number: "(" [Num] ")"
-- paths: "(" [Paths] ")"
-- control_braces: "{" { Command } "}"
-- params: "(" [Params] ")"
-- results: "(" Params ")"
-- binds: "(" [Binds] ")"
-- bind_value: "(" Expr ")"
-- hyper_number: "[" Num "]"
-- module_braces: "{" { Decl } "}"
abbrev pub rule : Rules words Nested Value
rule enum_braces = after LeftBrace (before (listed new_id) RightBrace)
rule record_braces = after LeftBrace (before (listed parameter) RightBrace)
rule array = made (λ x. type_views.Array x.0.place x.1.0 x.1.1) (both (word LeftBracket) (both (before ty RightBracket) ty))
rule arguments = enclosed (listed expr)
rule in_name = after LeftParen (before id RightParen)
rule parens = made (λ x. (x.0.place, x.1)) (both (word LeftParen) (before expr RightParen))
rule brackets = made (λ x. elim x.1 [
  | inl y ↦ selections_.Extract x.0.place (value_in y.0.kind) (value_in y.1.kind)
  | inr y ↦ elim y.1 [ inl w ↦ selections_.Element x.0.place y.0 | inr e ↦ selections_.Update x.0.place y.0 e ]
]) (both (word LeftBracket) (ahead quiet (Number 0) [] Colon (before (word (Number 0)) RightBracket) (both expr (either (word RightBracket) (after Arrow (before expr RightBracket))))))
rule sign_operand = made (λ x. (x.0.place, exprs_.Unary x.0.place (unary_operator x.0.kind) x.1.1)) (both (one_of Not (Minus ∷ Tilde ∷ [])) unary)
rule if_expression = made (λ x. (x.0.place, exprs_.If x.0.place (x.0 ∷ x.1.0) x.1.1.1)) (both branch (both (many branch) equivalence))
rule target_index = made (λ x. target_parts.Element x.0.place x.1) (both (word LeftBracket) (before expr RightBracket))
rule block = made (λ x. (x.0.place, x.1.0)) (both (word LeftBrace) (until statement (word RightBrace)))
rule typed_name = after LeftParen (before parameter RightParen)
rule range_bounds = after LeftParen (before (both bound (after Comma bound)) RightParen)
rule negative_bound = made (λ x. bounds.Number x.0.place true (value_in x.1.kind)) (both (word Minus) (word (Number 0)))
rule call_targets = enclosed targets
rule in_number = made (λ w. value_in w.kind) (after LeftParen (before (word (Number 0)) RightParen))
rule maybe_number = after LeftParen (made (elim [ inl w ↦ None | inr w ↦ Some (value_in w.kind) ]) (either (word RightParen) (before (word (Number 0)) RightParen)))
rule paths = enclosed (listed (joined_by Dot id))
rule control_braces = made (λ x. x.1.0) (both (word LeftBrace) (until command (word RightBrace)))
rule params = enclosed (listed parameter)
rule results = after LeftParen (before (listed parameter) RightParen)
rule binds = enclosed (listed (made (λ x. record { identifier = x.0; expression = x.1 }) (both id (after Colon (deep bind_value)))))
rule bind_value = after LeftParen (before expr RightParen)
rule hyper_number = made (λ w. value_in w.kind) (after LeftBracket (before (word (Number 0)) RightBracket))
rule module_braces = made (λ x. x.1.0) (both (word LeftBrace) (until declaration (word RightBrace)))

abbrev pub one : Kind → List ℕ
one k = code_of k ∷ []

-- the kinds of words that each nested form begins with
abbrev pub opens : Nested → List ℕ
opens enum_braces = one LeftBrace
opens record_braces = one LeftBrace
opens array = one LeftBracket
opens arguments = one LeftParen
opens in_name = one LeftParen
opens parens = one LeftParen
opens brackets = one LeftBracket
opens sign_operand = code_of Not ∷ code_of Minus ∷ code_of Tilde ∷ []
opens if_expression = one KwIf
opens target_index = one LeftBracket
opens block = one LeftBrace
opens typed_name = one LeftParen
opens range_bounds = one LeftParen
opens negative_bound = one Minus
opens call_targets = one LeftParen
opens in_number = one LeftParen
opens maybe_number = one LeftParen
opens paths = one LeftParen
opens control_braces = one LeftBrace
opens params = one LeftParen
opens results = one LeftParen
opens binds = one LeftParen
opens bind_value = one LeftParen
opens hyper_number = one LeftBracket
opens module_braces = one LeftBrace

-- the kinds of words that may go on with each
abbrev pub after_unary : List ℕ
after_unary = code_of Dot ∷ code_of LeftBracket ∷ code_of Prime ∷ code_of LeftParen ∷ []

abbrev pub after_expression : List ℕ
after_expression = code_of Iff ∷ code_of Implies ∷ code_of Or ∷ code_of And ∷ code_of Equal ∷ code_of NotEqual ∷ code_of Less ∷ code_of LessEqual ∷ code_of Greater ∷ code_of GreaterEqual ∷ code_of LessUnsigned ∷ code_of LessEqualUnsigned ∷ code_of GreaterUnsigned ∷ code_of GreaterEqualUnsigned
    ∷ code_of Bar ∷ code_of Caret ∷ code_of Ampersand ∷ code_of Concat ∷ code_of Plus ∷ code_of Minus ∷ code_of Star ∷ after_unary

abbrev pub goes : Nested → List ℕ
goes array = one Dot
goes sign_operand = after_unary
goes if_expression = after_expression
goes _ = []
