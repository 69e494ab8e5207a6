-- What a tree mentions: the numbers of its names and the files of its places, each as often as it stands there.
use Rattle.std.specs.Prelude.{ℕ, Bool, true, nat_lt, List, [], ◌∷◌, ◌++◌, map, Option, Some, None, IsTrue}
use Rattle.std.specs.List.{flat_map, list_all}
use Rattle.uc_lexer.specs.declared.place.Place.{Place}
use Rattle.uc_syntax.specs.declared.place.Identifier.{Identifier}
use Rattle.uc_syntax.specs.declared.type_expression.Parameter.{Parameter}
use Rattle.uc_syntax.specs.declared.type_expression.TypeExpr.{TypeExpr}
use Rattle.uc_syntax.specs.declared.type_expression.TypeExpr.TheOpen.{TypeExpr-F}
use Rattle.uc_syntax.specs.declared.type_expression.TypeExpr.TheOpen.TypeExpr-F.{Boolean, Integer, Bits, Enumeration, Record, Array, Named, OfModule}
use Rattle.uc_syntax.specs.declared.type_expression.TypeExpr.TheFolds.{fold-TypeExpr}
use Rattle.uc_syntax.specs.declared.expression.SumSign.{SumSign}
use Rattle.uc_syntax.specs.declared.expression.Branch.{Branch}
use Rattle.uc_syntax.specs.declared.expression.Selection.{Selection}
use Rattle.uc_syntax.specs.declared.expression.Selection.TheVariants.{Field, Copy, Element, Update, Extract}
use Rattle.uc_syntax.specs.declared.expression.Primary.{Primary}
use Rattle.uc_syntax.specs.declared.expression.Primary.TheVariants.{Name, Apply, OnBits, Old, Grouped}
use Rattle.uc_syntax.specs.declared.expression.Expr.{Expr}
use Rattle.uc_syntax.specs.declared.expression.Expr.TheOpen.{Expr-F}
use Rattle.uc_syntax.specs.declared.expression.Expr.TheOpen.Expr-F.{If, Iff, Implies, Or, And, Compare, BitOr, BitXor, BitAnd, Concat, Sum, Product, Unary, Selected}
use Rattle.uc_syntax.specs.declared.expression.Expr.TheFolds.{fold-Expr}
use Rattle.uc_syntax.specs.declared.statement.TargetPart.{TargetPart}
use Rattle.uc_syntax.specs.declared.statement.TargetPart.TheVariants.{Field as FieldOfTarget, Element as ElementOfTarget}
use Rattle.uc_syntax.specs.declared.statement.Target.{Target}
use Rattle.uc_syntax.specs.declared.statement.RangeBound.{RangeBound}
use Rattle.uc_syntax.specs.declared.statement.RangeBound.TheVariants.{Number as NumberBound, BitsLiteral as BitsBound}
use Rattle.uc_syntax.specs.declared.statement.Arm.{Arm}
use Rattle.uc_syntax.specs.declared.statement.Stmt.{Stmt}
use Rattle.uc_syntax.specs.declared.statement.Stmt.TheOpen.{Stmt-F}
use Rattle.uc_syntax.specs.declared.statement.Stmt.TheOpen.Stmt-F.{Local, Skip, Block, Assert, Assume, Havoc, Assign, If as Choice, Case as Cases, For, Call, Next as NextOf}
use Rattle.uc_syntax.specs.declared.statement.Stmt.TheFolds.{fold-Stmt}
use Rattle.uc_syntax.specs.declared.declaration.Clause.{Clause}
use Rattle.uc_syntax.specs.declared.declaration.Clause.TheVariants.{Requires, Ensures, Modifies}
use Rattle.uc_syntax.specs.declared.declaration.Procedure as procedures
use Rattle.uc_syntax.specs.declared.declaration.Binding.{Binding}
use Rattle.uc_syntax.specs.declared.declaration.WrittenRun.{WrittenRun}
use Rattle.uc_syntax.specs.declared.declaration.WrittenRun.TheVariants.{Verify}
use Rattle.uc_syntax.specs.declared.declaration.Command.{Command}
use Rattle.uc_syntax.specs.declared.declaration.Command.TheVariants.{Run, Check, PrintResults, PrintCounterexamples}
use Rattle.uc_syntax.specs.declared.declaration.Decl.{Decl}
use Rattle.uc_syntax.specs.declared.declaration.Decl.TheVariants.{OpaqueType, TypeAlias, TypeImport, Variables, Function, Define, Procedure, Instance, Init, Next, Invariant, Axiom, Hyperinvariant, Hyperaxiom, Control}
use Rattle.uc_syntax.specs.declared.declaration.Module.{Module}

-- One mention: the number of a name, or the file of a place.
pub data Mention : Type 0 where
  OfName : ℕ → Mention
  OfFile : ℕ → Mention

abbrev pub at_place : Place → List Mention
at_place p = OfFile p.file ∷ []

abbrev pub at_places : List Place → List Mention
at_places ps = map (λ p. OfFile p.file) ps

abbrev pub identifier_mentions : Identifier → List Mention
identifier_mentions i = OfFile i.place.file ∷ OfName i.name ∷ []

abbrev pub identifiers_mention : List Identifier → List Mention
identifiers_mention is = flat_map identifier_mentions is

-- what stands in an option, where it is written
abbrev pub if_written : {A : Type 0} → (A → List Mention) → Option A → List Mention
if_written f None = []
if_written f (Some x) = f x

-- Types.

abbrev pub parameters_by : {A : Type 0} → (A → List Mention) → List (Parameter A) → List Mention
parameters_by f ps = flat_map (λ p. identifier_mentions p.identifier ++ f p.ty) ps

abbrev pub type_form : TypeExpr-F (List Mention) → List Mention
type_form (Boolean place) = at_place place
type_form (Integer place) = at_place place
type_form (Bits place width) = at_place place
type_form (Enumeration place labels) = at_place place ++ identifiers_mention labels
type_form (Record place fields) = at_place place ++ parameters_by (λ ms. ms) fields
type_form (Array place index element) = at_place place ++ (index ++ element)
type_form (Named place x) = at_place place ++ OfName x ∷ []
type_form (OfModule place m i) = at_place place ++ OfName m ∷ identifier_mentions i

unfoldable pub type_mentions : TypeExpr → List Mention
type_mentions = fold-TypeExpr (List Mention) type_form

abbrev pub parameters_mention : List (Parameter TypeExpr) → List Mention
parameters_mention = parameters_by type_mentions

-- Expressions.

abbrev pub primary_by : {E : Type 0} → (E → List Mention) → Primary E → List Mention
primary_by f (Name x primed) = OfName x ∷ []
primary_by f (Apply x es) = OfName x ∷ flat_map f es
primary_by f (OnBits function es) = flat_map f es
primary_by f (Old i) = identifier_mentions i
primary_by f (Grouped e) = f e
primary_by f other = []

abbrev pub selection_by : {E : Type 0} → (E → List Mention) → Selection E → List Mention
selection_by f (Field place i) = at_place place ++ identifier_mentions i
selection_by f (Copy place number) = at_place place
selection_by f (Element place i) = at_place place ++ f i
selection_by f (Update place i x) = at_place place ++ (f i ++ f x)
selection_by f (Extract place high low) = at_place place

-- a chain of one level: the place, the operands and the places between them
abbrev pub chain_by : {E : Type 0} → (E → List Mention) → Place → List E → List Place → List Mention
chain_by f place operands marks = at_place place ++ (flat_map f operands ++ at_places marks)

abbrev pub branches_by : {E : Type 0} → (E → List Mention) → List (Branch E) → List Mention
branches_by f bs = flat_map (λ b. at_place b.place ++ (f b.condition ++ f b.value)) bs

abbrev pub expr_form : Expr-F (List Mention) → List Mention
expr_form (If place bs y) = at_place place ++ (branches_by (λ ms. ms) bs ++ y)
expr_form (Iff place operands marks) = chain_by (λ ms. ms) place operands marks
expr_form (Implies place operands marks) = chain_by (λ ms. ms) place operands marks
expr_form (Or place operands marks) = chain_by (λ ms. ms) place operands marks
expr_form (And place operands marks) = chain_by (λ ms. ms) place operands marks
expr_form (Compare place comparison mark x y) = at_place place ++ (at_place mark ++ (x ++ y))
expr_form (BitOr place operands marks) = chain_by (λ ms. ms) place operands marks
expr_form (BitXor place operands marks) = chain_by (λ ms. ms) place operands marks
expr_form (BitAnd place operands marks) = chain_by (λ ms. ms) place operands marks
expr_form (Concat place operands marks) = chain_by (λ ms. ms) place operands marks
expr_form (Sum place operands signs) = chain_by (λ ms. ms) place operands (map (λ s. s.place) signs)
expr_form (Product place operands marks) = chain_by (λ ms. ms) place operands marks
expr_form (Unary place operator e) = at_place place ++ e
expr_form (Selected place primary selections) =
    at_place place ++ (primary_by (λ ms. ms) primary ++ flat_map (selection_by (λ ms. ms)) selections)

unfoldable pub expr_mentions : Expr → List Mention
expr_mentions = fold-Expr (List Mention) expr_form

-- Statements.

abbrev pub part_mentions : TargetPart → List Mention
part_mentions (FieldOfTarget place i) = at_place place ++ identifier_mentions i
part_mentions (ElementOfTarget place e) = at_place place ++ expr_mentions e

abbrev pub target_mentions : Target → List Mention
target_mentions t = at_place t.place ++ OfName t.name ∷ flat_map part_mentions t.parts

abbrev pub bound_mentions : RangeBound → List Mention
bound_mentions (NumberBound place minus n) = at_place place
bound_mentions (BitsBound place n width) = at_place place

abbrev pub arms_by : {S : Type 0} → (S → List Mention) → List (Arm S) → List Mention
arms_by f arms = flat_map (λ a. expr_mentions a.condition ++ flat_map f a.body) arms

abbrev pub choice_by : {S : Type 0} → (S → List Mention) → Place → List (Arm S) → Option (List S) → List Mention
choice_by f place arms otherwise = at_place place ++ (arms_by f arms ++ if_written (flat_map f) otherwise)

abbrev pub stmt_form : Stmt-F (List Mention) → List Mention
stmt_form (Local place names type) = at_place place ++ (identifiers_mention names ++ type_mentions type)
stmt_form (Skip place) = at_place place
stmt_form (Block place block) = at_place place ++ flat_map (λ ms. ms) block
stmt_form (Assert place name e) = at_place place ++ (if_written identifier_mentions name ++ expr_mentions e)
stmt_form (Assume place e) = at_place place ++ expr_mentions e
stmt_form (Havoc place i primed) = at_place place ++ identifier_mentions i
stmt_form (Assign place targets sources) = at_place place ++ (flat_map target_mentions targets ++ flat_map expr_mentions sources)
stmt_form (Choice place arms otherwise) = choice_by (λ ms. ms) place arms otherwise
stmt_form (Cases place arms otherwise) = choice_by (λ ms. ms) place arms otherwise
stmt_form (For place i type from to block) =
    at_place place
    ++ (identifier_mentions i ++ (if_written type_mentions type ++ (bound_mentions from ++ (bound_mentions to ++ flat_map (λ ms. ms) block))))
stmt_form (Call place targets i arguments) =
    at_place place ++ (flat_map target_mentions targets ++ (identifier_mentions i ++ flat_map expr_mentions arguments))
stmt_form (NextOf place i) = at_place place ++ identifier_mentions i

unfoldable pub stmt_mentions : Stmt → List Mention
stmt_mentions = fold-Stmt (List Mention) stmt_form

-- Declarations.

abbrev pub clause_mentions : Clause → List Mention
clause_mentions (Requires place e) = at_place place ++ expr_mentions e
clause_mentions (Ensures place e) = at_place place ++ expr_mentions e
clause_mentions (Modifies place names) = at_place place ++ identifiers_mention names

abbrev pub procedure_mentions : procedures.Procedure → List Mention
procedure_mentions p =
    identifier_mentions p.identifier
    ++ (parameters_mention p.parameters ++ (parameters_mention p.results ++ (flat_map clause_mentions p.clauses ++ flat_map stmt_mentions p.body)))

abbrev pub binding_mentions : Binding → List Mention
binding_mentions b = identifier_mentions b.identifier ++ expr_mentions b.expression

abbrev pub run_mentions : WrittenRun → List Mention
run_mentions (Verify i) = identifier_mentions i
run_mentions other = []

abbrev pub command_mentions : Command → List Mention
command_mentions (Run place name run) = at_place place ++ (if_written identifier_mentions name ++ run_mentions run)
command_mentions (Check place) = at_place place
command_mentions (PrintResults place) = at_place place
command_mentions (PrintCounterexamples place name paths) =
    at_place place ++ (if_written identifier_mentions name ++ if_written (flat_map identifiers_mention) paths)

abbrev pub decl_mentions : Decl → List Mention
decl_mentions (OpaqueType place i) = at_place place ++ identifier_mentions i
decl_mentions (TypeAlias place i type) = at_place place ++ (identifier_mentions i ++ type_mentions type)
decl_mentions (TypeImport place m) = at_place place ++ identifier_mentions m
decl_mentions (Variables place kind names type) = at_place place ++ (identifiers_mention names ++ type_mentions type)
decl_mentions (Function place i ps type) = at_place place ++ (identifier_mentions i ++ (parameters_mention ps ++ type_mentions type))
decl_mentions (Define place i ps type body) =
    at_place place ++ (identifier_mentions i ++ (parameters_mention ps ++ (type_mentions type ++ expr_mentions body)))
decl_mentions (Procedure place p) = at_place place ++ procedure_mentions p
decl_mentions (Instance place i m bindings) = at_place place ++ (identifier_mentions i ++ (identifier_mentions m ++ flat_map binding_mentions bindings))
decl_mentions (Init place block) = at_place place ++ flat_map stmt_mentions block
decl_mentions (Next place block) = at_place place ++ flat_map stmt_mentions block
decl_mentions (Invariant place i e) = at_place place ++ (identifier_mentions i ++ expr_mentions e)
decl_mentions (Axiom place i e) = at_place place ++ (if_written identifier_mentions i ++ expr_mentions e)
decl_mentions (Hyperinvariant place copies i e) = at_place place ++ (identifier_mentions i ++ expr_mentions e)
decl_mentions (Hyperaxiom place copies i e) = at_place place ++ (identifier_mentions i ++ expr_mentions e)
decl_mentions (Control place commands) = at_place place ++ flat_map command_mentions commands

unfoldable pub module_mentions : Module → List Mention
module_mentions m = at_place m.place ++ OfName m.name ∷ flat_map decl_mentions m.decls

unfoldable pub modules_mention : List Module → List Mention
modules_mention modules = flat_map module_mentions modules

-- Bounds.

abbrev pub name_below : ℕ → Mention → Bool
name_below n (OfName x) = nat_lt x n
name_below n (OfFile f) = true

abbrev pub file_below : ℕ → Mention → Bool
file_below n (OfName x) = true
file_below n (OfFile f) = nat_lt f n

-- every name number that is mentioned is below n
abbrev pub NamesBelow : ℕ → List Mention → Type 0
NamesBelow n mentions = IsTrue (list_all (name_below n) mentions)

-- the file of every place that is mentioned is below n
abbrev pub FilesBelow : ℕ → List Mention → Type 0
FilesBelow n mentions = IsTrue (list_all (file_below n) mentions)
