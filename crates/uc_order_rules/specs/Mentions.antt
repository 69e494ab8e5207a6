-- The names that expressions and statements mention.
use Rattle.std.specs.Prelude.{ℕ, Bool, List, [], ◌∷◌, ◌++◌, map, Option, Some, None}
use Rattle.std.specs.List.{flat_map}
use Rattle.uc_lexer.specs.declared.place.Place.{Place}
use Rattle.uc_syntax.specs.declared.expression.Expr.{Expr}
use Rattle.uc_syntax.specs.declared.expression.Expr.TheOpen.{Expr-F}
use Rattle.uc_syntax.specs.declared.expression.Expr.TheOpen.Expr-F.{If, Iff, Implies, Or, And, Compare, BitOr, BitXor, BitAnd, Concat, Sum, Product, Unary, Selected}
use Rattle.uc_syntax.specs.declared.expression.Expr.TheFolds.{fold-Expr}
use Rattle.uc_syntax.specs.declared.expression.Primary.{Primary}
use Rattle.uc_syntax.specs.declared.expression.Primary.TheVariants.{Name, Apply, OnBits, Old, Grouped}
use Rattle.uc_syntax.specs.declared.expression.Selection.{Selection}
use Rattle.uc_syntax.specs.declared.expression.Selection.TheVariants.{Field, Element, Update}
use Rattle.uc_syntax.specs.declared.statement.Target.{Target}
use Rattle.uc_syntax.specs.declared.statement.TargetPart.{TargetPart}
use Rattle.uc_syntax.specs.declared.statement.TargetPart.TheVariants.{Element as ElementOf}
use Rattle.uc_syntax.specs.declared.statement.Arm.{Arm}
use Rattle.uc_syntax.specs.declared.statement.Stmt.{Stmt}
use Rattle.uc_syntax.specs.declared.statement.Stmt.TheOpen.{Stmt-F}
use Rattle.uc_syntax.specs.declared.statement.Stmt.TheOpen.Stmt-F.{Block, Assert, Assume, Assign, If as Choice, Case as Cases, For, Call}
use Rattle.uc_syntax.specs.declared.statement.Stmt.TheFolds.{fold-Stmt}

-- A name that is read, whether it is primed, and the names behind its dots; a function or define that is applied; or a name at entry.
pub data Mention : Type 0 where
  Reads : ℕ → Bool → List ℕ → Mention
  Applies : ℕ → Mention
  ReadsOld : ℕ → Mention

unfoldable pub dotted : {A : Type 0} → List (Selection A) → List ℕ
dotted (Field place y ∷ rest) = y.name ∷ dotted rest
dotted other = []

abbrev pub all_of : {A : Type 0} → List (List A) → List A
all_of parts = flat_map (λ p. p) parts

abbrev pub primary_mentions : Primary (List Mention) → List (Selection (List Mention)) → List Mention
primary_mentions (Name x primed) selections = Reads x primed (dotted selections) ∷ []
primary_mentions (Apply f arguments) selections = Applies f ∷ all_of arguments
primary_mentions (OnBits function arguments) selections = all_of arguments
primary_mentions (Old x) selections = ReadsOld x.name ∷ []
primary_mentions (Grouped e) selections = e
primary_mentions other selections = []

abbrev pub selection_mentions : Selection (List Mention) → List Mention
selection_mentions (Element place i) = i
selection_mentions (Update place i v) = i ++ v
selection_mentions other = []

abbrev pub mentions_form : Expr-F (List Mention) → List Mention
mentions_form (If place branches otherwise) = flat_map (λ b. b.condition ++ b.value) branches ++ otherwise
mentions_form (Iff place parts marks) = all_of parts
mentions_form (Implies place parts marks) = all_of parts
mentions_form (Or place parts marks) = all_of parts
mentions_form (And place parts marks) = all_of parts
mentions_form (Compare place how mark a b) = a ++ b
mentions_form (BitOr place parts marks) = all_of parts
mentions_form (BitXor place parts marks) = all_of parts
mentions_form (BitAnd place parts marks) = all_of parts
mentions_form (Concat place parts marks) = all_of parts
mentions_form (Sum place parts signs) = all_of parts
mentions_form (Product place parts marks) = all_of parts
mentions_form (Unary place operator e) = e
mentions_form (Selected place primary selections) = primary_mentions primary selections ++ flat_map selection_mentions selections

-- what an expression mentions
unfoldable pub mentions : Expr → List Mention
mentions = fold-Expr (List Mention) mentions_form

-- the indices in a target
abbrev pub part_index : TargetPart → List Expr
part_index (ElementOf place e) = e ∷ []
part_index other = []

abbrev pub target_indices : List Target → List Expr
target_indices ts = flat_map (λ t. flat_map part_index t.parts) ts

abbrev pub otherwise_of : {A : Type 0} → Option (List (List A)) → List A
otherwise_of None = []
otherwise_of (Some block) = all_of block

-- the expressions in a statement, also in the statements inside it
abbrev pub expressions_form : Stmt-F (List Expr) → List Expr
expressions_form (Block place block) = all_of block
expressions_form (Assert place label e) = e ∷ []
expressions_form (Assume place e) = e ∷ []
expressions_form (Assign place targets sources) = target_indices targets ++ sources
expressions_form (Choice place arms otherwise) = flat_map (λ a. a.condition ∷ all_of a.body) arms ++ otherwise_of otherwise
expressions_form (Cases place arms otherwise) = flat_map (λ a. a.condition ∷ all_of a.body) arms ++ otherwise_of otherwise
expressions_form (For place x type from to block) = all_of block
expressions_form (Call place targets f arguments) = target_indices targets ++ arguments
expressions_form other = []

unfoldable pub expressions_in : Stmt → List Expr
expressions_in = fold-Stmt (List Expr) expressions_form

-- the procedures that a statement calls, also in the statements inside it
abbrev pub calls_form : Stmt-F (List ℕ) → List ℕ
calls_form (Block place block) = all_of block
calls_form (Choice place arms otherwise) = flat_map (λ a. all_of a.body) arms ++ otherwise_of otherwise
calls_form (Cases place arms otherwise) = flat_map (λ a. all_of a.body) arms ++ otherwise_of otherwise
calls_form (For place x type from to block) = all_of block
calls_form (Call place targets f arguments) = f.name ∷ []
calls_form other = []

unfoldable pub calls_in : Stmt → List ℕ
calls_in = fold-Stmt (List ℕ) calls_form
