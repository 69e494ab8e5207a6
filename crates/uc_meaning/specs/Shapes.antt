-- The shape of an expression: its parts, what it says and what is met in terms of them, and how large they are.
use Rattle.std.specs.Prelude.{◌≡◌, ℕ, ◌+◌, ◌<◌, List, [], ◌∷◌, ◌++◌, map}
use Rattle.std.specs.List.{flat_map}
use Rattle.uc_syntax.specs.declared.expression.Expr.{Expr}
use Rattle.uc_syntax.specs.declared.expression.Expr.TheOpen.{Expr-F}
use Rattle.uc_syntax.specs.declared.expression.Expr.TheOpen.Expr-F.{If, Iff, Implies, Or, And, Compare, BitOr, BitXor, BitAnd, Concat, Sum, Product, Unary, Selected}
use Rattle.uc_syntax.specs.declared.expression.Expr.TheFolds.{fold-Expr}
use Rattle.uc_syntax.specs.declared.expression.Primary.{Primary}
use Rattle.uc_syntax.specs.declared.expression.Primary.TheVariants.{Apply, OnBits, Grouped}
use Rattle.uc_syntax.specs.declared.expression.Branch.{Branch}
use Rattle.uc_syntax.specs.declared.expression.Selection.{Selection}
use Rattle.uc_syntax.specs.declared.expression.Selection.TheVariants.{Element, Update}
use Rattle.uc_syntax.specs.declared.expression.Comparison.{Comparison}
use Rattle.uc_syntax.specs.declared.expression.UnaryOperator.{UnaryOperator}
use Rattle.uc_values.specs.declared.ty.Ty.{Ty}
use Rattle.uc_values.specs.declared.ty.Ty.TheVariants.{Bool as boolean_type, Bv as bits_type}
use Rattle.uc_values.specs.declared.value.Value.{Value}
use Rattle.uc_meaning.specs.declared.scope.Scope.{Scope}
use Rattle.uc_meaning.specs.declared.overflow.Wide.{Wide}
use Rattle.uc_meaning.specs.Lookup.{System}
use Rattle.uc_meaning.specs.Operators.{any_holds, all_hold, implied, equivalent, chained, product, summed, concatenated, unary, compared}
use Rattle.uc_meaning.specs.Expressions.{Reading, reads, reads_truth, width}
use Rattle.uc_meaning.specs.Overflow.{operations_of_sum, operations_of_product, unary_operations}
use Rattle.uc_values.specs.Operators.{bv_or, bv_xor, bv_and}
use Rattle.uc_meaning.specs.declared.shape.Chain.{Chain}
use Rattle.uc_meaning.specs.declared.shape.Chain.TheVariants.{Iff as iff, Implies as implies, Or as or, And as and, BitOr as bit_or, BitXor as bit_xor, BitAnd as bit_and, Concat as concat, Sum as sum, Product as times}
use Rattle.uc_meaning.specs.declared.shape.Shape.{Shape}
use Rattle.uc_meaning.specs.declared.shape.Shape.TheVariants.{Chosen, Chained, Compared, Applied, Selected as selected}
use Rattle.uc_meaning.specs.Levels.{reading_at, type_at, value_at, met_at, chosen_at, chosen_met_at, select_all_at, selections_met_at, head_reading, head_rest, head_met}

abbrev pub first_of : List Ty → Ty
first_of [] = boolean_type
first_of (t ∷ ts) = t

unfoldable pub widths : List Ty → ℕ
widths [] = 0
widths (t ∷ ts) = width t + widths ts

-- what a chain says of operands of these types and values, and the operations that it does
abbrev pub chain_reading : Chain → List Ty → List Value → Reading
chain_reading iff ts vs = reads_truth (equivalent vs)
chain_reading implies ts vs = reads_truth (implied vs)
chain_reading or ts vs = reads_truth (any_holds vs)
chain_reading and ts vs = reads_truth (all_hold vs)
chain_reading bit_or ts vs = reads (first_of ts) (chained bv_or vs)
chain_reading bit_xor ts vs = reads (first_of ts) (chained bv_xor vs)
chain_reading bit_and ts vs = reads (first_of ts) (chained bv_and vs)
chain_reading concat ts vs = reads (bits_type (widths ts)) (chained concatenated vs)
chain_reading (sum signs) ts vs = reads (first_of ts) (summed signs.now vs)
chain_reading times ts vs = reads (first_of ts) (chained product vs)

abbrev pub chain_operations : Chain → List Value → List Wide
chain_operations (sum signs) vs = operations_of_sum signs.now vs
chain_operations times vs = operations_of_product vs
chain_operations other vs = []

-- How large an expression is.
unfoldable pub total : List ℕ → ℕ
total [] = 0
total (n ∷ ns) = n + total ns

abbrev pub selection_weight : Selection ℕ → ℕ
selection_weight (Element place index) = index
selection_weight (Update place index new) = index + new
selection_weight other = 0

abbrev pub primary_weight : Primary ℕ → ℕ
primary_weight (Apply f arguments) = total arguments
primary_weight (OnBits function arguments) = total arguments
primary_weight (Grouped e) = e
primary_weight other = 0

abbrev pub size_form : Expr-F ℕ → ℕ
size_form (If place branches otherwise) = 1 + (total (map (λ b. b.condition + b.value) branches) + otherwise)
size_form (Iff place parts marks) = 1 + total parts
size_form (Implies place parts marks) = 1 + total parts
size_form (Or place parts marks) = 1 + total parts
size_form (And place parts marks) = 1 + total parts
size_form (Compare place how mark a b) = 1 + (a + b)
size_form (BitOr place parts marks) = 1 + total parts
size_form (BitXor place parts marks) = 1 + total parts
size_form (BitAnd place parts marks) = 1 + total parts
size_form (Concat place parts marks) = 1 + total parts
size_form (Sum place parts signs) = 1 + total parts
size_form (Product place parts marks) = 1 + total parts
size_form (Unary place operator e) = 1 + e
size_form (Selected place primary selections) = 1 + (primary_weight primary + total (map selection_weight selections))

unfoldable pub size : Expr → ℕ
size = fold-Expr ℕ size_form

abbrev pub sizes : List Expr → ℕ
sizes es = total (map size es)

abbrev pub branch_size : Branch Expr → ℕ
branch_size b = size b.condition + size b.value

abbrev pub selection_size : Selection Expr → ℕ
selection_size (Element place index) = size index
selection_size (Update place index new) = size index + size new
selection_size other = 0

abbrev pub selections_size : List (Selection Expr) → ℕ
selections_size xs = total (map selection_size xs)

abbrev pub primary_size : Primary Expr → ℕ
primary_size (Apply f arguments) = sizes arguments
primary_size (OnBits function arguments) = sizes arguments
primary_size (Grouped e) = size e
primary_size other = 0

-- An expression is a chain of operands.
pub record IsChain (e : Expr) (chain : Chain) (operands : List Expr) : Type 0 where
  pub reading : (n : ℕ) (system : System) (s : Scope) → reading_at n system s e ≡ chain_reading chain (map (type_at n system s) operands) (map (value_at n system s) operands)
  pub met : (n : ℕ) (system : System) (s : Scope) → met_at n system s e ≡ flat_map (met_at n system s) operands ++ chain_operations chain (map (value_at n system s) operands)
  pub smaller : sizes operands < size e

-- An expression is a conditional.
pub record IsChosen (e : Expr) (branches : List (Branch Expr)) (otherwise : Expr) : Type 0 where
  pub reading : (n : ℕ) (system : System) (s : Scope) → reading_at n system s e ≡ chosen_at n system s branches otherwise
  pub met : (n : ℕ) (system : System) (s : Scope) → met_at n system s e ≡ chosen_met_at n system s branches otherwise
  pub smaller : total (map branch_size branches) + size otherwise < size e

-- An expression is a comparison.
pub record IsCompared (e : Expr) (how : Comparison) (a b : Expr) : Type 0 where
  pub reading : (n : ℕ) (system : System) (s : Scope) → reading_at n system s e ≡ reads_truth (compared how (type_at n system s a) (value_at n system s a) (value_at n system s b))
  pub met : (n : ℕ) (system : System) (s : Scope) → met_at n system s e ≡ met_at n system s a ++ met_at n system s b
  pub smaller : size a + size b < size e

-- An expression is an operator on one operand.
pub record IsApplied (e : Expr) (operator : UnaryOperator) (a : Expr) : Type 0 where
  pub reading : (n : ℕ) (system : System) (s : Scope) → reading_at n system s e ≡ record { type = type_at n system s a; value = unary operator (value_at n system s a) }
  pub met : (n : ℕ) (system : System) (s : Scope) → met_at n system s e ≡ met_at n system s a ++ unary_operations operator (value_at n system s a)
  pub smaller : size a < size e

-- An expression is a primary with its selections.
pub record IsSelected (e : Expr) (primary : Primary Expr) (selections : List (Selection Expr)) : Type 0 where
  pub reading : (n : ℕ) (system : System) (s : Scope) → reading_at n system s e ≡ select_all_at n system s (head_reading n system s primary selections) (head_rest system s primary selections)
  pub met : (n : ℕ) (system : System) (s : Scope) → met_at n system s e ≡ head_met n system s primary selections ++ selections_met_at n system s (head_rest system s primary selections)
  pub smaller : primary_size primary + selections_size selections < size e

abbrev pub HasShape : Expr → Shape → Type 0
HasShape e (Chosen branches otherwise) = IsChosen e branches.now otherwise.now
HasShape e (Chained chain operands) = IsChain e chain operands.now
HasShape e (Compared how a b) = IsCompared e how a.now b.now
HasShape e (Applied operator a) = IsApplied e operator a.now
HasShape e (selected primary selections) = IsSelected e primary.now selections.now
