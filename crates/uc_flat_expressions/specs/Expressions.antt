-- The expression over cells that stands for an expression of a design.
use Rattle.std.specs.Prelude.{ℕ, pos, ◌^◌, Bool as Truth, true, false, ◌&&◌, nat_le, nat_lt, if◌then◌else◌, List, [], ◌∷◌, map, Option, Some, None}
use Rattle.std.specs.Option.{option_map, option_and_then}
use Rattle.uc_syntax.specs.declared.expression.Expr.{Expr}
use Rattle.uc_syntax.specs.declared.expression.Expr.TheOpen.{Expr-F}
use Rattle.uc_syntax.specs.declared.expression.Expr.TheOpen.Expr-F.{If, Iff, Implies, Or, And, Compare, BitOr, BitXor, BitAnd, Concat, Sum, Product, Unary, Selected}
use Rattle.uc_syntax.specs.declared.expression.Expr.TheFolds.{fold-Expr}
use Rattle.uc_syntax.specs.declared.expression.Primary.{Primary}
use Rattle.uc_syntax.specs.declared.expression.Primary.TheVariants.{Truth as TruthWord, Number, BitsLiteral, Name, Apply as Applied, OnBits, Old, Grouped}
use Rattle.uc_syntax.specs.declared.expression.Branch.{Branch}
use Rattle.uc_syntax.specs.declared.expression.BitFunction.{BitFunction}
use Rattle.uc_syntax.specs.declared.expression.UnaryOperator.{UnaryOperator}
use Rattle.uc_syntax.specs.declared.expression.Comparison.{Comparison}
use Rattle.uc_syntax.specs.declared.expression.Selection.{Selection}
use Rattle.uc_syntax.specs.declared.expression.Selection.TheVariants.{Field, Copy, Element, Update, Extract}
use Rattle.uc_values.specs.declared.ty.Ty.TheVariants.{Bool, Int, Bv}
use Rattle.uc_values.specs.declared.value.Value.TheVariants.{Bool as truth, Int as whole, Bv as word}
use Rattle.uc_ops.specs.declared.op.Op.TheVariants.{Const, And as AndOp, Or as OrOp}
use Rattle.uc_flat.specs.declared.expression.Expression.TheVariants.{Apply}
use Rattle.uc_flat_expressions.specs.declared.typed.TypedExpression.{TypedExpression}
use Rattle.uc_flat_expressions.specs.declared.typed.TypedArm.{TypedArm}
use Rattle.uc_flat_expressions.specs.declared.typed.Meant.{Meant}
use Rattle.uc_flat_expressions.specs.declared.building.Chain.TheVariants.{Equal, Or as OrBits, Xor, And as AndBits, Concat as Joined, Multiply}
use Rattle.uc_flat_expressions.specs.Names.{named}
use Rattle.uc_flat_expressions.specs.Building.{constant, chain, junction, implication, sum, unary_of, comparison, choice, field_selected, range_selected, on_bits}

-- all of them, where none is missing
abbrev pub all_of : {A : Type 0} → List (Option A) → Option (List A)
all_of [] = Some []
all_of (o ∷ os) = option_and_then (λ x. option_map (λ xs. x ∷ xs) (all_of os)) o

-- what parts that may be missing give
abbrev pub MayBe : Type 0
MayBe = Option TypedExpression

abbrev pub compare_form : Comparison → MayBe → MayBe → MayBe
compare_form how a b = option_and_then (λ x. option_and_then (λ y. comparison how x y) b) a

abbrev pub unary_form : UnaryOperator → MayBe → MayBe
unary_form operator a = option_and_then (unary_of operator) a

-- an arm of a conditional, where both of its parts are there
abbrev pub arm_of : {E : Type 0} → (E → MayBe) → Branch E → Option TypedArm
arm_of f b = option_and_then (λ c. option_map (λ v. record { condition = c; value = v }) (f b.value)) (f b.condition)

-- the arms of a conditional and what stands behind them: the first arm whose condition holds
unfoldable pub joined_arms : List TypedArm → TypedExpression → MayBe
joined_arms [] rest = Some rest
joined_arms (a ∷ arms) rest = option_and_then (choice a.condition a.value) (joined_arms arms rest)

abbrev pub if_by : {E : Type 0} → (E → MayBe) → List (Branch E) → MayBe → MayBe
if_by f bs otherwise = option_and_then (λ rest. option_and_then (λ arms. joined_arms arms rest) (all_of (map (arm_of f) bs))) otherwise

abbrev pub truth_literal : Truth → TypedExpression
truth_literal b = constant (Const Bool (truth b)) Bool

-- a whole number is built as the number of an extension alone, so up to 64
abbrev pub number_literal : ℕ → MayBe
number_literal n = if nat_le n 64 then Some (record { expression = Apply (Const Int (whole (pos n))) []; ty = Int; number = Some n }) else None

abbrev pub bits_literal : ℕ → ℕ → MayBe
bits_literal n width = if nat_le 1 width && (nat_le width 64 && nat_lt n (2 ^ width)) then Some (constant (Const (Bv width) (word width n)) (Bv width)) else None

-- a function on bits has two parts
abbrev pub on_two : BitFunction → List TypedExpression → MayBe
on_two function (n ∷ (a ∷ [])) = on_bits function n a
on_two function other = None

-- a primary without parts
abbrev pub plain_primary : {E : Type 0} → List Meant → Primary E → MayBe
plain_primary names (TruthWord b) = Some (truth_literal b)
plain_primary names (Number n) = number_literal n
plain_primary names (BitsLiteral n width) = bits_literal n width
plain_primary names (Name x primed) = named names x primed
plain_primary names other = None

abbrev pub primary_by : {E : Type 0} → List Meant → (E → MayBe) → Primary E → MayBe
primary_by names f (OnBits function arguments) = option_and_then (on_two function) (all_of (map f arguments))
primary_by names f (Grouped e) = f e
primary_by names f other = plain_primary names other

abbrev pub select_of : {E : Type 0} → TypedExpression → Selection E → MayBe
select_of t (Field place f) = field_selected t f.name
select_of t (Extract place high low) = range_selected t high low
select_of t other = None

-- selections from left to right
unfoldable pub select_all_of : {E : Type 0} → TypedExpression → List (Selection E) → MayBe
select_all_of t [] = Some t
select_all_of t (s ∷ ss) = option_and_then (λ u. select_all_of u ss) (select_of t s)

abbrev pub selected_by : {E : Type 0} → List Meant → (E → MayBe) → Primary E → List (Selection E) → MayBe
selected_by names f primary selections = option_and_then (λ t. select_all_of t selections) (primary_by names f primary)

-- an expression by what its parts give
abbrev pub flat_form : List Meant → Expr-F MayBe → MayBe
flat_form names (If place branches otherwise) = if_by (λ x. x) branches otherwise
flat_form names (Iff place parts marks) = option_and_then (chain Equal) (all_of parts)
flat_form names (Implies place parts marks) = option_and_then implication (all_of parts)
flat_form names (Or place parts marks) = option_and_then (junction OrOp) (all_of parts)
flat_form names (And place parts marks) = option_and_then (junction AndOp) (all_of parts)
flat_form names (Compare place how mark a b) = compare_form how a b
flat_form names (BitOr place parts marks) = option_and_then (chain OrBits) (all_of parts)
flat_form names (BitXor place parts marks) = option_and_then (chain Xor) (all_of parts)
flat_form names (BitAnd place parts marks) = option_and_then (chain AndBits) (all_of parts)
flat_form names (Concat place parts marks) = option_and_then (chain Joined) (all_of parts)
flat_form names (Sum place parts signs) = option_and_then (sum signs) (all_of parts)
flat_form names (Product place parts marks) = option_and_then (chain Multiply) (all_of parts)
flat_form names (Unary place operator part) = unary_form operator part
flat_form names (Selected place primary selections) = selected_by names (λ x. x) primary selections

-- The expression over cells, where names stand for what is listed.
unfoldable pub flat_of : List Meant → Expr → MayBe
flat_of names = fold-Expr MayBe (flat_form names)
