-- The operations on whole numbers that are met on the way to a value, and which of them leave 128 signed bits.
use Rattle.std.specs.Prelude.{ℕ, zero, suc, ℤ, pos, neg_ℤ, ◌+ℤ◌, ◌-ℤ◌, ◌*ℤ◌, int_le, ◌^◌, ◌-◌, Bool, false, not, ◌&&◌, if◌then◌else◌, List, [], ◌∷◌, ◌++◌, map}
use Rattle.std.specs.List.{flat_map}
use Rattle.uc_syntax.specs.declared.expression.Expr.{Expr}
use Rattle.uc_syntax.specs.declared.expression.Expr.TheOpen.{Expr-F}
use Rattle.uc_syntax.specs.declared.expression.Expr.TheOpen.Expr-F.{If, Iff, Implies, Or, And, Compare, BitOr, BitXor, BitAnd, Concat, Sum, Product, Unary, Selected}
use Rattle.uc_syntax.specs.declared.expression.Expr.TheFolds.{fold-Expr, map-Expr}
use Rattle.uc_syntax.specs.declared.expression.Primary.{Primary}
use Rattle.uc_syntax.specs.declared.expression.Primary.TheVariants.{Name, Apply, OnBits, Old, Grouped}
use Rattle.uc_syntax.specs.declared.expression.Branch.{Branch}
use Rattle.uc_syntax.specs.declared.expression.Selection.{Selection}
use Rattle.uc_syntax.specs.declared.expression.Selection.TheVariants.{Element, Update}
use Rattle.uc_syntax.specs.declared.expression.SumSign.{SumSign}
use Rattle.uc_syntax.specs.declared.expression.UnaryOperator.{UnaryOperator}
use Rattle.uc_syntax.specs.declared.expression.UnaryOperator.TheVariants.{Negate}
use Rattle.uc_values.specs.declared.value.Value.{Value}
use Rattle.uc_values.specs.declared.value.Value.TheVariants.{Int as whole}
use Rattle.uc_meaning.specs.declared.overflow.WideOp.{WideOp}
use Rattle.uc_meaning.specs.declared.overflow.WideOp.TheVariants.{Add, Sub, Mul}
use Rattle.uc_meaning.specs.declared.overflow.Wide.{Wide}
use Rattle.uc_meaning.specs.declared.scope.Scope.{Scope}
use Rattle.uc_meaning.specs.Lookup.{System}
use Rattle.uc_meaning.specs.Operators.{holds, plus, minus, product}
use Rattle.uc_meaning.specs.Expressions.{Part, Elsewhere, Source, OfBinding, Reached, reached, meaning_of, Applied, OfDefine, applied, at_entry, reading_form, reading_through, elsewhere, longest_way}

-- The operations met on the way to the value of an expression, in each scope.
abbrev pub Met : Type 0
Met = Scope → List Wide

-- A part of an expression, with what is met on the way to it.
pub record Traced : Type 0 where
  pub part : Part
  pub met : Met

-- What is met in an expression elsewhere in the design.
abbrev pub MetElsewhere : Type 0
MetElsewhere = Scope → Expr → List Wide

-- an operation on two whole numbers; none on bits
abbrev pub operation : WideOp → Value → Value → List Wide
operation op (whole a) (whole b) = record { op = op; a = a; b = b } ∷ []
operation op v w = []

-- the operations of a sum, from the left
unfoldable pub sum_operations : Value → List SumSign → List Value → List Wide
sum_operations v (s ∷ ss) (w ∷ vs) =
    if s.is_minus then operation Sub v w ++ sum_operations (minus v w) ss vs else operation Add v w ++ sum_operations (plus v w) ss vs
sum_operations v ss vs = []

unfoldable pub product_operations : Value → List Value → List Wide
product_operations v [] = []
product_operations v (w ∷ vs) = operation Mul v w ++ product_operations (product v w) vs

abbrev pub operations_of_sum : List SumSign → List Value → List Wide
operations_of_sum ss [] = []
operations_of_sum ss (v ∷ vs) = sum_operations v ss vs

abbrev pub operations_of_product : List Value → List Wide
operations_of_product [] = []
operations_of_product (v ∷ vs) = product_operations v vs

-- a whole number is negated as 0 minus it
abbrev pub negation : Value → List Wide
negation (whole a) = record { op = Sub; a = pos 0; b = a } ∷ []
negation other = []

abbrev pub unary_operations : UnaryOperator → Value → List Wide
unary_operations Negate v = negation v
unary_operations other v = []

abbrev pub traced_value : Traced → Scope → Value
traced_value t s = (t.part s).value

abbrev pub traced_values : List Traced → Scope → List Value
traced_values ts s = map (λ t. traced_value t s) ts

-- all operands are met, from the left
abbrev pub all_met : List Traced → Met
all_met ts s = flat_map (λ t. t.met s) ts

abbrev pub selection_met : Scope → Selection Traced → List Wide
selection_met s (Element place index) = index.met s
selection_met s (Update place index new) = index.met s ++ new.met s
selection_met s other = []

abbrev pub selections_met : Scope → List (Selection Traced) → List Wide
selections_met s selections = flat_map (selection_met s) selections

abbrev pub source_met : MetElsewhere → Source → List Wide
source_met others (OfBinding s e) = others s e
source_met others source = []

abbrev pub name_met : System → MetElsewhere → Scope → ℕ → Bool → List Wide
name_met system others s x primed = source_met others (meaning_of system s x primed).source

abbrev pub reached_met : System → MetElsewhere → Scope → Reached Traced → List Wide
reached_met system others s r = name_met system others r.scope r.name r.primed ++ selections_met s r.rest

abbrev pub applied_met : MetElsewhere → Applied → List Wide
applied_met others (OfDefine t s body) = others s body
applied_met others other = []

abbrev pub selected_met : System → MetElsewhere → Primary Traced → List (Selection Traced) → Met
selected_met system others (Name x primed) selections s = reached_met system others s (reached system s x primed selections)
selected_met system others (Apply f arguments) selections s =
    all_met arguments s ++ (applied_met others (applied system s f (traced_values arguments s)) ++ selections_met s selections)
selected_met system others (OnBits function arguments) selections s = all_met arguments s ++ selections_met s selections
selected_met system others (Old x) selections s = name_met system others (at_entry s) x.name false ++ selections_met s selections
selected_met system others (Grouped e) selections s = e.met s ++ selections_met s selections
selected_met system others literal selections s = selections_met s selections

-- what is met in a conditional: the conditions up to the first that holds, and the value that is taken
abbrev pub chosen_met : List (Branch Traced) → Traced → Met
chosen_met [] otherwise s = otherwise.met s
chosen_met (b ∷ bs) otherwise s = b.condition.met s ++ (if holds (traced_value b.condition s) then b.value.met s else chosen_met bs otherwise s)

-- what is met in an expression
abbrev pub met_form : System → MetElsewhere → Expr-F Traced → Met
met_form system others (If place branches otherwise) s = chosen_met branches otherwise s
met_form system others (Iff place parts marks) s = all_met parts s
met_form system others (Implies place parts marks) s = all_met parts s
met_form system others (Or place parts marks) s = all_met parts s
met_form system others (And place parts marks) s = all_met parts s
met_form system others (Compare place how mark a b) s = a.met s ++ b.met s
met_form system others (BitOr place parts marks) s = all_met parts s
met_form system others (BitXor place parts marks) s = all_met parts s
met_form system others (BitAnd place parts marks) s = all_met parts s
met_form system others (Concat place parts marks) s = all_met parts s
met_form system others (Sum place parts signs) s = all_met parts s ++ operations_of_sum signs (traced_values parts s)
met_form system others (Product place parts marks) s = all_met parts s ++ operations_of_product (traced_values parts s)
met_form system others (Unary place operator e) s = e.met s ++ unary_operations operator (traced_value e s)
met_form system others (Selected place primary selections) s = selected_met system others primary selections s

abbrev pub traced_form : System → Elsewhere → MetElsewhere → Expr-F Traced → Traced
traced_form system elsewhere' others layer = record {
  part = reading_form system elsewhere' (map-Expr Traced Part (λ t. t.part) layer);
  met = met_form system others layer;
}

unfoldable pub met_by : System → Elsewhere → MetElsewhere → Expr → Met
met_by system elsewhere' others e = (fold-Expr Traced (traced_form system elsewhere' others) e).met

-- the same, through at most n uses of defines and bindings
unfoldable pub met_through : ℕ → System → Scope → Expr → List Wide
met_through zero system s e = []
met_through (suc n) system s e = met_by system (reading_through n system) (met_through n system) e s

-- the operations met on the way to the value of an expression in a scope
abbrev pub met : System → Scope → Expr → List Wide
met system s e = met_by system (elsewhere system) (met_through longest_way system) e s

abbrev pub exact : Wide → ℤ
exact w = by w.op w.a w.b
  where
    by : WideOp → ℤ → ℤ → ℤ
    by Add a b = a +ℤ b
    by Sub a b = a -ℤ b
    by Mul a b = a *ℤ b

-- the exact result leaves 128 signed bits
abbrev pub is_wide : Wide → Bool
is_wide w = not (int_le (neg_ℤ (pos (2 ^ 127))) (exact w) && int_le (exact w) (pos (2 ^ 127 - 1)))
