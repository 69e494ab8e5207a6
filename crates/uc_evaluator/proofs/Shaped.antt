-- What an expression says, and what is told of it, from what its parts say.
use Rattle.std.proofs.Common.{◌≡◌, ℕ, List, [], ◌++◌, map, Option, Some, None, refl, ap, ◌∙◌, sym, subst}
use Rattle.std.specs.Prelude.{Result, Ok, Err}
use Rattle.std.specs.List.{flat_map}
use Rattle.uc_syntax.specs.declared.expression.Expr.{Expr}
use Rattle.uc_syntax.specs.declared.expression.Comparison.{Comparison}
use Rattle.uc_syntax.specs.declared.expression.UnaryOperator.{UnaryOperator}
use Rattle.uc_syntax.specs.declared.expression.Selection.{Selection}
use Rattle.uc_values.specs.declared.ty.Ty.{Ty}
use Rattle.uc_values.specs.declared.value.Value.{Value}
use Rattle.uc_values.specs.Arrays.{at, store}
use Rattle.uc_meaning.specs.declared.scope.Scope.{Scope}
use Rattle.uc_meaning.specs.declared.overflow.Wide.{Wide}
use Rattle.uc_meaning.specs.Lookup.{System}
use Rattle.uc_meaning.specs.Operators.{unary, compared}
use Rattle.uc_meaning.specs.Expressions.{Reading, reads, reads_truth, element_type}
use Rattle.uc_meaning.specs.Overflow.{unary_operations}
use Rattle.uc_operators.specs.declared.error.EvalError.{EvalError}
use Rattle.uc_operators.specs.Overflows.{first_wide, TellsWide}
use Rattle.uc_meaning.specs.declared.shape.Chain.{Chain}
use Rattle.uc_meaning.specs.Levels.{reading_at, type_at, value_at, met_at}
use Rattle.uc_meaning.specs.Shapes.{IsChain, IsCompared, IsApplied, chain_reading, chain_operations}
use Rattle.uc_evaluator.proofs.Told.{none_both, none_first, told_first, told_same, told_second}

module _ (n : ℕ) (system : System) (s : Scope) (e : Expr) where
  module _ (chain : Chain) (es : List Expr) (shape : IsChain e chain es) where
    pub chain_gives : (ts : List Ty) (vs : List Value) → ts ≡ map (type_at n system s) es → vs ≡ map (value_at n system s) es → chain_reading chain ts vs ≡ reading_at n system s e
    chain_gives ts vs types values = (λ i. chain_reading chain (types i) (values i)) ∙ sym (shape.reading n system s)

    pub chain_told : (A B : Type 0) (x : EvalError) → TellsWide {A = A} (first_wide (flat_map (met_at n system s) es)) (Err x) → TellsWide {A = B} (first_wide (met_at n system s e)) (Err x)
    chain_told A B x told =
        subst (λ xs. TellsWide {A = B} (first_wide xs) (Err x)) (sym (shape.met n system s)) (told_first A B (flat_map (met_at n system s) es) _ x told)

    pub chain_tells : {A : Type 0} (vs : List Value) (r : Result A EvalError) → vs ≡ map (value_at n system s) es → first_wide (flat_map (met_at n system s) es) ≡ None →
        TellsWide (first_wide (chain_operations chain vs)) r → TellsWide (first_wide (met_at n system s e)) r
    chain_tells vs r values none told =
        subst (λ xs. TellsWide (first_wide xs) r) (ap (λ ys. flat_map (met_at n system s) es ++ chain_operations chain ys) values ∙ sym (shape.met n system s))
        (told_second (flat_map (met_at n system s) es) (chain_operations chain vs) r none told)

  module _ (how : Comparison) (a b : Expr) (shape : IsCompared e how a b) where
    pub compared_gives : (t : Ty) (v w : Value) → t ≡ type_at n system s a → v ≡ value_at n system s a → w ≡ value_at n system s b → reads_truth (compared how t v w) ≡ reading_at n system s e
    compared_gives t v w type left right = (λ i. reads_truth (compared how (type i) (left i) (right i))) ∙ sym (shape.reading n system s)

    pub compared_left : (A B : Type 0) (x : EvalError) → TellsWide {A = A} (first_wide (met_at n system s a)) (Err x) → TellsWide {A = B} (first_wide (met_at n system s e)) (Err x)
    compared_left A B x told =
        subst (λ xs. TellsWide {A = B} (first_wide xs) (Err x)) (sym (shape.met n system s)) (told_first A B (met_at n system s a) (met_at n system s b) x told)

    pub compared_right : (A B : Type 0) (x : EvalError) → first_wide (met_at n system s a) ≡ None → TellsWide {A = A} (first_wide (met_at n system s b)) (Err x) →
        TellsWide {A = B} (first_wide (met_at n system s e)) (Err x)
    compared_right A B x none told =
        subst (λ xs. TellsWide {A = B} (first_wide xs) (Err x)) (sym (shape.met n system s))
        (told_same A B (first_wide (met_at n system s b)) (first_wide (met_at n system s a ++ met_at n system s b)) x (sym (none_first (met_at n system s a) (met_at n system s b) none)) told)

    pub compared_none : first_wide (met_at n system s a) ≡ None → first_wide (met_at n system s b) ≡ None → first_wide (met_at n system s e) ≡ None
    compared_none left right = ap first_wide (shape.met n system s) ∙ none_both (met_at n system s a) (met_at n system s b) left right

  module _ (operator : UnaryOperator) (a : Expr) (shape : IsApplied e operator a) where
    pub applied_gives : (r : Reading) → r ≡ reading_at n system s a → reads r.type (unary operator r.value) ≡ reading_at n system s e
    applied_gives r is = ap (λ q. reads q.type (unary operator q.value)) is ∙ sym (shape.reading n system s)

    pub applied_told : (A B : Type 0) (x : EvalError) → TellsWide {A = A} (first_wide (met_at n system s a)) (Err x) → TellsWide {A = B} (first_wide (met_at n system s e)) (Err x)
    applied_told A B x told =
        subst (λ xs. TellsWide {A = B} (first_wide xs) (Err x)) (sym (shape.met n system s)) (told_first A B (met_at n system s a) _ x told)

    pub applied_tells : {A : Type 0} (v : Value) (r : Result A EvalError) → v ≡ value_at n system s a → first_wide (met_at n system s a) ≡ None → TellsWide (first_wide (unary_operations operator v)) r →
        TellsWide (first_wide (met_at n system s e)) r
    applied_tells v r value none told =
        subst (λ xs. TellsWide (first_wide xs) r) (ap (λ w. met_at n system s a ++ unary_operations operator w) value ∙ sym (shape.met n system s))
        (told_second (met_at n system s a) (unary_operations operator v) r none told)
