-- An expression that may stand somewhere may stand wherever looser ones may, and in parentheses everywhere.
use Rattle.std.specs.Prelude.{nat_le, if◌then◌else◌}
use Rattle.std.proofs.Common.{◌≡◌, ℕ, zero, suc, ◌+◌, ◌-◌, ◌≤◌, Bool, true, false, List, [], ◌∷◌, Option, Some, None, map, refl, subst, arith, inl, inr}
use Rattle.std.proofs.lemmas.Bool.{leb-true}
use Rattle.uc_lexer.specs.declared.place.Place.{Place}
use Rattle.uc_forms.specs.Form.{many}
use Rattle.uc_grammar.specs.declared.word.Word.{Word}
use Rattle.uc_grammar.specs.declared.word.Kind.{Kind}
use Rattle.uc_grammar.specs.declared.word.Kind.TheVariants as kinds
use Rattle.uc_grammar.specs.Syntax.{F, Placed, Head, parens, rule, primary, selected_of, chain_of, level, sum_of, compared_of, unary, product, summed, concatenated, bit_and, bit_xor, bit_or, compared, conjunction, disjunction, implication, equivalence, expression, bare, expr}
use Rattle.uc_syntax.specs.declared.expression.Expr.{Expr}
use Rattle.uc_syntax.specs.declared.expression.Expr.TheViews as exprs
use Rattle.uc_syntax.specs.declared.expression.Selection.{Selection}
use Rattle.uc_print_laws.specs.Printed.{Printed, none, sign, ◌<+>◌, in_parens}
use Rattle.uc_print_laws.specs.Expressions.{Leveled, place_for, at, whole, erased_expr}
use Rattle.uc_print_laws.specs.PrintedLaw.{Prints}
use Rattle.uc_print_laws.proofs.PrintedSteps.{unit, same, s_word, s_both, s_made, s_first, s_next, s_before, s_deep, s_optional_none, many_none}

-- it is this expression, places aside
abbrev pub Is : Expr → Placed → Type 0
Is t p = erased_expr p.1 ≡ t

none_of : {A : Type 0} (xs : List A) → map (λ (x : A). x) xs ≡ [] → xs ≡ []
none_of [] e = refl
none_of (x ∷ xs) e = absurd cc

no_more : {A : Type 0} {f : F A} → Prints (many f) none (λ vs. map (λ (v : A). v) vs ≡ [])
no_more {A} = many_none (λ (v : A). v)

alone : (node : Place → List Expr → List Place → Expr) (t : Expr) (x : Placed × List (Word × Placed)) → Is t x.0 × (map (λ (v : Word × Placed). v) x.1 ≡ []) → Is t (chain_of node x)
alone node t (p, []) q = q.0
alone node t (p, y ∷ ys) q = absurd cc

alone_sum : (t : Expr) (x : Placed × List (Word × Placed)) → Is t x.0 × (map (λ (v : Word × Placed). v) x.1 ≡ []) → Is t (sum_of x)
alone_sum t (p, []) q = q.0
alone_sum t (p, y ∷ ys) q = absurd cc

alone_compared : (t : Expr) (x : Placed × Option (Word × Placed)) → Is t x.0 × (x.1 ≡ None) → Is t (compared_of x)
alone_compared t (p, None) q = q.0
alone_compared t (p, Some y) q = absurd cc

one_up : (node : Place → List Expr → List Place → Expr) (k : Kind) (f : F Placed) (x : Printed) (t : Expr) → Prints f x (Is t) → Prints (level node k f) x (Is t)
one_up node k f x t p = same (unit x) (s_made (chain_of node) (alone node t) (s_both p no_more))

lift_one : (h : ℕ) (x : Printed) (t : Expr) → Prints (place_for h) x (Is t) → Prints (place_for (suc h)) x (Is t)
unfolding product summed concatenated bit_and bit_xor bit_or compared conjunction disjunction implication equivalence expression
lift_one zero x t p = one_up exprs.Product kinds.Star unary x t p
lift_one (suc zero) x t p = same (unit x) (s_made sum_of (alone_sum t) (s_both p no_more))
lift_one (suc (suc zero)) x t p = one_up exprs.Concat kinds.Concat summed x t p
lift_one (suc (suc (suc zero))) x t p = one_up exprs.BitAnd kinds.Ampersand concatenated x t p
lift_one (suc (suc (suc (suc zero)))) x t p = one_up exprs.BitXor kinds.Caret bit_and x t p
lift_one (suc (suc (suc (suc (suc zero))))) x t p = one_up exprs.BitOr kinds.Bar bit_xor x t p
lift_one (suc (suc (suc (suc (suc (suc zero)))))) x t p = same (unit x) (s_made compared_of (alone_compared t) (s_both p s_optional_none))
lift_one (suc (suc (suc (suc (suc (suc (suc zero))))))) x t p = one_up exprs.And kinds.And compared x t p
lift_one (suc (suc (suc (suc (suc (suc (suc (suc zero)))))))) x t p = one_up exprs.Or kinds.Or conjunction x t p
lift_one (suc (suc (suc (suc (suc (suc (suc (suc (suc zero))))))))) x t p = one_up exprs.Implies kinds.Implies disjunction x t p
lift_one (suc (suc (suc (suc (suc (suc (suc (suc (suc (suc zero)))))))))) x t p = one_up exprs.Iff kinds.Iff implication x t p
lift_one (suc (suc (suc (suc (suc (suc (suc (suc (suc (suc (suc zero))))))))))) x t p = s_next p
lift_one (suc (suc (suc (suc (suc (suc (suc (suc (suc (suc (suc (suc h)))))))))))) x t p = p

pub lift : (d h k : ℕ) (x : Printed) (t : Expr) → k ≡ d + h → Prints (place_for h) x (Is t) → Prints (place_for k) x (Is t)
lift zero h k x t e p = let i : h ≡ k = omega arith in subst (λ z. Prints (place_for z) x (Is t)) i p
lift (suc d) h zero x t e p = absurd (omega arith)
lift (suc d) h (suc k) x t e p = lift_one k x t (lift d h k x t (omega arith) p)

-- an expression as printed, and the expression that it is without places
abbrev pub Good : Leveled → Expr → Type 0
Good x t = Prints (place_for x.height) x.bare (Is t)

-- the expression alone
abbrev pub IsExpr : Expr → Expr → Type 0
IsExpr t e = erased_expr e ≡ t

pub s_bare : (f : F Placed) (x : Printed) (t : Expr) → Prints f x (Is t) → Prints (bare f) x (IsExpr t)
s_bare f x t p = s_made _ (λ y q. q) p

-- anywhere
pub s_whole : (x : Leveled) (t : Expr) → Good x t → Prints expr (whole x) (IsExpr t)
s_whole x t p = s_bare expression x.bare t (lift 12 x.height (suc (suc (suc (suc (suc (suc (suc (suc (suc (suc (suc (suc x.height)))))))))))) x.bare t (omega arith) p)

-- ---- in parentheses

s_parens : (x : Printed) (t : Expr) → Prints expr x (IsExpr t) → Prints (rule parens) (sign kinds.LeftParen <+> (x <+> sign kinds.RightParen)) (Is t)
s_parens x t p = s_made _ (λ y q. q.1) (s_both (s_word kinds.LeftParen kinds.LeftParen refl) (s_before kinds.RightParen p))

abbrev pub IsHead : Expr → Head → Type 0
IsHead t (p, inl q) = ⊥
IsHead t (p, inr e) = erased_expr e ≡ t

pub s_group : (x : Printed) (t : Expr) → Prints expr x (IsExpr t) → Prints primary (in_parens x) (IsHead t)
unfolding primary
s_group x t p = s_next (s_next (s_next (s_next (s_next (s_first (s_made _ (λ y q. q) (s_deep parens (s_parens x t p))))))))

grouped_is : (t : Expr) (x : Head × List (Selection Expr)) → IsHead t x.0 × (map (λ (v : Selection Expr). v) x.1 ≡ []) → Is t (selected_of x)
grouped_is t ((p, inl q), ss) r = absurd r.0
grouped_is t ((p, inr e), []) r = r.0
grouped_is t ((p, inr e), s ∷ ss) r = absurd cc

s_grouped : (x : Printed) (t : Expr) → Prints expr x (IsExpr t) → Prints unary (in_parens x) (Is t)
unfolding unary
s_grouped x t p = s_next (same (unit (in_parens x)) (s_made selected_of (grouped_is t) (s_both (s_group x t p) no_more)))

-- where the grammar asks for an expression of at most this height
pub s_at : (k : ℕ) (x : Leveled) (t : Expr) → Good x t → Prints (place_for k) (at k x) (Is t)
s_at k x t g = tested (nat_le x.height k) refl
  where
    tested : (b : Bool) → nat_le x.height k ≡ b → Prints (place_for k) (if b then x.bare else in_parens x.bare) (Is t)
    tested true e = let l : x.height ≤ k = leb-true x.height k e in lift (k - x.height) x.height k x.bare t (omega arith) g
    tested false e = lift k 0 k (in_parens x.bare) t (omega arith) (s_grouped x.bare t (s_whole x t g))
