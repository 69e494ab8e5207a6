-- The levels of expressions.
use Rattle.std.proofs.Common.{◌≡◌, ℕ, suc, true, List, [], ◌∷◌, Option, Some, None, map, refl, sym, ap, ◌∙◌, subst, arith}
use Rattle.uc_forms.specs.Form.{quiet, both, made, many, one_of, member, codes_of}
use Rattle.uc_lexer.specs.declared.place.Place.{Place}
use Rattle.uc_grammar.specs.declared.word.Word.{Word}
use Rattle.uc_grammar.specs.declared.word.Kind.{Kind}
use Rattle.uc_grammar.specs.declared.word.Kind.TheVariants as kinds
use Rattle.uc_grammar.specs.Code.{code_of}
use Rattle.uc_grammar.specs.Syntax.{F, words, optional, Placed, chain_of, level, sum_sign, sum_of, comparison, compared_of, unary_operator}
use Rattle.uc_syntax.specs.declared.expression.UnaryOperator.{UnaryOperator}
use Rattle.uc_syntax.specs.declared.expression.Comparison.{Comparison}
use Rattle.uc_syntax.specs.declared.expression.SumSign.{SumSign}
use Rattle.uc_syntax.specs.declared.expression.Branch.{Branch}
use Rattle.uc_syntax.specs.declared.expression.Selection.{Selection}
use Rattle.uc_syntax.specs.declared.expression.Primary.{Primary}
use Rattle.uc_syntax.specs.declared.expression.Expr.{Expr}
use Rattle.uc_syntax.specs.declared.expression.Expr.TheOpen.Expr-F.{If, Iff, Implies, Or, And, Compare, BitOr, BitXor, BitAnd, Concat, Sum, Product, Unary, Selected}
use Rattle.uc_syntax.specs.declared.expression.Expr.TheViews as exprs
use Rattle.uc_syntax.specs.declared.expression.Expr.TheViews.{roll-Expr}
use Rattle.uc_syntax.specs.declared.expression.Expr.TheFolds.{fold-roll-Expr}
use Rattle.uc_print_laws.specs.Piece.{Piece, fixed}
use Rattle.uc_print_laws.specs.Printed.{sign, ◌<+>◌, nested, when, each, behind, has_one}
use Rattle.uc_print_laws.specs.Expressions.{Leveled, at, is_marked, is_chain, chain, sum_kind, terms, sum_words, comparison_kind, each_branch, branch_words, unary_kind, each_selection, selection_words, each_primary, primary_words, is_selected, expr_form, leveled}
use Rattle.uc_print_laws.proofs.ExpressionEquations.{map_if, map_selected}
use Rattle.uc_print_laws.specs.Kept.{Reprints}
use Rattle.uc_print_laws.proofs.Good.{Good, Each, g_none, g_piece, g_both, g_when, g_at, g_looser}
use Rattle.uc_print_laws.proofs.Coded.{IsTold}
use Rattle.uc_print_laws.proofs.ShapedSteps.{Deeper, Keeps, k_any, k_word, k_both, k_made, k_many, k_optional, k_weak}
use Rattle.uc_print_laws.proofs.Nest.{At}

-- ---- equations

pub leveled_iff : (p : Place) (es : List Expr) (ms : List Place) → leveled (exprs.Iff p es ms) ≡ chain 10 kinds.Iff (map leveled es) ms
unfolding roll-Expr denote.Hole.Carrier.roll
leveled_iff p es ms = fold-roll-Expr Leveled expr_form (Iff p es ms)

pub leveled_implies : (p : Place) (es : List Expr) (ms : List Place) → leveled (exprs.Implies p es ms) ≡ chain 9 kinds.Implies (map leveled es) ms
unfolding roll-Expr denote.Hole.Carrier.roll
leveled_implies p es ms = fold-roll-Expr Leveled expr_form (Implies p es ms)

pub leveled_or : (p : Place) (es : List Expr) (ms : List Place) → leveled (exprs.Or p es ms) ≡ chain 8 kinds.Or (map leveled es) ms
unfolding roll-Expr denote.Hole.Carrier.roll
leveled_or p es ms = fold-roll-Expr Leveled expr_form (Or p es ms)

pub leveled_and : (p : Place) (es : List Expr) (ms : List Place) → leveled (exprs.And p es ms) ≡ chain 7 kinds.And (map leveled es) ms
unfolding roll-Expr denote.Hole.Carrier.roll
leveled_and p es ms = fold-roll-Expr Leveled expr_form (And p es ms)

pub leveled_bit_or : (p : Place) (es : List Expr) (ms : List Place) → leveled (exprs.BitOr p es ms) ≡ chain 5 kinds.Bar (map leveled es) ms
unfolding roll-Expr denote.Hole.Carrier.roll
leveled_bit_or p es ms = fold-roll-Expr Leveled expr_form (BitOr p es ms)

pub leveled_bit_xor : (p : Place) (es : List Expr) (ms : List Place) → leveled (exprs.BitXor p es ms) ≡ chain 4 kinds.Caret (map leveled es) ms
unfolding roll-Expr denote.Hole.Carrier.roll
leveled_bit_xor p es ms = fold-roll-Expr Leveled expr_form (BitXor p es ms)

pub leveled_bit_and : (p : Place) (es : List Expr) (ms : List Place) → leveled (exprs.BitAnd p es ms) ≡ chain 3 kinds.Ampersand (map leveled es) ms
unfolding roll-Expr denote.Hole.Carrier.roll
leveled_bit_and p es ms = fold-roll-Expr Leveled expr_form (BitAnd p es ms)

pub leveled_concat : (p : Place) (es : List Expr) (ms : List Place) → leveled (exprs.Concat p es ms) ≡ chain 2 kinds.Concat (map leveled es) ms
unfolding roll-Expr denote.Hole.Carrier.roll
leveled_concat p es ms = fold-roll-Expr Leveled expr_form (Concat p es ms)

pub leveled_product : (p : Place) (es : List Expr) (ms : List Place) → leveled (exprs.Product p es ms) ≡ chain 0 kinds.Star (map leveled es) ms
unfolding roll-Expr denote.Hole.Carrier.roll
leveled_product p es ms = fold-roll-Expr Leveled expr_form (Product p es ms)

pub leveled_sum : (p : Place) (es : List Expr) (ss : List SumSign) → leveled (exprs.Sum p es ss) ≡ record { height = 2; bare = when (is_chain (map leveled es) ss) (sum_words ss (map leveled es)) }
unfolding roll-Expr denote.Hole.Carrier.roll
leveled_sum p es ss = fold-roll-Expr Leveled expr_form (Sum p es ss)

pub leveled_compare : (p : Place) (c : Comparison) (m : Place) (a b : Expr) → leveled (exprs.Compare p c m a b) ≡ record { height = 7; bare = at 6 (leveled a) <+> (sign (comparison_kind c) <+> at 6 (leveled b)) }
unfolding roll-Expr denote.Hole.Carrier.roll
leveled_compare p c m a b = fold-roll-Expr Leveled expr_form (Compare p c m a b)

pub leveled_unary : (p : Place) (o : UnaryOperator) (e : Expr) → leveled (exprs.Unary p o e) ≡ record { height = 0; bare = nested (sign (unary_kind o) <+> at 0 (leveled e)) }
unfolding roll-Expr denote.Hole.Carrier.roll
leveled_unary p o e = fold-roll-Expr Leveled expr_form (Unary p o e)

pub leveled_if : (p : Place) (bs : List (Branch Expr)) (z : Expr) → leveled (exprs.If p bs z) ≡ record { height = 12; bare = when (has_one (map (each_branch leveled) bs)) (nested (each branch_words (map (each_branch leveled) bs) <+> at 11 (leveled z))) }
unfolding roll-Expr denote.Hole.Carrier.roll
leveled_if p bs z = fold-roll-Expr Leveled expr_form (If p bs z) ∙ ap expr_form (map_if leveled p bs z)

pub leveled_selected : (p : Place) (q : Primary Expr) (ss : List (Selection Expr)) → leveled (exprs.Selected p q ss) ≡ record { height = 0; bare = when (is_selected (each_primary leveled q) (map (each_selection leveled) ss)) (primary_words (each_primary leveled q) <+> each selection_words (map (each_selection leveled) ss)) }
unfolding roll-Expr denote.Hole.Carrier.roll
leveled_selected p q ss = fold-roll-Expr Leveled expr_form (Selected p q ss) ∙ ap expr_form (map_selected leveled p q ss)

pub at_is : {P : Piece → Type 0} {m : ℕ} (k : ℕ) (e : Expr) (x : Leveled) → leveled e ≡ x → Good P m (at k x) → At P m k e
at_is {P} {m} k e x i g = subst (λ (z : Leveled). Good P m (at k z)) (sym i) g

-- ---- chains of one level

abbrev Turn : Type 0
Turn = Word × Placed

abbrev operand : Turn → Expr
operand z = z.1.1

abbrev place_of : Turn → Place
place_of z = z.0.place

marked_signs : (ys : List Turn) (mark : Turn → SumSign) → is_marked (map leveled (map operand ys)) (map mark ys) ≡ true
marked_signs [] mark = refl
marked_signs (y ∷ ys) mark = marked_signs ys mark

marked_places : (ys : List Turn) → is_marked (map leveled (map operand ys)) (map place_of ys) ≡ true
marked_places [] = refl
marked_places (y ∷ ys) = marked_places ys

abbrev pub further_comparisons : List Kind
further_comparisons = kinds.NotEqual ∷ kinds.Less ∷ kinds.LessEqual ∷ kinds.Greater ∷ kinds.GreaterEqual ∷ kinds.LessUnsigned ∷ kinds.LessEqualUnsigned ∷ kinds.GreaterUnsigned ∷ kinds.GreaterEqualUnsigned ∷ []

-- the forms of sums and comparisons over any operands
abbrev pub made_sum : F Placed → F Placed
made_sum f = made sum_of (both f (many (both (one_of kinds.Plus (kinds.Minus ∷ [])) f)))

abbrev pub made_compared : F Placed → F Placed
made_compared f = made compared_of (both f (optional (both (one_of kinds.Equal further_comparisons) f)))

-- ---- signs

abbrev sum_codes : List ℕ
sum_codes = codes_of words kinds.Plus (kinds.Minus ∷ [])

sum_word : (w : Word) → member (code_of w.kind) sum_codes ≡ true → Reprints (fixed (sum_kind (sum_sign w))) w.kind
sum_word w h = by w.kind w.place h
  where
    by : (k : Kind) (p : Place) → member (code_of k) sum_codes ≡ true → Reprints (fixed (sum_kind (sum_sign (record { kind = k; place = p })))) k
    by kinds.Plus p h = (refl, (0, refl))
    by kinds.Minus p h = (refl, (0, refl))
    by _ p h = absurd cc

abbrev comparison_codes : List ℕ
comparison_codes = codes_of words kinds.Equal further_comparisons

compared_word : (k : Kind) → member (code_of k) comparison_codes ≡ true → Reprints (fixed (comparison_kind (comparison k))) k
compared_word kinds.Equal h = (refl, (0, refl))
compared_word kinds.NotEqual h = (refl, (0, refl))
compared_word kinds.Less h = (refl, (0, refl))
compared_word kinds.LessEqual h = (refl, (0, refl))
compared_word kinds.Greater h = (refl, (0, refl))
compared_word kinds.GreaterEqual h = (refl, (0, refl))
compared_word kinds.LessUnsigned h = (refl, (0, refl))
compared_word kinds.LessEqualUnsigned h = (refl, (0, refl))
compared_word kinds.GreaterUnsigned h = (refl, (0, refl))
compared_word kinds.GreaterEqualUnsigned h = (refl, (0, refl))
compared_word _ h = absurd cc

abbrev unary_codes : List ℕ
unary_codes = codes_of words kinds.Not (kinds.Minus ∷ kinds.Tilde ∷ [])

pub unary_word : (k : Kind) → member (code_of k) unary_codes ≡ true → Reprints (fixed (unary_kind (unary_operator k))) k
unary_word kinds.Not h = (refl, (0, refl))
unary_word kinds.Minus h = (refl, (0, refl))
unary_word kinds.Tilde h = (refl, (0, refl))
unary_word _ h = absurd cc

module _ (P : Piece → Type 0) (m : ℕ) (L : Deeper) where
  turns_good : (below : ℕ) (k : Kind) (ys : List Turn) → Each (λ y. P (fixed k) × At P m below y.1.1) ys → Good P m (behind k (at below) (map leveled (map operand ys)))
  unfolding behind
  turns_good below k [] a = g_none
  turns_good below k (y ∷ ys) a = g_both (g_piece a.0.0) (g_both a.0.1 (turns_good below k ys a.1))

  chain_good : (below : ℕ) (k : Kind) (node : Place → List Expr → List Place → Expr) → ((p : Place) (es : List Expr) (ms : List Place) → leveled (node p es ms) ≡ chain below k (map leveled es) ms)
      → (x : Placed × List Turn) → At P m below x.0.1 × Each (λ y. P (fixed k) × At P m below y.1.1) x.1 → At P m (suc below) (chain_of node x).1
  chain_good below k node e (p, []) h = g_looser below (suc below) (leveled p.1) (omega arith) h.0
  chain_good below k node e (p, y ∷ ys) h =
      let operands : List Expr = p.1 ∷ map operand (y ∷ ys) in
      at_is (suc below) (node p.0 operands (map place_of (y ∷ ys))) (chain below k (map leveled operands) (map place_of (y ∷ ys))) (e p.0 operands (map place_of (y ∷ ys)))
      (g_at (suc below) (chain below k (map leveled operands) (map place_of (y ∷ ys))) (omega arith) (g_when (is_chain (map leveled operands) (map place_of (y ∷ ys))) (marked_places (y ∷ ys)) (g_both h.0 (turns_good below k (y ∷ ys) h.1))))

  pub k_level : (below : ℕ) (k : Kind) (node : Place → List Expr → List Place → Expr) (f : F Placed) → IsTold k → ((p : Place) (es : List Expr) (ms : List Place) → leveled (node p es ms) ≡ chain below k (map leveled es) ms)
      → Keeps P L f (λ p. At P m below p.1) → Keeps P L (level node k f) (λ p. At P m (suc below) p.1)
  k_level below k node f t e h = k_made (chain_of node) (chain_good below k node e) (k_both h (k_many (λ y. P (fixed k) × At P m below y.1.1) (k_both (k_word k t) h)))

  -- ---- sums

  abbrev TermGood : Turn → Type 0
  TermGood y = P (fixed (sum_kind (sum_sign y.0))) × At P m 1 y.1.1

  abbrev sign_of : Turn → SumSign
  sign_of z = sum_sign z.0

  terms_good : (ys : List Turn) → Each TermGood ys → Good P m (terms (map sign_of ys) (map leveled (map operand ys)))
  unfolding terms
  terms_good [] a = g_none
  terms_good (y ∷ ys) a = g_both (g_piece a.0.0) (g_both a.0.1 (terms_good ys a.1))

  sum_good : (x : Placed × List Turn) → At P m 1 x.0.1 × Each TermGood x.1 → At P m 2 (sum_of x).1
  sum_good (p, []) h = g_looser 1 2 (leveled p.1) (omega arith) h.0
  sum_good (p, y ∷ ys) h =
      let operands : List Expr = p.1 ∷ map operand (y ∷ ys) in
      let signs : List SumSign = map sign_of (y ∷ ys) in
      at_is 2 (exprs.Sum p.0 operands signs) _ (leveled_sum p.0 operands signs) (g_when (is_chain (map leveled operands) signs) (marked_signs (y ∷ ys) sign_of) (g_both h.0 (terms_good (y ∷ ys) h.1)))

  pub k_sum : {f : F Placed} → Keeps P L f (λ p. At P m 1 p.1) → Keeps P L (made_sum f) (λ p. At P m 2 p.1)
  k_sum h = k_made sum_of sum_good (k_both h (k_many TermGood (k_both (k_weak (λ w q. q.0 (fixed (sum_kind (sum_sign w))) (sum_word w q.1)) (k_any quiet kinds.Plus (kinds.Minus ∷ []))) h)))

  -- ---- comparisons

  abbrev OtherGood : Option Turn → Type 0
  OtherGood None = Unit {0}
  OtherGood (Some y) = P (fixed (comparison_kind (comparison y.0.kind))) × At P m 6 y.1.1

  compared_good : (x : Placed × Option Turn) → At P m 6 x.0.1 × OtherGood x.1 → At P m 7 (compared_of x).1
  compared_good (p, None) h = g_looser 6 7 (leveled p.1) (omega arith) h.0
  compared_good (p, Some y) h = at_is 7 (exprs.Compare p.0 (comparison y.0.kind) y.0.place p.1 y.1.1) _ (leveled_compare p.0 (comparison y.0.kind) y.0.place p.1 y.1.1) (g_both h.0 (g_both (g_piece h.1.0) h.1.1))

  pub k_compared : {f : F Placed} → Keeps P L f (λ p. At P m 6 p.1) → Keeps P L (made_compared f) (λ p. At P m 7 p.1)
  k_compared h = k_made compared_of compared_good (k_both h (k_optional OtherGood tt (k_both (k_weak (λ w q. q.0 (fixed (comparison_kind (comparison w.kind))) (compared_word w.kind q.1)) (k_any quiet kinds.Equal further_comparisons)) h)))
