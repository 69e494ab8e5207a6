-- Expressions.
use Rattle.std.proofs.Common.{◌≡◌, ◌⊎◌, inl, inr, ℕ, suc, true, List, [], ◌∷◌, map, refl, ap, arith}
use Rattle.uc_forms.specs.Form.{quiet}
use Rattle.uc_grammar.specs.declared.word.Word.{Word}
use Rattle.uc_grammar.specs.declared.word.Kind.{Kind}
use Rattle.uc_grammar.specs.declared.word.Kind.TheVariants as kinds
use Rattle.uc_grammar.specs.Code.{name_in, value_in}
use Rattle.uc_grammar.specs.Syntax.{rule, Head, known, arguments, in_name, parens, brackets, sign_operand, if_expression, bind_value, applied as applied_form, named, primary, selection, selected_of, unary_operator, unary, product, summed, concatenated, bit_and, bit_xor, bit_or, compared, conjunction, disjunction, implication, equivalence, expression, expr, branch}
use Rattle.uc_syntax.specs.declared.place.Identifier.{Identifier}
use Rattle.uc_syntax.specs.declared.expression.Branch.{Branch}
use Rattle.uc_syntax.specs.declared.expression.Selection.{Selection}
use Rattle.uc_syntax.specs.declared.expression.Selection.TheVariants as selections
use Rattle.uc_syntax.specs.declared.expression.Primary.{Primary}
use Rattle.uc_syntax.specs.declared.expression.Primary.TheVariants as primaries
use Rattle.uc_syntax.specs.declared.expression.Expr.{Expr}
use Rattle.uc_syntax.specs.declared.expression.Expr.TheViews as exprs
use Rattle.uc_print_laws.specs.Piece.{Piece, name, applied, fixed, is_name}
use Rattle.uc_print_laws.specs.Printed.{Printed, identifier, each, in_parens}
use Rattle.uc_print_laws.specs.Expressions.{Leveled, whole, each_branch, branch_words, unary_kind, each_selection, selection_words, each_primary, primary_words, is_selected, leveled, printed_expr, enclosed}
use Rattle.uc_print_laws.proofs.Maps.{joined_over}
use Rattle.uc_print_laws.specs.Kept.{Reprints}
use Rattle.uc_print_laws.proofs.Good.{Good, Each, good_is, g_none, g_piece, g_both, g_nested, g_when, g_in_parens, g_whole, g_grouped, g_looser}
use Rattle.uc_print_laws.proofs.Coded.{a_number, is_a_name}
use Rattle.uc_print_laws.proofs.ShapedSteps.{Deeper, Keeps, k_any, k_word, k_number, k_literal, k_nothing, k_both, k_either, k_made, k_or, k_after, k_before, k_many, k_ahead, k_weak}
use Rattle.uc_print_laws.proofs.Nest.{At, Nest, Deep}
use Rattle.uc_print_laws.proofs.ShapedTypes.{k_id, k_enclosed, k_in_parens}
use Rattle.uc_print_laws.proofs.Levels.{leveled_iff, leveled_implies, leveled_or, leveled_and, leveled_bit_or, leveled_bit_xor, leveled_bit_and, leveled_concat, leveled_product, leveled_unary, leveled_if, leveled_selected, at_is, k_level, k_sum, k_compared, unary_word}

abbrev primary_of : Primary Expr → Printed
primary_of q = primary_words (each_primary leveled q)

abbrev selection_of : Selection Expr → Printed
selection_of s = selection_words (each_selection leveled s)

-- the arguments of an application
arguments_of : (es : List Expr) → enclosed whole (map leveled es) ≡ enclosed printed_expr es
arguments_of es = ap in_parens (joined_over kinds.Comma leveled whole es)

module _ (P : Piece → Type 0) (m : ℕ) (L : Deeper) where
  -- ---- primaries

  -- what stands before selections: a primary, or an expression in parentheses
  abbrev HeadGood : Head → Type 0
  HeadGood (p, inl q) = Good P m (primary_of q) × ((ss : List (Selection Leveled)) → is_selected (each_primary leveled q) ss ≡ true)
  HeadGood (p, inr e) = Good P m (in_parens (printed_expr e))

  abbrev Reprinted : Word → Type 0
  Reprinted w = ((p : Piece) → Reprints p w.kind → P p) × (is_name w.kind ≡ true)

  applied_good : (k : Kind) (es : List Expr) → ((p : Piece) → Reprints p k → P p) → is_name k ≡ true → Good P m (enclosed printed_expr es) → Good P m (primary_of (applied_form k es)) × ((ss : List (Selection Leveled)) → is_selected (each_primary leveled (applied_form k es)) ss ≡ true)
  applied_good (kinds.OnBits f n) es a i g = (g_both (g_piece (a (fixed (kinds.OnBits f 0)) (refl, (n, refl)))) (good_is (arguments_of es) g), λ ss. refl)
  applied_good k es a i g = (g_both (g_piece (a (applied (name_in k)) (i, refl, refl))) (good_is (arguments_of es) g), λ ss. refl)

  abbrev NamedGood : Word ⊎ (List Expr ⊎ Unit {0}) → Type 0
  NamedGood (inl w) = P (fixed kinds.Prime)
  NamedGood (inr (inl es)) = Good P m (enclosed printed_expr es)
  NamedGood (inr (inr u)) = Unit {0}

  named_good : (x : Word × (Word ⊎ (List Expr ⊎ Unit {0}))) → Reprinted x.0 × NamedGood x.1 → HeadGood (named x)
  named_good (w, inl v) h = (g_both (g_piece (h.0.0 (name (name_in w.kind)) (h.0.1, refl))) (g_piece h.1), λ ss. refl)
  named_good (w, inr (inl es)) h = applied_good w.kind es h.0.0 h.0.1 h.1
  named_good (w, inr (inr u)) h = (g_both (g_piece (h.0.0 (name (name_in w.kind)) (h.0.1, refl))) g_none, λ ss. refl)

  k_primary : Deep P m L → Keeps P L primary HeadGood
  unfolding primary
  k_primary d =
      k_or (k_made _ (λ w h. (g_piece h, λ ss. refl)) (k_word kinds.KwTrue (refl, refl, refl)))
      (k_or (k_made _ (λ w h. (g_piece h, λ ss. refl)) (k_word kinds.KwFalse (refl, refl, refl)))
      (k_or (k_made _ (λ w h. (g_piece h, λ ss. refl)) k_number)
      (k_or (k_made _ (λ w h. (g_piece h, λ ss. refl)) k_literal)
      (k_or (k_made _ (λ x h. (g_both (g_piece h.0) h.1, λ ss. refl)) (k_both (k_word kinds.KwOld (refl, refl, refl)) (d in_name)))
      (k_or (k_made _ (λ p h. h) (d parens))
      (k_made named named_good (k_both (k_weak (λ w h. (h.0, is_a_name w.kind h.1)) (k_any quiet (kinds.Name 0) known)) (k_either {R = NamedGood} (k_word kinds.Prime (refl, refl, refl)) (k_either {R = λ x. NamedGood (inr x)} (d arguments) (k_nothing tt))))))))))

  -- ---- selections

  abbrev FieldGood : Identifier ⊎ Word → Type 0
  FieldGood (inl i) = Good P m (identifier i)
  FieldGood (inr w) = P (fixed (kinds.Number (value_in w.kind)))

  field_good : (x : Word × (Identifier ⊎ Word)) → P (fixed kinds.Dot) × FieldGood x.1 → Good P m (selection_of (elim x.1 [ inl i ↦ selections.Field x.0.place i | inr w ↦ selections.Copy x.0.place (value_in w.kind) ]))
  field_good (w, inl i) h = g_both (g_piece h.0) h.1
  field_good (w, inr v) h = g_both (g_piece h.0) (g_piece h.1)

  k_selection : Deep P m L → Keeps P L selection (λ s. Good P m (selection_of s))
  unfolding selection
  k_selection d = k_or (k_made _ field_good (k_both (k_word kinds.Dot (refl, refl, refl)) (k_either {R = FieldGood} (k_id P m L) k_number))) (k_weak (λ s h. h) (d brackets))

  selections_good : (ss : List (Selection Expr)) → Each (λ s. Good P m (selection_of s)) ss → Good P m (each selection_words (map (each_selection leveled) ss))
  unfolding each
  selections_good [] a = g_none
  selections_good (s ∷ ss) a = g_both a.0 (selections_good ss a.1)

  selected_good : (x : Head × List (Selection Expr)) → HeadGood x.0 × Each (λ s. Good P m (selection_of s)) x.1 → At P m 0 (selected_of x).1
  selected_good ((p, inl q), ss) h = at_is 0 (exprs.Selected p q ss) _ (leveled_selected p q ss) (g_when (is_selected (each_primary leveled q) (map (each_selection leveled) ss)) (h.0.1 (map (each_selection leveled) ss)) (g_both h.0.0 (selections_good ss h.1)))
  selected_good ((p, inr e), []) h = g_grouped 0 (leveled e) h.0
  selected_good ((p, inr e), s ∷ ss) h = at_is 0 (exprs.Selected p (primaries.Grouped e) (s ∷ ss)) _ (leveled_selected p (primaries.Grouped e) (s ∷ ss)) (g_when true refl (g_both h.0 (selections_good (s ∷ ss) h.1)))

  -- ---- levels

  k_unary : Deep P m L → Keeps P L unary (λ p. At P m 0 p.1)
  unfolding unary
  k_unary d = k_or (k_weak (λ p h. h) (d sign_operand)) (k_made selected_of selected_good (k_both (k_primary d) (k_many (λ s. Good P m (selection_of s)) (k_selection d))))

  k_product : Deep P m L → Keeps P L product (λ p. At P m 1 p.1)
  unfolding product
  k_product d = k_level P m L 0 kinds.Star exprs.Product unary (refl, refl, refl) leveled_product (k_unary d)

  k_summed : Deep P m L → Keeps P L summed (λ p. At P m 2 p.1)
  unfolding summed
  k_summed d = k_sum P m L (k_product d)

  k_concatenated : Deep P m L → Keeps P L concatenated (λ p. At P m 3 p.1)
  unfolding concatenated
  k_concatenated d = k_level P m L 2 kinds.Concat exprs.Concat summed (refl, refl, refl) leveled_concat (k_summed d)

  k_bit_and : Deep P m L → Keeps P L bit_and (λ p. At P m 4 p.1)
  unfolding bit_and
  k_bit_and d = k_level P m L 3 kinds.Ampersand exprs.BitAnd concatenated (refl, refl, refl) leveled_bit_and (k_concatenated d)

  k_bit_xor : Deep P m L → Keeps P L bit_xor (λ p. At P m 5 p.1)
  unfolding bit_xor
  k_bit_xor d = k_level P m L 4 kinds.Caret exprs.BitXor bit_and (refl, refl, refl) leveled_bit_xor (k_bit_and d)

  k_bit_or : Deep P m L → Keeps P L bit_or (λ p. At P m 6 p.1)
  unfolding bit_or
  k_bit_or d = k_level P m L 5 kinds.Bar exprs.BitOr bit_xor (refl, refl, refl) leveled_bit_or (k_bit_xor d)

  k_comparison : Deep P m L → Keeps P L compared (λ p. At P m 7 p.1)
  unfolding compared
  k_comparison d = k_compared P m L (k_bit_or d)

  k_conjunction : Deep P m L → Keeps P L conjunction (λ p. At P m 8 p.1)
  unfolding conjunction
  k_conjunction d = k_level P m L 7 kinds.And exprs.And compared (refl, refl, refl) leveled_and (k_comparison d)

  k_disjunction : Deep P m L → Keeps P L disjunction (λ p. At P m 9 p.1)
  unfolding disjunction
  k_disjunction d = k_level P m L 8 kinds.Or exprs.Or conjunction (refl, refl, refl) leveled_or (k_conjunction d)

  k_implication : Deep P m L → Keeps P L implication (λ p. At P m 10 p.1)
  unfolding implication
  k_implication d = k_level P m L 9 kinds.Implies exprs.Implies disjunction (refl, refl, refl) leveled_implies (k_disjunction d)

  k_equivalence : Deep P m L → Keeps P L equivalence (λ p. At P m 11 p.1)
  unfolding equivalence
  k_equivalence d = k_level P m L 10 kinds.Iff exprs.Iff implication (refl, refl, refl) leveled_iff (k_implication d)

  k_expression : Deep P m L → Keeps P L expression (λ p. At P m 12 p.1)
  unfolding expression
  k_expression d = k_or (k_weak (λ p h. h) (d if_expression)) (k_weak (λ p h. g_looser 11 12 (leveled p.1) (omega arith) h) (k_equivalence d))

  pub k_expr : Deep P m L → Keeps P L expr (λ e. Good P m (printed_expr e))
  k_expr d = k_made _ (λ p h. g_whole 12 (leveled p.1) h) (k_expression d)

  -- ---- nested forms

  abbrev branch_of : Branch Expr → Printed
  branch_of b = branch_words (each_branch leveled b)

  k_branch : Deep P m L → Keeps P L branch (λ b. Good P m (branch_of b))
  unfolding branch
  k_branch d = k_made _ (λ x h. g_both (g_piece h.0) (g_both (g_both h.1.0.0 (g_piece h.1.0.1)) (g_both h.1.1.0 (g_piece h.1.1.1))))
      (k_both (k_word kinds.KwIf (refl, refl, refl)) (k_both (k_before kinds.KwThen (refl, refl, refl) (k_expr d)) (k_before kinds.KwElse (refl, refl, refl) (k_expr d))))

  branches_good : (bs : List (Branch Expr)) → Each (λ b. Good P m (branch_of b)) bs → Good P m (each branch_words (map (each_branch leveled) bs))
  unfolding each
  branches_good [] a = g_none
  branches_good (b ∷ bs) a = g_both a.0 (branches_good bs a.1)

  pub r_if_expression : Deep P m L → Keeps P L (rule if_expression) (Nest P (suc m) if_expression)
  r_if_expression d =
      k_made _ (λ x h. at_is 12 (exprs.If x.0.place (x.0 ∷ x.1.0) x.1.1.1) _ (leveled_if x.0.place (x.0 ∷ x.1.0) x.1.1.1) (g_when true refl (g_nested (g_both (branches_good (x.0 ∷ x.1.0) (h.0, h.1.0)) h.1.1))))
      (k_both (k_branch d) (k_both (k_many (λ b. Good P m (branch_of b)) (k_branch d)) (k_equivalence d)))

  pub r_sign_operand : Deep P m L → Keeps P L (rule sign_operand) (Nest P (suc m) sign_operand)
  r_sign_operand d =
      k_made _ (λ x h. at_is 0 (exprs.Unary x.0.place (unary_operator x.0.kind) x.1.1) _ (leveled_unary x.0.place (unary_operator x.0.kind) x.1.1) (g_nested (g_both (g_piece h.0) h.1)))
      (k_both (k_weak (λ w q. q.0 (fixed (unary_kind (unary_operator w.kind))) (unary_word w.kind q.1)) (k_any quiet kinds.Not (kinds.Minus ∷ kinds.Tilde ∷ []))) (k_unary d))

  pub r_parens : Deep P m L → Keeps P L (rule parens) (Nest P (suc m) parens)
  r_parens d = k_made _ (λ x h. g_in_parens h.0 h.1.1 h.1.0) (k_both (k_word kinds.LeftParen (refl, refl, refl)) (k_before kinds.RightParen (refl, refl, refl) (k_expr d)))

  pub r_arguments : Deep P m L → Keeps P L (rule arguments) (Nest P (suc m) arguments)
  r_arguments d = k_enclosed P m L printed_expr (k_expr d)

  pub r_in_name : Keeps P L (rule in_name) (Nest P (suc m) in_name)
  r_in_name = k_in_parens P m L identifier (k_id P m L)

  pub r_bind_value : Deep P m L → Keeps P L (rule bind_value) (Nest P (suc m) bind_value)
  r_bind_value d = k_in_parens P m L printed_expr (k_expr d)

  -- what stands in brackets
  abbrev EndGood : Word ⊎ Expr → Type 0
  EndGood (inl w) = P (fixed kinds.RightBracket)
  EndGood (inr e) = P (fixed kinds.Arrow) × (Good P m (printed_expr e) × P (fixed kinds.RightBracket))

  abbrev InBracketsGood : (Word × Word) ⊎ (Expr × (Word ⊎ Expr)) → Type 0
  InBracketsGood (inl y) = P (fixed (kinds.Number (value_in y.0.kind))) × (P (fixed kinds.Colon) × (P (fixed (kinds.Number (value_in y.1.kind))) × P (fixed kinds.RightBracket)))
  InBracketsGood (inr y) = Good P m (printed_expr y.0) × EndGood y.1

  abbrev selected_by : Word × ((Word × Word) ⊎ (Expr × (Word ⊎ Expr))) → Selection Expr
  selected_by x = elim x.1 [
    | inl y ↦ selections.Extract x.0.place (value_in y.0.kind) (value_in y.1.kind)
    | inr y ↦ elim y.1 [ inl w ↦ selections.Element x.0.place y.0 | inr e ↦ selections.Update x.0.place y.0 e ]
  ]

  brackets_good : (x : Word × ((Word × Word) ⊎ (Expr × (Word ⊎ Expr)))) → P (fixed kinds.LeftBracket) × InBracketsGood x.1 → Good P (suc m) (selection_of (selected_by x))
  brackets_good (w, inl y) h = g_nested (g_both (g_piece h.0) (g_both (g_piece h.1.0) (g_both (g_piece h.1.1.0) (g_both (g_piece h.1.1.1.0) (g_piece h.1.1.1.1)))))
  brackets_good (w, inr (e, inl v)) h = g_nested (g_both (g_piece h.0) (g_both h.1.0 (g_piece h.1.1)))
  brackets_good (w, inr (e, inr v)) h = g_nested (g_both (g_piece h.0) (g_both h.1.0 (g_both (g_piece h.1.1.0) (g_both h.1.1.1.0 (g_piece h.1.1.1.1)))))

  pub r_brackets : Deep P m L → Keeps P L (rule brackets) (Nest P (suc m) brackets)
  r_brackets d =
      k_made _ brackets_good (k_both (k_word kinds.LeftBracket (refl, refl, refl)) (k_ahead {R = InBracketsGood} quiet (kinds.Number 0) [] kinds.Colon (refl, refl, refl)
      (λ w v a i c q. (a (fixed (kinds.Number (value_in w.kind))) (a_number w.kind i), (c, q)))
      (k_before kinds.RightBracket (refl, refl, refl) k_number)
      (k_both (k_expr d) (k_either {R = EndGood} (k_word kinds.RightBracket (refl, refl, refl)) (k_after kinds.Arrow (refl, refl, refl) (k_before kinds.RightBracket (refl, refl, refl) (k_expr d)))))))
