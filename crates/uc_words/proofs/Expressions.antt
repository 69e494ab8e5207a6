-- An expression mentions only what its words mention.
use Rattle.std.proofs.Common.{◌≡◌, Bool, List, [], ◌∷◌, ◌++◌, map, Option, Some, None, ◌⊎◌, inl, inr}
use Rattle.uc_forms.specs.Form.{deep}
use Rattle.uc_forms.specs.Spelling.{Language}
use Rattle.uc_lexer.specs.declared.place.Place.{Place}
use Rattle.uc_syntax.specs.declared.place.Identifier.{Identifier}
use Rattle.uc_syntax.specs.declared.expression.Primary.{Primary}
use Rattle.uc_syntax.specs.declared.expression.Primary.TheVariants.{Grouped}
use Rattle.uc_syntax.specs.declared.expression.Branch.{Branch}
use Rattle.uc_syntax.specs.declared.expression.Selection.{Selection}
use Rattle.uc_syntax.specs.declared.expression.Selection.TheVariants.{Field, Copy}
use Rattle.uc_syntax.specs.declared.expression.Expr.{Expr}
use Rattle.uc_syntax.specs.declared.expression.Expr.TheViews as exprs_
use Rattle.uc_syntax.specs.Mentions.{Mention, OfName, at_place, branches_by, chain_by, primary_by, expr_mentions}
use Rattle.uc_syntax.proofs.Mentions.{mentions_iff, mentions_implies, mentions_or, mentions_and, mentions_bit_or, mentions_bit_xor, mentions_bit_and, mentions_concat, mentions_product, mentions_sum, mentions_compare, mentions_selected}
use Rattle.uc_grammar.specs.declared.word.Word.{Word}
use Rattle.uc_grammar.specs.declared.word.Kind.{Kind}
use Rattle.uc_grammar.specs.declared.word.Kind.TheVariants.{OnBits}
use Rattle.uc_grammar.specs.Code.{name_in, value_in}
use Rattle.uc_grammar.specs.Syntax.{words, Nested, Value, F, Placed, arguments, in_name, parens, brackets, sign_operand, if_expression, Head, applied, named, primary, selection, selected_of, unary, chain_of, level, sum_sign, sum_of, comparison, compared_of, product, summed, concatenated, bit_and, bit_xor, bit_or, compared, conjunction, disjunction, implication, equivalence, expression, expr, branch}
use Rattle.uc_words.proofs.Yields.{Each, no_more, one_more, each_map, OnEither, OnSome, Passes, FilePasses, NamePasses, IdPasses, Yields, a_word, and_then, no_word, one_way, makes, any_number, in_front, once_or_not, ◌<or>◌, a_named_word, an_id}
use Rattle.uc_words.proofs.Passing.{PlacePasses, ExprPasses, PlacedPasses, SelectionPasses, NestedPasses, PassAll, no_mention, one_then, one_alone, id_alone, append, same, of_each, places, exprs, selections}

module _ (test : Mention → Bool) where
  abbrev pub HeadPasses : Head → Type 0
  HeadPasses x = PlacePasses test x.0 × OnEither (λ q. PassAll test (primary_by expr_mentions q)) (ExprPasses test) x.1

  abbrev pub BranchPasses : Branch Expr → Type 0
  BranchPasses b = PlacePasses test b.place × (ExprPasses test b.condition × ExprPasses test b.value)

  applied_passes : (k : Kind) (es : List Expr) → Passes test (OfName (name_in k)) → Each (ExprPasses test) es → PassAll test (primary_by expr_mentions (applied k es))
  applied_passes (OnBits f n) es u h = exprs h
  applied_passes k es u h = one_then u (exprs h)

  named_passes : (w : Word) (x : Word ⊎ (List Expr ⊎ Unit {0})) → NamePasses test w → OnEither (FilePasses test) (OnEither (Each (ExprPasses test)) (λ u. Unit {0})) x → HeadPasses (named (w, x))
  named_passes w (inl v) n h = (n.0, one_then n.1 no_mention)
  named_passes w (inr (inl es)) n h = (n.0, applied_passes w.kind es n.1 h)
  named_passes w (inr (inr u)) n h = (n.0, one_then n.1 no_mention)

  dot_passes : (w : Word) (x : Identifier ⊎ Word) → FilePasses test w → OnEither (IdPasses test) (FilePasses test) x → SelectionPasses test (elim x [ inl i ↦ Field w.place i | inr v ↦ Copy w.place (value_in v.kind) ])
  dot_passes w (inl i) f h = one_then f (id_alone h)
  dot_passes w (inr v) f h = one_alone f

  selected_passes : (p : Place) (q : Primary Expr ⊎ Expr) (ss : List (Selection Expr)) → HeadPasses (p, q) → Each (SelectionPasses test) ss → PlacedPasses test (selected_of ((p, q), ss))
  selected_passes p (inl q) ss h each = (h.0, same (mentions_selected p q ss) (one_then h.0 (append h.1 (selections each))))
  selected_passes p (inr e) [] h each = h
  selected_passes p (inr e) (s ∷ ss) h each = (h.0, same (mentions_selected p (Grouped e) (s ∷ ss)) (one_then h.0 (append h.1 (selections each))))

  -- what stands behind the first operand: each mark with its operand
  abbrev TurnPasses : Word × Placed → Type 0
  TurnPasses y = FilePasses test y.0 × PlacedPasses test y.1

  operands_passes : {ys : List (Word × Placed)} → Each TurnPasses ys → Each (λ y. ExprPasses test y.1.1) ys
  operands_passes no_more = no_more
  operands_passes (one_more q more) = one_more q.1.1 (operands_passes more)

  marks_passes : {ys : List (Word × Placed)} → Each TurnPasses ys → Each (λ y. FilePasses test y.0) ys
  marks_passes no_more = no_more
  marks_passes (one_more q more) = one_more q.0 (marks_passes more)

  chain_mentions_pass : (p : Placed) (ys : List (Word × Placed)) (marks : List Place) → PlacedPasses test p → Each TurnPasses ys → Each (PlacePasses test) marks → PassAll test (chain_by expr_mentions p.0 (p.1 ∷ map (λ y. y.1.1) ys) marks)
  chain_mentions_pass p ys marks h each at = one_then h.0 (append (exprs (one_more h.1 (each_map (λ y. y.1.1) (operands_passes each)))) (places at))

  chain_passes : (node : Place → List Expr → List Place → Expr) → ((place : Place) (operands : List Expr) (marks : List Place) → expr_mentions (node place operands marks) ≡ chain_by expr_mentions place operands marks)
      → (p : Placed) (ys : List (Word × Placed)) → PlacedPasses test p → Each TurnPasses ys → PlacedPasses test (chain_of node (p, ys))
  chain_passes node is p [] h each = h
  chain_passes node is p (y ∷ ys) h each = (h.0, same (is p.0 (p.1 ∷ map (λ z. z.1.1) (y ∷ ys)) (map (λ z. z.0.place) (y ∷ ys))) (chain_mentions_pass p (y ∷ ys) _ h each (each_map (λ z. z.0.place) (marks_passes each))))

  sum_passes : (p : Placed) (ys : List (Word × Placed)) → PlacedPasses test p → Each TurnPasses ys → PlacedPasses test (sum_of (p, ys))
  sum_passes p [] h each = h
  sum_passes p (y ∷ ys) h each = (h.0, same (mentions_sum p.0 (p.1 ∷ map (λ z. z.1.1) (y ∷ ys)) (map (λ z. sum_sign z.0) (y ∷ ys))) (chain_mentions_pass p (y ∷ ys) _ h each (each_map (λ s. s.place) (each_map (λ z. sum_sign z.0) (marks_passes each)))))

  comparison_passes : (p : Placed) (o : Option (Word × Placed)) → PlacedPasses test p → OnSome TurnPasses o → PlacedPasses test (compared_of (p, o))
  comparison_passes p None h k = h
  comparison_passes p (Some y) h k = (h.0, same (mentions_compare p.0 (comparison y.0.kind) y.0.place p.1 y.1.1) (one_then h.0 (one_then k.0 (append h.1 k.1.1))))

  pub branches_passes : {bs : List (Branch Expr)} → Each BranchPasses bs → PassAll test (branches_by expr_mentions bs)
  branches_passes each = of_each (λ (b : Branch Expr). at_place b.place ++ (expr_mentions b.condition ++ expr_mentions b.value)) (λ b h. one_then h.0 (append h.1.0 h.1.1)) each

  level_passes : {L : Language words Nested Value} (node : Place → List Expr → List Place → Expr) → ((place : Place) (operands : List Expr) (marks : List Place) → expr_mentions (node place operands marks) ≡ chain_by expr_mentions place operands marks)
      → {sign : Kind} {f : F Placed} → Yields test L f (PlacedPasses test) → Yields test L (level node sign f) (PlacedPasses test)
  level_passes node is p = makes (and_then p (any_number (and_then a_word p))) (λ x h. chain_passes node is x.0 x.1 h.0 h.1)

module _ (test : Mention → Bool) (L : Language words Nested Value) (nested : (n : Nested) → Yields test L (deep n) (NestedPasses test n)) where
  pub primary_passes : Yields test L primary (HeadPasses test)
  unfolding primary
  primary_passes = makes a_word (λ w h. (h, no_mention))
      <or> makes a_word (λ w h. (h, no_mention))
      <or> makes a_word (λ w h. (h, no_mention))
      <or> makes a_word (λ w h. (h, no_mention))
      <or> makes (and_then a_word (nested in_name)) (λ x h. (h.0, id_alone h.1))
      <or> makes (nested parens) (λ p h. h)
      <or> makes (and_then a_named_word (one_way a_word (one_way (nested arguments) no_word))) (λ x h. named_passes test x.0 x.1 h.0 h.1)

  pub selection_passes : Yields test L selection (SelectionPasses test)
  unfolding selection
  selection_passes = makes (and_then a_word (one_way an_id a_word)) (λ x h. dot_passes test x.0 x.1 h.0 h.1) <or> nested brackets

  pub unary_passes : Yields test L unary (PlacedPasses test)
  unfolding unary
  unary_passes = nested sign_operand <or> makes (and_then primary_passes (any_number selection_passes)) (λ x h. selected_passes test x.0.0 x.0.1 x.1 h.0 h.1)

  product_passes : Yields test L product (PlacedPasses test)
  unfolding product
  product_passes = level_passes test exprs_.Product mentions_product unary_passes

  summed_passes : Yields test L summed (PlacedPasses test)
  unfolding summed
  summed_passes = makes (and_then product_passes (any_number (and_then a_word product_passes))) (λ x h. sum_passes test x.0 x.1 h.0 h.1)

  concatenated_passes : Yields test L concatenated (PlacedPasses test)
  unfolding concatenated
  concatenated_passes = level_passes test exprs_.Concat mentions_concat summed_passes

  bit_and_passes : Yields test L bit_and (PlacedPasses test)
  unfolding bit_and
  bit_and_passes = level_passes test exprs_.BitAnd mentions_bit_and concatenated_passes

  bit_xor_passes : Yields test L bit_xor (PlacedPasses test)
  unfolding bit_xor
  bit_xor_passes = level_passes test exprs_.BitXor mentions_bit_xor bit_and_passes

  bit_or_passes : Yields test L bit_or (PlacedPasses test)
  unfolding bit_or
  bit_or_passes = level_passes test exprs_.BitOr mentions_bit_or bit_xor_passes

  pub compared_passes : Yields test L compared (PlacedPasses test)
  unfolding compared
  compared_passes = makes (and_then bit_or_passes (once_or_not (and_then a_word bit_or_passes))) (λ x h. comparison_passes test x.0 x.1 h.0 h.1)

  conjunction_passes : Yields test L conjunction (PlacedPasses test)
  unfolding conjunction
  conjunction_passes = level_passes test exprs_.And mentions_and compared_passes

  disjunction_passes : Yields test L disjunction (PlacedPasses test)
  unfolding disjunction
  disjunction_passes = level_passes test exprs_.Or mentions_or conjunction_passes

  implication_passes : Yields test L implication (PlacedPasses test)
  unfolding implication
  implication_passes = level_passes test exprs_.Implies mentions_implies disjunction_passes

  pub equivalence_passes : Yields test L equivalence (PlacedPasses test)
  unfolding equivalence
  equivalence_passes = level_passes test exprs_.Iff mentions_iff implication_passes

  pub expression_passes : Yields test L expression (PlacedPasses test)
  unfolding expression
  expression_passes = nested if_expression <or> equivalence_passes

  pub expr_passes : Yields test L expr (ExprPasses test)
  expr_passes = makes expression_passes (λ p h. h.1)

  pub branch_passes : Yields test L branch (BranchPasses test)
  unfolding branch
  branch_passes = makes (and_then a_word (and_then (in_front expr_passes) (in_front expr_passes))) (λ x h. h)
