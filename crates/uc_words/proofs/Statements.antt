-- A statement mentions only what its words mention.
use Rattle.std.proofs.Common.{Bool, List, ◌∷◌, Option, Some, None, ◌⊎◌, inl, inr}
use Rattle.uc_forms.specs.Form.{deep}
use Rattle.uc_forms.specs.Spelling.{Language}
use Rattle.uc_syntax.specs.declared.place.Identifier.{Identifier}
use Rattle.uc_syntax.specs.declared.type_expression.Parameter.{Parameter}
use Rattle.uc_syntax.specs.declared.type_expression.TypeExpr.{TypeExpr}
use Rattle.uc_syntax.specs.declared.statement.Target.{Target}
use Rattle.uc_syntax.specs.declared.statement.Stmt.{Stmt}
use Rattle.uc_syntax.specs.Mentions.{Mention}
use Rattle.uc_syntax.proofs.Mentions.{mentions_local, mentions_skip, mentions_block, mentions_assert, mentions_assume, mentions_havoc, mentions_assign, mentions_choice, mentions_cases, mentions_for, mentions_call, mentions_next}
use Rattle.uc_grammar.specs.declared.word.Word.{Word}
use Rattle.uc_grammar.specs.Syntax.{words, Nested, Value, has, target_index, block as block_braces, typed_name, range_bounds, negative_bound, call_targets, arguments, in_name, target_part, target, targets, bound, statements, arm, if_statement, default_block, case_statement, loop_variable, for_statement, called_targets, call_statement, place_of, statement}
use Rattle.uc_words.proofs.Yields.{Each, no_more, one_more, OnEither, OnSome, FilePasses, IdPasses, Yields, a_word, and_then, one_way, makes, turns, up_to, any_number, joined, behind, in_front, once_or_not, ◌<or>◌, a_named_word, an_id, a_new_id, maybe_labelled}
use Rattle.uc_words.proofs.Passing.{PlacePasses, TypePasses, ParameterPasses, PartPasses, TargetPasses, BoundPasses, StmtPasses, ArmPasses, NestedPasses, one_then, one_alone, id_then, id_alone, append, same, ids, maybe_id, maybe_type, exprs, parts, targets as targets_pass, stmts, choice}
use Rattle.uc_words.proofs.Types.{type_passes}
use Rattle.uc_words.proofs.Expressions.{expr_passes}

module _ (test : Mention → Bool) where
  default_passes : (x : (List Stmt × Word) ⊎ Word) → OnEither (λ y. Each (StmtPasses test) y.0 × FilePasses test y.1) (FilePasses test) x → OnSome (Each (StmtPasses test)) (default_block x)
  default_passes (inl x) h = h.0
  default_passes (inr w) h = tt

  abbrev LoopPasses : Identifier × Option TypeExpr → Type 0
  LoopPasses x = IdPasses test x.0 × OnSome (TypePasses test) x.1

  loop_passes : (x : Parameter TypeExpr ⊎ Identifier) → OnEither (ParameterPasses test) (IdPasses test) x → LoopPasses (loop_variable x)
  loop_passes (inl p) h = h
  loop_passes (inr i) h = (h, tt)

  called_passes : (o : Option (List Target)) → OnSome (Each (TargetPasses test)) o → Each (TargetPasses test) (called_targets o)
  called_passes (Some ts) h = h
  called_passes None h = no_more

module _ (test : Mention → Bool) (L : Language words Nested Value) (nested : (n : Nested) → Yields test L (deep n) (NestedPasses test n)) where
  target_part_passes : Yields test L target_part (PartPasses test)
  unfolding target_part
  target_part_passes = makes (and_then a_word an_id) (λ x h. one_then h.0 (id_alone h.1)) <or> nested target_index

  target_passes : Yields test L target (TargetPasses test)
  unfolding target
  target_passes = makes (and_then a_named_word (and_then (once_or_not a_word) (any_number target_part_passes))) (λ x h. (h.0.0, one_then h.0.0 (one_then h.0.1 (parts h.1.1))))

  pub targets_passes : Yields test L targets (Each (TargetPasses test))
  targets_passes = joined target_passes

  -- and the place of the first
  placed_targets_passes : Yields test L targets (λ ts. PlacePasses test (place_of ts) × Each (TargetPasses test) ts)
  placed_targets_passes = makes (and_then target_passes (any_number (behind target_passes))) (λ x h. (h.0.0, one_more h.0 h.1))

  pub bound_passes : Yields test L bound (BoundPasses test)
  unfolding bound
  bound_passes = nested negative_bound
      <or> makes a_word (λ w h. one_alone h)
      <or> makes a_word (λ w h. one_alone h)

  pub statements_passes : Yields test L statements (Each (StmtPasses test))
  statements_passes = makes (nested block_braces) (λ b h. h.1)

  arm_passes : Yields test L arm (ArmPasses test)
  arm_passes = makes (and_then (expr_passes test L nested) statements_passes) (λ x h. h)

  if_passes : Yields test L if_statement (StmtPasses test)
  unfolding if_statement
  if_passes = makes (and_then a_word (and_then arm_passes (turns (behind (one_way (behind arm_passes) statements_passes)))))
      (λ x h. same (mentions_choice x.0.place (x.1.0 ∷ x.1.1.0) x.1.1.1) (choice x.0.place (x.1.0 ∷ x.1.1.0) x.1.1.1 h.0 (one_more h.1.0 h.1.1.0) h.1.1.1))

  case_passes : Yields test L case_statement (StmtPasses test)
  unfolding case_statement
  case_passes = makes (and_then a_word (up_to (makes {R = ArmPasses test} (and_then (expr_passes test L nested) (behind statements_passes)) (λ x h. h)) (one_way (and_then (behind (behind statements_passes)) a_word) a_word)))
      (λ x h. same (mentions_cases x.0.place x.1.0 (default_block x.1.1)) (choice x.0.place x.1.0 (default_block x.1.1) h.0 h.1.0 (default_passes test x.1.1 h.1.1)))

  for_passes : Yields test L for_statement (StmtPasses test)
  unfolding for_statement
  for_passes = makes (and_then a_word (and_then (makes {R = LoopPasses test} (one_way (nested typed_name) a_new_id) (λ x h. loop_passes test x h)) (behind (behind (and_then (nested range_bounds) statements_passes)))))
      (λ x h. same (mentions_for x.0.place x.1.0.0 x.1.0.1 x.1.1.0.0 x.1.1.0.1 x.1.1.1) (one_then h.0 (id_then h.1.0.0 (append (maybe_type x.1.0.1 h.1.0.1) (append h.1.1.0.0 (append h.1.1.0.1 (stmts h.1.1.1)))))))

  call_passes : Yields test L call_statement (StmtPasses test)
  unfolding call_statement
  call_passes = makes (and_then a_word (and_then (once_or_not (in_front (nested call_targets))) (and_then an_id (in_front (nested arguments)))))
      (λ x h. same (mentions_call x.0.place (called_targets x.1.0) x.1.1.0 x.1.1.1) (one_then h.0 (append (targets_pass (called_passes test x.1.0 h.1.0)) (id_then h.1.1.0 (exprs h.1.1.1)))))

  pub statement_passes : Yields test L statement (StmtPasses test)
  unfolding statement
  statement_passes = makes (and_then a_word (and_then (joined a_new_id) (behind (in_front (type_passes test L nested))))) (λ x h. same (mentions_local x.0.place x.1.0 x.1.1) (one_then h.0 (append (ids h.1.0) h.1.1)))
      <or> makes (and_then a_word a_word) (λ x h. same (mentions_skip x.0.place) (one_alone h.0))
      <or> makes (nested block_braces) (λ b h. same (mentions_block b.0 b.1) (one_then h.0 (stmts h.1)))
      <or> makes (and_then a_word (maybe_labelled (in_front (expr_passes test L nested)))) (λ x h. same (mentions_assert x.0.place x.1.0 x.1.1) (one_then h.0 (append (maybe_id x.1.0 h.1.0) h.1.1)))
      <or> makes (and_then a_word (in_front (expr_passes test L nested))) (λ x h. same (mentions_assume x.0.place x.1) (one_then h.0 h.1))
      <or> makes (and_then a_word (and_then an_id (in_front (once_or_not a_word)))) (λ x h. same (mentions_havoc x.0.place x.1.0 (has x.1.1)) (one_then h.0 (id_alone h.1.0)))
      <or> if_passes <or> case_passes <or> for_passes <or> call_passes
      <or> makes (and_then a_word (in_front (nested in_name))) (λ x h. same (mentions_next x.0.place x.1) (one_then h.0 (id_alone h.1)))
      <or> makes (and_then placed_targets_passes (behind (in_front (joined (expr_passes test L nested))))) (λ x h. same (mentions_assign (place_of x.0) x.0 x.1) (one_then h.0.0 (append (targets_pass h.0.1) (exprs h.1))))
