-- The modules of a text mention only what its words mention.
use Rattle.std.proofs.Common.{◌≡◌, ℕ, Bool, zero, suc, List, [], ◌∷◌, ◌&&◌, refl, sym, ap, ◌∙◌, ◌⊎◌, inl, inr}
use Rattle.std.specs.List.{list_all}
use Rattle.std.proofs.lemmas.List.Folds.{list_all-append}
use Rattle.uc_forms.specs.Form.{deep}
use Rattle.uc_forms.specs.Spelling.{Language, SpellAt}
use Rattle.uc_syntax.specs.declared.expression.Selection.TheVariants.{Element, Update, Extract}
use Rattle.uc_syntax.specs.declared.expression.Expr.{Expr}
use Rattle.uc_syntax.specs.Mentions.{Mention}
use Rattle.uc_syntax.proofs.Mentions.{mentions_array, mentions_if, mentions_unary}
use Rattle.uc_grammar.specs.declared.word.Word.{Word}
use Rattle.uc_grammar.specs.Code.{value_in}
use Rattle.uc_grammar.specs.Syntax.{words, Nested, Value, rule, unary_operator, enum_braces, record_braces, array, arguments, in_name, parens, brackets, sign_operand, if_expression, target_index, block, typed_name, range_bounds, negative_bound, call_targets, in_number, maybe_number, paths, control_braces, params, results, binds, bind_value, hyper_number, module_braces}
use Rattle.uc_words.specs.Mentions.{word_mentions, words_mention}
use Rattle.uc_words.specs.Law.{MentionsAreOfWords}
use Rattle.uc_words.proofs.Yields.{word_passes, one_more, OnEither, FilePasses, Yields, a_word, and_then, one_way, makes, looks_ahead, up_to, any_number, joined, behind, in_front, in_parens, an_id, a_new_id}
use Rattle.uc_words.proofs.Passing.{ExprPasses, SelectionPasses, BindingPasses, NestedPasses, one_then, one_alone, id_then, append, same, modules}
use Rattle.uc_words.proofs.Types.{type_passes, parameter_passes}
use Rattle.uc_words.proofs.Expressions.{unary_passes, equivalence_passes, expr_passes, branch_passes, branches_passes}
use Rattle.uc_words.proofs.Statements.{targets_passes, bound_passes, statement_passes}
use Rattle.uc_words.proofs.Declarations.{command_passes, declaration_passes, text_passes}

bracket_passes : (test : Mention → Bool) (w : Word) (x : (Word × Word) ⊎ (Expr × (Word ⊎ Expr))) → FilePasses test w → OnEither (λ y. FilePasses test y.0 × FilePasses test y.1) (λ y. ExprPasses test y.0 × OnEither (FilePasses test) (ExprPasses test) y.1) x → SelectionPasses test (elim x [
  | inl y ↦ Extract w.place (value_in y.0.kind) (value_in y.1.kind)
  | inr y ↦ elim y.1 [ inl v ↦ Element w.place y.0 | inr e ↦ Update w.place y.0 e ]
])
bracket_passes test w (inl y) f h = one_alone f
bracket_passes test w (inr (i, inl v)) f h = one_then f h.0
bracket_passes test w (inr (i, inr e)) f h = one_then f (append h.0 h.1)

-- ---- nested forms

module _ (test : Mention → Bool) (L : Language words Nested Value) (nested : (n : Nested) → Yields test L (deep n) (NestedPasses test n)) where
  rule_passes : (n : Nested) → Yields test L (rule n) (NestedPasses test n)
  rule_passes enum_braces = behind (in_front (joined a_new_id))
  rule_passes record_braces = behind (in_front (joined (parameter_passes test L nested)))
  rule_passes array = makes (and_then a_word (and_then (in_front (type_passes test L nested)) (type_passes test L nested))) (λ x h. same (mentions_array x.0.place x.1.0 x.1.1) (one_then h.0 (append h.1.0 h.1.1)))
  rule_passes arguments = in_parens (joined (expr_passes test L nested))
  rule_passes in_name = behind (in_front an_id)
  rule_passes parens = makes (and_then a_word (in_front (expr_passes test L nested))) (λ x h. h)
  rule_passes brackets = makes (and_then a_word (looks_ahead a_word (in_front a_word) (and_then (expr_passes test L nested) (one_way a_word (behind (in_front (expr_passes test L nested))))))) (λ x h. bracket_passes test x.0 x.1 h.0 h.1)
  rule_passes sign_operand = makes (and_then a_word (unary_passes test L nested)) (λ x h. (h.0, same (mentions_unary x.0.place (unary_operator x.0.kind) x.1.1) (one_then h.0 h.1.1)))
  rule_passes if_expression = makes (and_then (branch_passes test L nested) (and_then (any_number (branch_passes test L nested)) (equivalence_passes test L nested))) (λ x h. (h.0.0, same (mentions_if x.0.place (x.0 ∷ x.1.0) x.1.1.1) (one_then h.0.0 (append (branches_passes test (one_more {x = x.0} h.0 h.1.0)) h.1.1.1))))
  rule_passes target_index = makes (and_then a_word (in_front (expr_passes test L nested))) (λ x h. one_then h.0 h.1)
  rule_passes block = makes (and_then a_word (up_to (statement_passes test L nested) a_word)) (λ x h. (h.0, h.1.0))
  rule_passes typed_name = behind (in_front (parameter_passes test L nested))
  rule_passes range_bounds = behind (in_front (and_then (bound_passes test L nested) (behind (bound_passes test L nested))))
  rule_passes negative_bound = makes (and_then a_word a_word) (λ x h. one_alone h.0)
  rule_passes call_targets = in_parens (targets_passes test L nested)
  rule_passes in_number = makes (behind (in_front a_word)) (λ w h. tt)
  rule_passes maybe_number = behind (makes (one_way a_word (in_front a_word)) (λ x h. tt))
  rule_passes paths = in_parens (joined (joined an_id))
  rule_passes control_braces = makes (and_then a_word (up_to (command_passes test L nested) a_word)) (λ x h. h.1.0)
  rule_passes params = in_parens (joined (parameter_passes test L nested))
  rule_passes results = behind (in_front (joined (parameter_passes test L nested)))
  rule_passes binds = in_parens (joined (makes {R = BindingPasses test} (and_then an_id (behind (nested bind_value))) (λ x h. id_then h.0 h.1)))
  rule_passes bind_value = behind (in_front (expr_passes test L nested))
  rule_passes hyper_number = makes (behind (in_front a_word)) (λ w h. tt)
  rule_passes module_braces = makes (and_then a_word (up_to (declaration_passes test L nested) a_word)) (λ x h. h.1.0)

nested_passes : (test : Mention → Bool) (m : ℕ) (n : Nested) → Yields test (SpellAt rule m) (deep n) (NestedPasses test n)
unfolding SpellAt
nested_passes test zero n = record { of_words = λ ws v h s. absurd s }
nested_passes test (suc m) n = record { of_words = λ ws v h s. (rule_passes test (SpellAt rule m) (nested_passes test m) n).of_words ws v h s }

-- words one by one
each_word : (test : Mention → Bool) (ws : List Word) → list_all test (words_mention ws) ≡ list_all (word_passes test) ws
each_word test [] = refl
each_word test (w ∷ ws) = list_all-append test (word_mentions w) (words_mention ws) ∙ ap (λ b. word_passes test w && b) (each_word test ws)

pub mentions_are_of_words : MentionsAreOfWords
mentions_are_of_words m test ws ms s h =
    (modules ((text_passes test (SpellAt rule m) (nested_passes test m)).of_words ws ms (sym (each_word test ws) ∙ h) s)).all
