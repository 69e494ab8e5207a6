-- Commands, declarations and modules mention only what their words mention.
use Rattle.std.proofs.Common.{ℕ, Bool, List, [], ◌∷◌, Option, Some, None, refl, ◌⊎◌, inl, inr}
use Rattle.uc_forms.specs.Form.{quiet, deep}
use Rattle.uc_forms.specs.Spelling.{Language}
use Rattle.uc_lexer.specs.declared.place.Place.{Place}
use Rattle.uc_syntax.specs.declared.place.Identifier.{Identifier}
use Rattle.uc_syntax.specs.declared.type_expression.Parameter.{Parameter}
use Rattle.uc_syntax.specs.declared.type_expression.TypeExpr.{TypeExpr}
use Rattle.uc_syntax.specs.declared.expression.BitFunction.TheVariants.{ZeroExtend}
use Rattle.uc_syntax.specs.declared.expression.Expr.{Expr}
use Rattle.uc_syntax.specs.declared.declaration.WrittenRun.{WrittenRun}
use Rattle.uc_syntax.specs.declared.declaration.Command.{Command}
use Rattle.uc_syntax.specs.Mentions.{Mention, module_mentions}
use Rattle.uc_grammar.specs.declared.word.Word.{Word}
use Rattle.uc_grammar.specs.declared.word.Kind.{Kind}
use Rattle.uc_grammar.specs.declared.word.Kind.TheVariants.{Name, OnBits, Range, Unroll, Induction, Verify, Check, PrintResults, PrintCex, KwHyperaxiom}
use Rattle.uc_grammar.specs.Syntax.{words, Nested, Value, F, in_name, in_number, maybe_number, paths, control_braces, params, results, binds, hyper_number, module_braces, run, counterexample, Ending, command_of, led, named_command, command, clause, type_of, type_declaration, results_of, procedure, hyper_of, declaration, module_form, text}
use Rattle.uc_words.proofs.Yields.{Each, no_more, OnEither, OnSome, FilePasses, NamePasses, IdPasses, Yields, a_word, and_then, one_way, makes, any_number, joined, behind, in_front, once_or_not, ◌<or>◌, a_name_of, a_named_word, an_id, a_new_id, maybe_labelled}
use Rattle.uc_words.proofs.Passing.{PlacePasses, TypePasses, ParameterPasses, ExprPasses, ClausePasses, ProcedurePasses, RunPasses, PathsPasses, CommandPasses, DeclPasses, ModulePasses, NestedPasses, no_mention, one_then, one_alone, id_then, id_alone, append, ids, maybe_id, maybe_paths, parameters, stmts, clauses, bindings, commands, decls}
use Rattle.uc_words.proofs.Types.{type_passes}
use Rattle.uc_words.proofs.Expressions.{expr_passes}
use Rattle.uc_words.proofs.Statements.{statements_passes}

module _ (test : Mention → Bool) where
  abbrev PlacedRunPasses : Place × WrittenRun → Type 0
  PlacedRunPasses r = RunPasses test r.1

  -- a command that a word itself begins
  abbrev OwnPasses : (Word → Command) → Type 0
  OwnPasses own = (w : Word) → NamePasses test w → CommandPasses test (own w)

  ended_passes : (w : Word) (e : Ending) → NamePasses test w → OnEither PlacedRunPasses (OnEither (PathsPasses test) OwnPasses) e → CommandPasses test (command_of (w, e))
  ended_passes w (inl r) n h = one_then n.0 (id_then n h)
  ended_passes w (inr (inl ps)) n h = one_then n.0 (id_then n (maybe_paths ps h))
  ended_passes w (inr (inr own)) n h = h w n

  named_passes : (w : Word) (e : (Place × WrittenRun) ⊎ Option (List (List Identifier))) → NamePasses test w → OnEither PlacedRunPasses (PathsPasses test) e → CommandPasses test (named_command (w, e))
  named_passes w (inl r) n h = one_then n.0 (id_then n h)
  named_passes w (inr ps) n h = one_then n.0 (id_then n (maybe_paths ps h))

  type_declared_passes : (w : Word) (x : (Identifier × (Word ⊎ TypeExpr)) ⊎ Identifier) → FilePasses test w → OnEither (λ y. IdPasses test y.0 × OnEither (FilePasses test) (TypePasses test) y.1) (IdPasses test) x → DeclPasses test (type_of (w, x))
  type_declared_passes w (inr i) f h = one_then f (id_alone h)
  type_declared_passes w (inl (i, inl v)) f h = one_then f (id_alone h.0)
  type_declared_passes w (inl (i, inr t)) f h = one_then f (id_then h.0 h.1)

  results_passes : (o : Option (List (Parameter TypeExpr))) → OnSome (Each (ParameterPasses test)) o → Each (ParameterPasses test) (results_of o)
  results_passes (Some ps) h = h
  results_passes None h = no_more

  hyper_passes : (k : Kind) (place : Place) (x : ℕ × (Identifier × Expr)) → PlacePasses test place → IdPasses test x.1.0 → ExprPasses test x.1.1 → DeclPasses test (hyper_of (record { kind = k; place = place }, x))
  hyper_passes KwHyperaxiom place x p i e = one_then p (id_then i e)
  hyper_passes k place x p i e = one_then p (id_then i e)

module _ (test : Mention → Bool) (L : Language words Nested Value) (nested : (n : Nested) → Yields test L (deep n) (NestedPasses test n)) where
  -- Commands.

  run_passes : Yields test L run (PlacedRunPasses test)
  unfolding run
  run_passes = makes (and_then a_word (nested in_number)) (λ x h. no_mention)
      <or> makes (and_then a_word (once_or_not (nested maybe_number))) (λ x h. no_mention)
      <or> makes (and_then a_word (nested in_name)) (λ x h. id_alone h.1)

  counterexample_passes : Yields test L counterexample (PathsPasses test)
  unfolding counterexample
  counterexample_passes = behind (in_front (once_or_not (nested paths)))

  led_passes : {f : F Word} {own : F (Word → Command)} → Yields test L f (NamePasses test) → Yields test L own (OwnPasses test) → Yields test L (led f own) (CommandPasses test)
  led_passes p q = makes (and_then p (one_way (behind (in_front run_passes)) (one_way (behind counterexample_passes) q))) (λ x h. ended_passes test x.0 x.1 h.0 h.1)

  pub command_passes : Yields test L command (CommandPasses test)
  unfolding command
  command_passes = led_passes (a_name_of quiet (Unroll 0) [] refl) (makes (in_front (nested in_number)) (λ n h w k. one_alone k.0))
      <or> led_passes (a_name_of quiet (Induction 0) [] refl) (makes (in_front (once_or_not (nested maybe_number))) (λ n h w k. one_alone k.0))
      <or> led_passes (a_name_of quiet (Verify 0) [] refl) (makes (in_front (nested in_name)) (λ i h w k. one_then k.0 (id_alone h)))
      <or> led_passes (a_name_of quiet (Check 0) [] refl) (makes a_word (λ s h w k. one_alone k.0))
      <or> led_passes (a_name_of quiet (PrintResults 0) [] refl) (makes a_word (λ s h w k. one_alone k.0))
      <or> led_passes (a_name_of quiet (PrintCex 0) [] refl) (makes (in_front (once_or_not (nested paths))) (λ ps h w k. one_then k.0 (maybe_paths ps h)))
      <or> makes (and_then (a_name_of quiet (Name 0) (OnBits ZeroExtend 0 ∷ Range 0 ∷ []) refl) (one_way (behind (in_front run_passes)) (behind counterexample_passes))) (λ x h. named_passes test x.0 x.1 h.0 h.1)

  -- Declarations.

  clause_passes : Yields test L clause (ClausePasses test)
  unfolding clause
  clause_passes = makes (and_then a_word (in_front (expr_passes test L nested))) (λ x h. one_then h.0 h.1)
      <or> makes (and_then a_word (in_front (expr_passes test L nested))) (λ x h. one_then h.0 h.1)
      <or> makes (and_then a_word (in_front (joined an_id))) (λ x h. one_then h.0 (ids h.1))

  type_declaration_passes : Yields test L type_declaration (DeclPasses test)
  unfolding type_declaration
  type_declaration_passes = makes (and_then a_word (one_way (and_then a_new_id (one_way a_word (behind (in_front (type_passes test L nested))))) (behind (behind (in_front (in_front (in_front an_id)))))))
      (λ x h. type_declared_passes test x.0 x.1 h.0 h.1)

  procedure_passes : Yields test L procedure (ProcedurePasses test)
  unfolding procedure
  procedure_passes = makes (and_then a_new_id (and_then (nested params) (and_then (once_or_not (behind (nested results))) (and_then (any_number clause_passes) (statements_passes test L nested)))))
      (λ x h. id_then h.0 (append (parameters h.1.0) (append (parameters (results_passes test x.1.1.0 h.1.1.0)) (append (clauses h.1.1.1.0) (stmts h.1.1.1.1)))))

  pub declaration_passes : Yields test L declaration (DeclPasses test)
  unfolding declaration
  declaration_passes = type_declaration_passes
      <or> makes (and_then a_word (and_then (joined a_new_id) (behind (in_front (type_passes test L nested))))) (λ x h. one_then h.0 (append (ids h.1.0) h.1.1))
      <or> makes (and_then a_word (and_then a_new_id (and_then (nested params) (behind (in_front (type_passes test L nested)))))) (λ x h. one_then h.0 (id_then h.1.0 (append (parameters h.1.1.0) h.1.1.1)))
      <or> makes (and_then a_word (and_then a_new_id (and_then (nested params) (behind (and_then (type_passes test L nested) (behind (in_front (expr_passes test L nested))))))))
      (λ x h. one_then h.0 (id_then h.1.0 (append (parameters h.1.1.0) (append h.1.1.1.0 h.1.1.1.1))))
      <or> makes (and_then a_word procedure_passes) (λ x h. one_then h.0 h.1)
      <or> makes (and_then a_word (and_then a_new_id (behind (and_then an_id (in_front (nested binds)))))) (λ x h. one_then h.0 (id_then h.1.0 (id_then h.1.1.0 (bindings h.1.1.1))))
      <or> makes (and_then a_word (statements_passes test L nested)) (λ x h. one_then h.0 (stmts h.1))
      <or> makes (and_then a_word (statements_passes test L nested)) (λ x h. one_then h.0 (stmts h.1))
      <or> makes (and_then a_word (and_then a_new_id (behind (in_front (expr_passes test L nested))))) (λ x h. one_then h.0 (id_then h.1.0 h.1.1))
      <or> makes (and_then a_word (maybe_labelled (in_front (expr_passes test L nested)))) (λ x h. one_then h.0 (append (maybe_id x.1.0 h.1.0) h.1.1))
      <or> makes (and_then a_word (and_then (nested hyper_number) (and_then a_new_id (behind (in_front (expr_passes test L nested)))))) (λ x h. hyper_passes test x.0.kind x.0.place x.1 h.0 h.1.1.0 h.1.1.1)
      <or> makes (and_then a_word (nested control_braces)) (λ x h. one_then h.0 (commands h.1))

  -- Modules.

  module_passes : Yields test L module_form (ModulePasses test)
  unfolding module_form module_mentions
  module_passes = makes (and_then a_word (and_then a_named_word (nested module_braces))) (λ x h. one_then h.0 (one_then h.1.0.1 (decls h.1.1)))

  pub text_passes : Yields test L text (Each (ModulePasses test))
  unfolding text
  text_passes = any_number module_passes
