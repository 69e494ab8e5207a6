-- Commands, declarations and modules.
use Rattle.std.proofs.Common.{◌≡◌, ◌⊎◌, inl, inr, ℕ, suc, true, List, [], ◌∷◌, Option, Some, None, refl}
use Rattle.uc_forms.specs.Form.{quiet, declares, restarts, both, deep, made, word, one_of, after, before, member, codes_of}
use Rattle.uc_lexer.specs.declared.place.Place.{Place}
use Rattle.uc_grammar.specs.declared.word.Word.{Word}
use Rattle.uc_grammar.specs.declared.word.Kind.{Kind}
use Rattle.uc_grammar.specs.declared.word.Kind.TheVariants as kinds
use Rattle.uc_grammar.specs.Code.{code_of, name_in, value_in}
use Rattle.uc_grammar.specs.Syntax.{F, words, rule, listed as listed_form, id, new_id, flat, optional, expr, ty, params, results, binds, bind_value, hyper_number, in_number, maybe_number, in_name, paths, control_braces, module_braces, run, counterexample, Ending, command_of, led, named_command, command, clause, variable_kind, type_of, type_declaration, results_of, procedure_of, procedure, hyper_of, declaration, module_form, text}
use Rattle.uc_syntax.specs.declared.place.Identifier.{Identifier}
use Rattle.uc_syntax.specs.declared.type_expression.Parameter.{Parameter}
use Rattle.uc_syntax.specs.declared.type_expression.TypeExpr.{TypeExpr}
use Rattle.uc_syntax.specs.declared.expression.BitFunction.TheVariants.{ZeroExtend}
use Rattle.uc_syntax.specs.declared.expression.Expr.{Expr}
use Rattle.uc_syntax.specs.declared.declaration.WrittenRun.{WrittenRun}
use Rattle.uc_syntax.specs.declared.declaration.WrittenRun.TheVariants as runs
use Rattle.uc_syntax.specs.declared.declaration.Command.{Command}
use Rattle.uc_syntax.specs.declared.declaration.Decl.TheVariants as decls
use Rattle.uc_print_laws.specs.Piece.{Piece, name, fixed, is_name}
use Rattle.uc_print_laws.specs.Printed.{sign, identifier, ◌<+>◌, nested, listed, in_parens}
use Rattle.uc_print_laws.specs.Types.{printed_type}
use Rattle.uc_print_laws.specs.Expressions.{printed_expr}
use Rattle.uc_print_laws.specs.Declarations.{run_words, path_words, paths_words, counterexample_words, command_words, parameter_words, clause_words, results_words, procedure_words, binding_words, variable_kind as kind_of_variables, decl_words, module_words, modules_words}
use Rattle.uc_print_laws.specs.Kept.{Reprints}
use Rattle.uc_print_laws.proofs.Good.{Good, g_none, g_piece, g_both, g_nested, g_when, g_each, g_behind}
use Rattle.uc_print_laws.proofs.Coded.{IsTold, told, one_code, a_name_is, named_by_code}
use Rattle.uc_print_laws.proofs.ShapedSteps.{Deeper, Keeps, Joined, k_any, k_word, k_number, k_name, k_both, k_either, k_made, k_or, k_after, k_before, k_until, k_many, k_joined, k_optional, k_weak}
use Rattle.uc_print_laws.proofs.Nest.{Nest, Deep}
use Rattle.uc_print_laws.proofs.ShapedTypes.{k_id, k_new_id, k_listed, k_enclosed, k_in_parens, k_ty, k_parameter}
use Rattle.uc_print_laws.proofs.Statements.{k_labelled, k_statements, k_condition}

abbrev variable_codes : List ℕ
variable_codes = codes_of words kinds.KwVar (kinds.KwInput ∷ kinds.KwOutput ∷ kinds.KwConst ∷ [])

variable_word : (k : Kind) → member (code_of k) variable_codes ≡ true → Reprints (fixed (kind_of_variables (variable_kind k))) k
variable_word kinds.KwVar h = (refl, (0, refl))
variable_word kinds.KwInput h = (refl, (0, refl))
variable_word kinds.KwOutput h = (refl, (0, refl))
variable_word kinds.KwConst h = (refl, (0, refl))
variable_word _ h = absurd cc

-- a name that begins a command and no command begins with
a_command_name : (k : Kind) → member (code_of k) (codes_of words (kinds.Name 0) (kinds.OnBits ZeroExtend 0 ∷ kinds.Range 0 ∷ [])) ≡ true → is_name k ≡ true
a_command_name (kinds.Name n) h = refl
a_command_name (kinds.OnBits f n) h = refl
a_command_name (kinds.Range n) h = refl
a_command_name _ h = absurd cc

module _ (P : Piece → Type 0) (m : ℕ) (L : Deeper) where
  -- ---- commands

  abbrev NumberGood : Option (Option ℕ) → Type 0
  NumberGood None = Unit {0}
  NumberGood (Some None) = Unit {0}
  NumberGood (Some (Some n)) = Good P m (in_parens (sign (kinds.Number n)))

  induction_good : (o : Option (Option ℕ)) → P (fixed (kinds.Induction 0)) → NumberGood o → Good P m (run_words (runs.Induction (flat o)))
  induction_good None i h = g_piece i
  induction_good (Some None) i h = g_piece i
  induction_good (Some (Some n)) i h = g_both (g_piece i) h

  k_maybe : Deep P m L → Keeps P L (optional (deep maybe_number)) NumberGood
  k_maybe d = k_optional NumberGood tt (k_weak maybe_good (d maybe_number))
    where
      maybe_good : (o : Option ℕ) → Nest P m maybe_number o → NumberGood (Some o)
      maybe_good None h = tt
      maybe_good (Some n) h = h

  abbrev RunGood : Place × WrittenRun → Type 0
  RunGood r = Good P m (run_words r.1)

  k_run : Deep P m L → Keeps P L run RunGood
  unfolding run
  k_run d =
      k_or (k_made _ (λ x h. g_both (g_piece h.0) h.1) (k_both (k_word (kinds.Unroll 0) (refl, refl, refl)) (d in_number)))
      (k_or (k_made _ (λ x h. induction_good x.1 h.0 h.1) (k_both (k_word (kinds.Induction 0) (refl, refl, refl)) (k_maybe d)))
      (k_made _ (λ x h. g_both (g_piece h.0) h.1) (k_both (k_word (kinds.Verify 0) (refl, refl, refl)) (d in_name))))

  abbrev PathsGood : Option (List (List Identifier)) → Type 0
  PathsGood ps = Good P m (paths_words ps)

  k_paths : Deep P m L → Keeps P L (optional (deep paths)) PathsGood
  k_paths d = k_optional PathsGood g_none (k_weak (λ ps h. h) (d paths))

  k_counterexample : Deep P m L → Keeps P L counterexample (λ ps. Good P m (counterexample_words ps))
  unfolding counterexample
  k_counterexample d = k_weak (λ ps h. g_both (g_piece h.0) (g_both h.1.0 (g_piece h.1.1))) (k_after (kinds.PrintCex 0) (refl, refl, refl) (k_before kinds.Semicolon (refl, refl, refl) (k_paths d)))

  -- what a word begins, where it is printed as this
  abbrev OwnGood : Kind → (Word → Command) → Type 0
  OwnGood j own = (w : Word) → P (fixed j) → Good P m (command_words (own w))

  abbrev NamedGood : (Place × WrittenRun) ⊎ Option (List (List Identifier)) → Type 0
  NamedGood (inl r) = P (fixed kinds.Assign) × (Good P m (run_words r.1) × P (fixed kinds.Semicolon))
  NamedGood (inr ps) = P (fixed kinds.Dot) × Good P m (counterexample_words ps)

  abbrev EndingGood : Kind → Ending → Type 0
  EndingGood j (inl r) = P (fixed kinds.Assign) × (Good P m (run_words r.1) × P (fixed kinds.Semicolon))
  EndingGood j (inr (inl ps)) = P (fixed kinds.Dot) × Good P m (counterexample_words ps)
  EndingGood j (inr (inr own)) = OwnGood j own

  abbrev LedGood : Kind → Word → Type 0
  LedGood j w = P (name (name_in w.kind)) × P (fixed j)

  led_good : (j : Kind) (x : Word × Ending) → LedGood j x.0 × EndingGood j x.1 → Good P m (command_words (command_of x))
  led_good j (w, inl r) h = g_both (g_piece h.0.0) (g_both (g_piece h.1.0) (g_both h.1.1.0 (g_piece h.1.1.1)))
  led_good j (w, inr (inl ps)) h = g_both (g_piece h.0.0) (g_both (g_piece h.1.0) h.1.1)
  led_good j (w, inr (inr own)) h = h.1 w h.0.1

  k_led : Deep P m L → (j : Kind) → IsTold j → is_name j ≡ true → (own : F (Word → Command)) → Keeps P L own (OwnGood j) → Keeps P L (led (word j) own) (λ c. Good P m (command_words c))
  k_led d j t n own k =
      k_made command_of (led_good j)
      (k_both {Q = LedGood j} (k_weak leads (k_any quiet j []))
      (k_either {R = EndingGood j} (k_after kinds.Assign (refl, refl, refl) (k_before kinds.Semicolon (refl, refl, refl) (k_run d)))
      (k_either {R = λ y. EndingGood j (inr y)} (k_after kinds.Dot (refl, refl, refl) (k_counterexample d)) k)))
    where
      leads : (w : Word) → ((p : Piece) → Reprints p w.kind → P p) × (member (code_of w.kind) (codes_of words j []) ≡ true) → LedGood j w
      leads w h =
          let c : code_of w.kind ≡ code_of j = one_code (code_of w.kind) (code_of j) h.1 in
          (h.0 (name (name_in w.kind)) (a_name_is w.kind (named_by_code j w.kind n c)), h.0 (fixed j) (told j w.kind t c))

  named_good : (x : Word × ((Place × WrittenRun) ⊎ Option (List (List Identifier)))) → P (name (name_in x.0.kind)) × NamedGood x.1 → Good P m (command_words (named_command x))
  named_good (w, inl r) h = g_both (g_piece h.0) (g_both (g_piece h.1.0) (g_both h.1.1.0 (g_piece h.1.1.1)))
  named_good (w, inr ps) h = g_both (g_piece h.0) (g_both (g_piece h.1.0) h.1.1)

  k_command : Deep P m L → Keeps P L command (λ c. Good P m (command_words c))
  unfolding command
  k_command d =
      k_or (k_led d (kinds.Unroll 0) (refl, refl, refl) refl _ (k_made _ (λ n h w j. g_both (g_both (g_piece j) h.0) (g_piece h.1)) (k_before kinds.Semicolon (refl, refl, refl) (d in_number))))
      (k_or (k_led d (kinds.Induction 0) (refl, refl, refl) refl _ (k_made _ (λ n h w j. g_both (induction_good n j h.0) (g_piece h.1)) (k_before kinds.Semicolon (refl, refl, refl) (k_maybe d))))
      (k_or (k_led d (kinds.Verify 0) (refl, refl, refl) refl _ (k_made _ (λ i h w j. g_both (g_both (g_piece j) h.0) (g_piece h.1)) (k_before kinds.Semicolon (refl, refl, refl) (d in_name))))
      (k_or (k_led d (kinds.Check 0) (refl, refl, refl) refl _ (k_made _ (λ s h w j. g_both (g_piece j) (g_piece h)) (k_word kinds.Semicolon (refl, refl, refl))))
      (k_or (k_led d (kinds.PrintResults 0) (refl, refl, refl) refl _ (k_made _ (λ s h w j. g_both (g_piece j) (g_piece h)) (k_word kinds.Semicolon (refl, refl, refl))))
      (k_or (k_led d (kinds.PrintCex 0) (refl, refl, refl) refl _ (k_made _ (λ ps h w j. g_both (g_piece j) (g_both h.0 (g_piece h.1))) (k_before kinds.Semicolon (refl, refl, refl) (k_paths d))))
      (k_made named_command named_good (k_both (k_weak (λ w h. h.0 (name (name_in w.kind)) (a_name_is w.kind (a_command_name w.kind h.1))) (k_any quiet (kinds.Name 0) (kinds.OnBits ZeroExtend 0 ∷ kinds.Range 0 ∷ [])))
      (k_either {R = NamedGood} (k_after kinds.Assign (refl, refl, refl) (k_before kinds.Semicolon (refl, refl, refl) (k_run d))) (k_after kinds.Dot (refl, refl, refl) (k_counterexample d))))))))))

  -- ---- declarations

  abbrev OwnTypeGood : Word ⊎ TypeExpr → Type 0
  OwnTypeGood (inl w) = P (fixed kinds.Semicolon)
  OwnTypeGood (inr t) = P (fixed kinds.Assign) × (Good P m (printed_type t) × P (fixed kinds.Semicolon))

  abbrev TypeGood : (Identifier × (Word ⊎ TypeExpr)) ⊎ Identifier → Type 0
  TypeGood (inl y) = Good P m (identifier y.0) × OwnTypeGood y.1
  TypeGood (inr i) = P (fixed kinds.Star) × (P (fixed kinds.Assign) × (((Good P m (identifier i) × P (fixed kinds.Dot)) × P (fixed kinds.Star)) × P (fixed kinds.Semicolon)))

  type_good : (x : Word × ((Identifier × (Word ⊎ TypeExpr)) ⊎ Identifier)) → P (fixed kinds.KwType) × TypeGood x.1 → Good P m (decl_words (type_of x))
  type_good (w, inl (i, inl v)) h = g_both (g_piece h.0) (g_both h.1.0 (g_piece h.1.1))
  type_good (w, inl (i, inr t)) h = g_both (g_piece h.0) (g_both h.1.0 (g_both (g_piece h.1.1.0) (g_both h.1.1.1.0 (g_piece h.1.1.1.1))))
  type_good (w, inr i) h = g_both (g_piece h.0) (g_both (g_piece h.1.0) (g_both (g_piece h.1.1.0) (g_both (g_both (g_both h.1.1.1.0.0.0 (g_piece h.1.1.1.0.0.1)) (g_piece h.1.1.1.0.1)) (g_piece h.1.1.1.1))))

  k_type_declaration : Deep P m L → Keeps P L type_declaration (λ e. Good P m (decl_words e))
  unfolding type_declaration
  k_type_declaration d =
      k_made type_of type_good (k_both (k_word kinds.KwType (refl, refl, refl)) (k_either {R = TypeGood}
      (k_both (k_new_id P m L) (k_either {R = OwnTypeGood} (k_word kinds.Semicolon (refl, refl, refl)) (k_after kinds.Assign (refl, refl, refl) (k_before kinds.Semicolon (refl, refl, refl) (k_ty P m L d)))))
      (k_after kinds.Star (refl, refl, refl) (k_after kinds.Assign (refl, refl, refl) (k_before kinds.Semicolon (refl, refl, refl) (k_before kinds.Star (refl, refl, refl) (k_before kinds.Dot (refl, refl, refl) (k_id P m L))))))))

  k_variables : Deep P m L → Keeps P L (made (λ x. decls.Variables x.0.place (variable_kind x.0.kind) x.1.0 x.1.1) (both (one_of kinds.KwVar (kinds.KwInput ∷ kinds.KwOutput ∷ kinds.KwConst ∷ [])) (both (listed_form new_id) (after kinds.Colon (before ty kinds.Semicolon))))) (λ e. Good P m (decl_words e))
  k_variables d =
      k_made _ (λ x h. g_both (g_piece h.0) (g_both h.1.0 (g_both (g_piece h.1.1.0) (g_both h.1.1.1.0 (g_piece h.1.1.1.1)))))
      (k_both (k_weak (λ w h. h.0 (fixed (kind_of_variables (variable_kind w.kind))) (variable_word w.kind h.1)) (k_any quiet kinds.KwVar (kinds.KwInput ∷ kinds.KwOutput ∷ kinds.KwConst ∷ [])))
      (k_both (k_listed P m L identifier (k_new_id P m L)) (k_after kinds.Colon (refl, refl, refl) (k_before kinds.Semicolon (refl, refl, refl) (k_ty P m L d)))))

  k_function : Deep P m L → Keeps P L (made (λ x. decls.Function x.0.place x.1.0 x.1.1.0 x.1.1.1) (both (word kinds.KwFunction) (both new_id (both (deep params) (after kinds.Colon (before ty kinds.Semicolon)))))) (λ e. Good P m (decl_words e))
  k_function d =
      k_made _ (λ x h. g_both (g_piece h.0) (g_both h.1.0 (g_both h.1.1.0 (g_both (g_piece h.1.1.1.0) (g_both h.1.1.1.1.0 (g_piece h.1.1.1.1.1))))))
      (k_both (k_word kinds.KwFunction (refl, refl, refl)) (k_both (k_new_id P m L) (k_both (d params) (k_after kinds.Colon (refl, refl, refl) (k_before kinds.Semicolon (refl, refl, refl) (k_ty P m L d))))))

  k_define : Deep P m L → Keeps P L (made (λ x. decls.Define x.0.place x.1.0 x.1.1.0 x.1.1.1.0 x.1.1.1.1) (both (word kinds.KwDefine) (both new_id (both (deep params) (after kinds.Colon (both ty (after kinds.Assign (before expr kinds.Semicolon)))))))) (λ e. Good P m (decl_words e))
  k_define d =
      k_made _ (λ x h. g_both (g_piece h.0) (g_both h.1.0 (g_both h.1.1.0 (g_both (g_piece h.1.1.1.0) (g_both h.1.1.1.1.0 (g_both (g_piece h.1.1.1.1.1.0) h.1.1.1.1.1.1))))))
      (k_both (k_word kinds.KwDefine (refl, refl, refl)) (k_both (k_new_id P m L) (k_both (d params) (k_after kinds.Colon (refl, refl, refl) (k_both (k_ty P m L d) (k_after kinds.Assign (refl, refl, refl) (k_condition P m L d)))))))

  -- procedures

  k_clause : Deep P m L → Keeps P L clause (λ c. Good P m (clause_words c))
  unfolding clause
  k_clause d =
      k_or (k_made _ (λ x h. g_both (g_piece h.0) h.1) (k_both (k_word kinds.KwRequires (refl, refl, refl)) (k_condition P m L d)))
      (k_or (k_made _ (λ x h. g_both (g_piece h.0) h.1) (k_both (k_word kinds.KwEnsures (refl, refl, refl)) (k_condition P m L d)))
      (k_made _ (λ x h. g_both (g_piece h.0) (g_both h.1.0 (g_piece h.1.1))) (k_both (k_word kinds.KwModifies (refl, refl, refl)) (k_before kinds.Semicolon (refl, refl, refl) (k_listed P m L identifier (k_id P m L))))))

  abbrev ResultsGood : Option (List (Parameter TypeExpr)) → Type 0
  ResultsGood o = Good P m (results_words (results_of o))

  results_good : (ps : List (Parameter TypeExpr)) → P (fixed kinds.KwReturns) × Good P m (in_parens (listed parameter_words ps)) → ResultsGood (Some ps)
  results_good [] h = g_none
  results_good (p ∷ ps) h = g_both (g_piece h.0) h.1

  k_procedure : Deep P m L → Keeps P L procedure (λ q. Good P m (procedure_words q))
  unfolding procedure
  k_procedure d =
      k_made procedure_of (λ x h. g_both h.0 (g_both h.1.0 (g_both h.1.1.0 (g_both (g_each clause_words x.1.1.1.0 h.1.1.1.0) h.1.1.1.1))))
      (k_both (k_new_id P m L) (k_both (d params) (k_both (k_optional ResultsGood g_none (k_weak results_good (k_after kinds.KwReturns (refl, refl, refl) (d results)))) (k_both (k_many (λ c. Good P m (clause_words c)) (k_clause d)) (k_statements P m L d)))))

  k_instance : Deep P m L → Keeps P L (made (λ x. decls.Instance x.0.place x.1.0 x.1.1.0 x.1.1.1) (both (word kinds.KwInstance) (both new_id (after kinds.Colon (both id (before (deep binds) kinds.Semicolon)))))) (λ e. Good P m (decl_words e))
  k_instance d =
      k_made _ (λ x h. g_both (g_piece h.0) (g_both h.1.0 (g_both (g_piece h.1.1.0) (g_both h.1.1.1.0 (g_both h.1.1.1.1.0 (g_piece h.1.1.1.1.1))))))
      (k_both (k_word kinds.KwInstance (refl, refl, refl)) (k_both (k_new_id P m L) (k_after kinds.Colon (refl, refl, refl) (k_both (k_id P m L) (k_before kinds.Semicolon (refl, refl, refl) (d binds))))))

  k_invariant : Deep P m L → Keeps P L (made (λ x. decls.Invariant x.0.place x.1.0 x.1.1) (both (word kinds.KwInvariant) (both new_id (after kinds.Colon (before expr kinds.Semicolon))))) (λ e. Good P m (decl_words e))
  k_invariant d = k_made _ (λ x h. g_both (g_piece h.0) (g_both h.1.0 (g_both (g_piece h.1.1.0) h.1.1.1))) (k_both (k_word kinds.KwInvariant (refl, refl, refl)) (k_both (k_new_id P m L) (k_after kinds.Colon (refl, refl, refl) (k_condition P m L d))))

  -- properties of several copies

  abbrev hyper_codes : List ℕ
  hyper_codes = codes_of words kinds.KwHyperinvariant (kinds.KwHyperaxiom ∷ [])

  abbrev CopiesGood : ℕ → Type 0
  CopiesGood n = Good P m (nested (sign kinds.LeftBracket <+> (sign (kinds.Number n) <+> sign kinds.RightBracket)))

  abbrev HyperGood : ℕ × (Identifier × Expr) → Type 0
  HyperGood y = CopiesGood y.0 × (Good P m (identifier y.1.0) × (P (fixed kinds.Colon) × Good P m (printed_expr y.1.1 <+> sign kinds.Semicolon)))

  hyper_good : (k : Kind) (p : Place) (y : ℕ × (Identifier × Expr)) → ((q : Piece) → Reprints q k → P q) → member (code_of k) hyper_codes ≡ true → HyperGood y → Good P m (decl_words (hyper_of (record { kind = k; place = p }, y)))
  hyper_good kinds.KwHyperinvariant p y a i h = g_both (g_piece (a (fixed kinds.KwHyperinvariant) (refl, (0, refl)))) (g_both h.0 (g_both h.1.0 (g_both (g_piece h.1.1.0) h.1.1.1)))
  hyper_good kinds.KwHyperaxiom p y a i h = g_both (g_piece (a (fixed kinds.KwHyperaxiom) (refl, (0, refl)))) (g_both h.0 (g_both h.1.0 (g_both (g_piece h.1.1.0) h.1.1.1)))
  hyper_good _ p y a i h = absurd cc

  k_hyper : Deep P m L → Keeps P L (made hyper_of (both (one_of kinds.KwHyperinvariant (kinds.KwHyperaxiom ∷ [])) (both (deep hyper_number) (both new_id (after kinds.Colon (before expr kinds.Semicolon)))))) (λ e. Good P m (decl_words e))
  k_hyper d = k_made hyper_of (λ x h. hyper_good x.0.kind x.0.place x.1 h.0.0 h.0.1 h.1) (k_both (k_any quiet kinds.KwHyperinvariant (kinds.KwHyperaxiom ∷ [])) (k_both (d hyper_number) (k_both (k_new_id P m L) (k_after kinds.Colon (refl, refl, refl) (k_condition P m L d)))))

  k_declaration : Deep P m L → Keeps P L declaration (λ e. Good P m (decl_words e))
  unfolding declaration
  k_declaration d =
      k_or (k_type_declaration d)
      (k_or (k_variables d)
      (k_or (k_function d)
      (k_or (k_define d)
      (k_or (k_made _ (λ x h. g_both (g_piece h.0) h.1) (k_both (k_word kinds.KwProcedure (refl, refl, refl)) (k_procedure d)))
      (k_or (k_instance d)
      (k_or (k_made _ (λ x h. g_both (g_piece h.0) h.1) (k_both (k_word kinds.KwInit (refl, refl, refl)) (k_statements P m L d)))
      (k_or (k_made _ (λ x h. g_both (g_piece h.0) h.1) (k_both (k_word kinds.KwNext (refl, refl, refl)) (k_statements P m L d)))
      (k_or (k_invariant d)
      (k_or (k_made _ (λ x h. g_both (g_piece h.0) h.1) (k_both (k_word kinds.KwAxiom (refl, refl, refl)) (k_labelled P m L (λ e. printed_expr e <+> sign kinds.Semicolon) declares (k_condition P m L d))))
      (k_or (k_hyper d)
      (k_made _ (λ x h. g_both (g_piece h.0) h.1) (k_both (k_word kinds.KwControl (refl, refl, refl)) (d control_braces)))))))))))))

  -- ---- modules

  k_module : Deep P m L → Keeps P L module_form (λ q. Good P m (module_words q))
  unfolding module_form
  k_module d =
      k_made _ (λ x h. g_both (g_piece h.0) (g_both (g_piece h.1.0) h.1.1))
      (k_both (k_weak (λ w h. h.0 (fixed kinds.KwModule) (told kinds.KwModule w.kind (refl, refl, refl) (one_code (code_of w.kind) (code_of kinds.KwModule) h.1))) (k_any restarts kinds.KwModule []))
      (k_both (k_name quiet) (d module_braces)))

  pub k_text : Deep P m L → Keeps P L text (λ ms. Good P m (modules_words ms))
  unfolding text
  k_text d = k_weak (λ ms h. g_each module_words ms h) (k_many (λ q. Good P m (module_words q)) (k_module d))

  -- ---- nested forms

  pub r_in_number : Keeps P L (rule in_number) (Nest P (suc m) in_number)
  r_in_number = k_made _ (λ w h. h) (k_in_parens P m L (λ w. sign (kinds.Number (value_in w.kind))) (k_weak (λ w h. g_piece h) k_number))

  pub r_maybe_number : Keeps P L (rule maybe_number) (Nest P (suc m) maybe_number)
  r_maybe_number =
      k_weak whole (k_after kinds.LeftParen (refl, refl, refl) (k_made _ inner (k_either {R = Inner} (k_word kinds.RightParen (refl, refl, refl)) (k_before kinds.RightParen (refl, refl, refl) k_number))))
    where
      Inner : Word ⊎ Word → Type 0
      Inner (inl w) = P (fixed kinds.RightParen)
      Inner (inr w) = P (fixed (kinds.Number (value_in w.kind))) × P (fixed kinds.RightParen)

      Held : Option ℕ → Type 0
      Held None = Unit {0}
      Held (Some n) = P (fixed (kinds.Number n)) × P (fixed kinds.RightParen)

      inner : (x : Word ⊎ Word) → Inner x → Held (elim x [ inl w ↦ None | inr w ↦ Some (value_in w.kind) ])
      inner (inl w) q = tt
      inner (inr w) q = q

      whole : (o : Option ℕ) → P (fixed kinds.LeftParen) × Held o → Nest P (suc m) maybe_number o
      whole None h = tt
      whole (Some n) h = g_nested (g_both (g_piece h.0) (g_both (g_piece h.1.0) (g_piece h.1.1)))

  path_good : (is : List Identifier) → Joined (P (fixed kinds.Dot)) (λ i. Good P m (identifier i)) is → Good P m (path_words is)
  path_good [] h = absurd h
  path_good (i ∷ is) h = g_when true refl (g_both h.0 (g_behind identifier kinds.Dot is h.1))

  pub r_paths : Keeps P L (rule paths) (Nest P (suc m) paths)
  r_paths = k_enclosed P m L path_words (k_weak path_good (k_joined (λ i. Good P m (identifier i)) kinds.Dot (refl, refl, refl) (k_id P m L)))

  pub r_control_braces : Deep P m L → Keeps P L (rule control_braces) (Nest P (suc m) control_braces)
  r_control_braces d =
      k_made _ (λ x h. g_nested (g_both (g_piece h.0) (g_both (g_each command_words x.1.0 h.1.0) (g_piece h.1.1))))
      (k_both (k_word kinds.LeftBrace (refl, refl, refl)) (k_until {Q = λ c. Good P m (command_words c)} (k_command d) (k_word kinds.RightBrace (refl, refl, refl))))

  pub r_params : Deep P m L → Keeps P L (rule params) (Nest P (suc m) params)
  r_params d = k_enclosed P m L parameter_words (k_parameter P m L d)

  pub r_results : Deep P m L → Keeps P L (rule results) (Nest P (suc m) results)
  r_results d = k_in_parens P m L (listed parameter_words) (k_listed P m L parameter_words (k_parameter P m L d))

  pub r_binds : Deep P m L → Keeps P L (rule binds) (Nest P (suc m) binds)
  r_binds d = k_enclosed P m L binding_words (k_made _ (λ x h. g_both h.0 (g_both (g_piece h.1.0) h.1.1)) (k_both (k_id P m L) (k_after kinds.Colon (refl, refl, refl) (d bind_value))))

  pub r_hyper_number : Keeps P L (rule hyper_number) (Nest P (suc m) hyper_number)
  r_hyper_number = k_made _ (λ w h. g_nested (g_both (g_piece h.0) (g_both (g_piece h.1.0) (g_piece h.1.1)))) (k_after kinds.LeftBracket (refl, refl, refl) (k_before kinds.RightBracket (refl, refl, refl) k_number))

  pub r_module_braces : Deep P m L → Keeps P L (rule module_braces) (Nest P (suc m) module_braces)
  r_module_braces d =
      k_made _ (λ x h. g_nested (g_both (g_piece h.0) (g_both (g_each decl_words x.1.0 h.1.0) (g_piece h.1.1))))
      (k_both (k_word kinds.LeftBrace (refl, refl, refl)) (k_until {Q = λ e. Good P m (decl_words e)} (k_declaration d) (k_word kinds.RightBrace (refl, refl, refl))))
