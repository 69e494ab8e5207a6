-- Statements.
use Rattle.std.specs.Option.{option_map}
use Rattle.std.proofs.Common.{◌≡◌, ◌⊎◌, inl, inr, ℕ, suc, Bool, true, List, [], ◌∷◌, Option, Some, None, map, refl, ap, ◌∙◌}
use Rattle.uc_forms.specs.Form.{Mark, quiet, both, either, deep, made, word, after, before}
use Rattle.uc_lexer.specs.declared.place.Place.{Place}
use Rattle.uc_grammar.specs.declared.word.Word.{Word}
use Rattle.uc_grammar.specs.declared.word.Kind.TheVariants as kinds
use Rattle.uc_grammar.specs.Code.{name_in}
use Rattle.uc_grammar.specs.Syntax.{F, rule, new_id, known, expr, ty, has, optional, listed as listed_form, arguments, in_name, target_index, block, typed_name, range_bounds, negative_bound, call_targets, label_of, labelled as labelled_form, target_of, target_part, target, targets, bound, statements, arm, if_statement, default_block, case_statement, loop_variable, for_statement, called_targets, call_statement, place_of, statement}
use Rattle.uc_syntax.specs.declared.place.Identifier.{Identifier}
use Rattle.uc_syntax.specs.declared.type_expression.Parameter.{Parameter}
use Rattle.uc_syntax.specs.declared.type_expression.TypeExpr.{TypeExpr}
use Rattle.uc_syntax.specs.declared.expression.Expr.{Expr}
use Rattle.uc_syntax.specs.declared.statement.Arm.{Arm}
use Rattle.uc_syntax.specs.declared.statement.Target.{Target}
use Rattle.uc_syntax.specs.declared.statement.TargetPart.{TargetPart}
use Rattle.uc_syntax.specs.declared.statement.RangeBound.{RangeBound}
use Rattle.uc_syntax.specs.declared.statement.Stmt.{Stmt}
use Rattle.uc_syntax.specs.declared.statement.Stmt.TheOpen.Stmt-F.{Local, Skip, Block, Assert, Assume, Havoc, Assign, If, Case, For, Call, Next}
use Rattle.uc_syntax.specs.declared.statement.Stmt.TheVariants as stmts
use Rattle.uc_syntax.specs.declared.statement.Stmt.TheViews as stmt_views
use Rattle.uc_syntax.specs.declared.statement.Stmt.TheViews.{roll-Stmt}
use Rattle.uc_syntax.specs.declared.statement.Stmt.TheFolds.{fold-roll-Stmt}
use Rattle.uc_print_laws.specs.Piece.{Piece, name, fixed}
use Rattle.uc_print_laws.specs.Printed.{Printed, sign, identifier, ◌<+>◌, when, each, listed, has_one, in_parens}
use Rattle.uc_print_laws.specs.Expressions.{printed_expr, enclosed, prime}
use Rattle.uc_print_laws.specs.Statements.{part_words, target_words, bound_words, labelled, arm_words, further_words, else_words, choice_words, case_words, default_words, variable_words, called_words, stmt_form, printed_stmt, each_arm}
use Rattle.uc_print_laws.specs.Declarations.{code_words, parameter_words}
use Rattle.uc_print_laws.proofs.StatementLaw.{map_if, map_case}
use Rattle.uc_print_laws.proofs.Good.{Good, Each, good_is, g_none, g_piece, g_both, g_nested, g_when, g_each}
use Rattle.uc_print_laws.proofs.Coded.{a_name_is, is_a_name}
use Rattle.uc_print_laws.proofs.ShapedSteps.{Deeper, Keeps, EitherHas, IfSome, k_word, k_number, k_literal, k_name, k_both, k_either, k_made, k_or, k_after, k_before, k_chain, k_until, k_many, k_optional, k_ahead, k_weak}
use Rattle.uc_print_laws.proofs.Nest.{Nest, Deep}
use Rattle.uc_print_laws.proofs.ShapedTypes.{k_id, k_new_id, k_listed, k_enclosed, k_in_parens, k_ty, k_parameter}
use Rattle.uc_print_laws.proofs.Expressions.{k_expr}

-- ---- equations

abbrev Else : Type 0
Else = Option (List Stmt)

abbrev arms_of : List (Arm Stmt) → List (Arm Printed)
arms_of arms = map (each_arm printed_stmt) arms

abbrev else_of : Else → Option (List Printed)
else_of o = option_map (map printed_stmt) o

printed_local : (p : Place) (is : List Identifier) (t : TypeExpr) → printed_stmt (stmts.Local p is t) ≡ stmt_form (Local p is t)
unfolding roll-Stmt denote.Hole.Carrier.roll
printed_local p is t = fold-roll-Stmt Printed stmt_form (Local p is t)

printed_skip : (p : Place) → printed_stmt (stmts.Skip p) ≡ stmt_form (Skip p)
unfolding roll-Stmt denote.Hole.Carrier.roll
printed_skip p = fold-roll-Stmt Printed stmt_form (Skip p)

printed_block : (p : Place) (ss : List Stmt) → printed_stmt (stmt_views.Block p ss) ≡ code_words ss
unfolding roll-Stmt denote.Hole.Carrier.roll
printed_block p ss = fold-roll-Stmt Printed stmt_form (Block p ss)

printed_assert : (p : Place) (o : Option Identifier) (e : Expr) → printed_stmt (stmts.Assert p o e) ≡ stmt_form (Assert p o e)
unfolding roll-Stmt denote.Hole.Carrier.roll
printed_assert p o e = fold-roll-Stmt Printed stmt_form (Assert p o e)

printed_assume : (p : Place) (e : Expr) → printed_stmt (stmts.Assume p e) ≡ stmt_form (Assume p e)
unfolding roll-Stmt denote.Hole.Carrier.roll
printed_assume p e = fold-roll-Stmt Printed stmt_form (Assume p e)

printed_havoc : (p : Place) (i : Identifier) (b : Bool) → printed_stmt (stmts.Havoc p i b) ≡ stmt_form (Havoc p i b)
unfolding roll-Stmt denote.Hole.Carrier.roll
printed_havoc p i b = fold-roll-Stmt Printed stmt_form (Havoc p i b)

printed_assign : (p : Place) (ts : List Target) (es : List Expr) → printed_stmt (stmts.Assign p ts es) ≡ stmt_form (Assign p ts es)
unfolding roll-Stmt denote.Hole.Carrier.roll
printed_assign p ts es = fold-roll-Stmt Printed stmt_form (Assign p ts es)

printed_if : (p : Place) (arms : List (Arm Stmt)) (o : Else) → printed_stmt (stmt_views.If p arms o) ≡ when (has_one (arms_of arms)) (choice_words (arms_of arms) (else_of o))
unfolding roll-Stmt denote.Hole.Carrier.roll
printed_if p arms o = fold-roll-Stmt Printed stmt_form (If p arms o) ∙ ap stmt_form (map_if printed_stmt p arms o)

printed_case : (p : Place) (arms : List (Arm Stmt)) (o : Else) → printed_stmt (stmt_views.Case p arms o) ≡ sign kinds.KwCase <+> (each case_words (arms_of arms) <+> default_words (else_of o))
unfolding roll-Stmt denote.Hole.Carrier.roll
printed_case p arms o = fold-roll-Stmt Printed stmt_form (Case p arms o) ∙ ap stmt_form (map_case printed_stmt p arms o)

abbrev loop_words : Identifier → Option TypeExpr → RangeBound → RangeBound → List Stmt → Printed
loop_words i t a b ss = sign kinds.KwFor <+> (variable_words i t <+> (sign kinds.KwIn <+> (sign (kinds.Range 0) <+> (in_parens (bound_words a <+> (sign kinds.Comma <+> bound_words b)) <+> code_words ss))))

printed_for : (p : Place) (i : Identifier) (t : Option TypeExpr) (a b : RangeBound) (ss : List Stmt) → printed_stmt (stmt_views.For p i t a b ss) ≡ loop_words i t a b ss
unfolding roll-Stmt denote.Hole.Carrier.roll
printed_for p i t a b ss = fold-roll-Stmt Printed stmt_form (For p i t a b ss)

printed_call : (p : Place) (ts : List Target) (i : Identifier) (es : List Expr) → printed_stmt (stmts.Call p ts i es) ≡ stmt_form (Call p ts i es)
unfolding roll-Stmt denote.Hole.Carrier.roll
printed_call p ts i es = fold-roll-Stmt Printed stmt_form (Call p ts i es)

printed_next : (p : Place) (i : Identifier) → printed_stmt (stmts.Next p i) ≡ stmt_form (Next p i)
unfolding roll-Stmt denote.Hole.Carrier.roll
printed_next p i = fold-roll-Stmt Printed stmt_form (Next p i)

module _ (P : Piece → Type 0) (m : ℕ) (L : Deeper) where
  -- ---- targets and bounds

  k_part : Deep P m L → Keeps P L target_part (λ t. Good P m (part_words t))
  unfolding target_part
  k_part d = k_or (k_made _ (λ x h. g_both (g_piece h.0) h.1) (k_both (k_word kinds.Dot (refl, refl, refl)) (k_id P m L))) (k_weak (λ t h. h) (d target_index))

  prime_good : (o : Option Word) → IfSome (λ w. P (fixed kinds.Prime)) o → Good P m (prime (has o))
  prime_good None h = g_none
  prime_good (Some w) h = g_piece h

  k_prime : Keeps P L (optional (word kinds.Prime)) (λ o. Good P m (prime (has o)))
  k_prime = k_weak prime_good (k_optional (IfSome (λ w. P (fixed kinds.Prime))) tt (k_word kinds.Prime (refl, refl, refl)))

  parts_good : (ts : List TargetPart) → Each (λ t. Good P m (part_words t)) ts → Good P m (each part_words ts)
  parts_good ts a = g_each part_words ts a

  k_target : Deep P m L → Keeps P L target (λ t. Good P m (target_words t))
  unfolding target
  k_target d = k_made target_of (λ x h. g_both (g_piece h.0) (g_both h.1.0 (parts_good x.1.1 h.1.1))) (k_both (k_name quiet) (k_both k_prime (k_many (λ t. Good P m (part_words t)) (k_part d))))

  k_targets : Deep P m L → Keeps P L targets (λ ts. Good P m (listed target_words ts))
  k_targets d = k_listed P m L target_words (k_target d)

  k_bound : Deep P m L → Keeps P L bound (λ b. Good P m (bound_words b))
  unfolding bound
  k_bound d = k_or (k_weak (λ b h. h) (d negative_bound)) (k_or (k_made _ (λ w h. g_piece h) k_number) (k_made _ (λ w h. g_piece h) k_literal))

  -- ---- labels

  pub k_labelled : {A : Type 0} {f : F A} (show : A → Printed) (q : Mark) → Keeps P L f (λ a. Good P m (show a)) → Keeps P L (labelled_form q f) (λ x. Good P m (labelled x.0 (show x.1)))
  k_labelled {A} {f} show q k = k_made label_of (λ x h. h) (k_ahead {R = λ x. Good P m (labelled (label_of x).0 (show (label_of x).1))} q (kinds.Name 0) known kinds.Colon (refl, refl, refl)
      (λ w a all i c h. g_both (g_piece (all (name (name_in w.kind)) (a_name_is w.kind (is_a_name w.kind i)))) (g_both (g_piece c) h)) k k)

  pub k_condition : Deep P m L → Keeps P L (before expr kinds.Semicolon) (λ e. Good P m (printed_expr e <+> sign kinds.Semicolon))
  k_condition d = k_weak (λ e h. g_both h.0 (g_piece h.1)) (k_before kinds.Semicolon (refl, refl, refl) (k_expr P m L d))

  -- ---- blocks

  pub k_statements : Deep P m L → Keeps P L statements (λ ss. Good P m (code_words ss))
  k_statements d = k_made _ (λ b h. h) (d block)

  k_arm : Deep P m L → Keeps P L arm (λ a. Good P m (arm_words (each_arm printed_stmt a)))
  k_arm d = k_made _ (λ x h. g_both h.0 h.1) (k_both (k_expr P m L d) (k_statements d))

  abbrev TurnGood : Arm Stmt → Type 0
  TurnGood a = Good P m (further_words (each_arm printed_stmt a))

  abbrev LastGood : List Stmt → Type 0
  LastGood ss = Good P m (else_words (Some (map printed_stmt ss)))

  abbrev BranchGood : Arm Stmt ⊎ List Stmt → Type 0
  BranchGood (inl a) = P (fixed kinds.KwIf) × Good P m (arm_words (each_arm printed_stmt a))
  BranchGood (inr ss) = Good P m (code_words ss)

  turn_good : (x : Arm Stmt ⊎ List Stmt) → P (fixed kinds.KwElse) × BranchGood x → EitherHas TurnGood LastGood x
  turn_good (inl a) h = g_both (g_piece h.0) (g_both (g_piece h.1.0) h.1.1)
  turn_good (inr ss) h = g_both (g_piece h.0) h.1

  further_good : (arms : List (Arm Stmt)) → Each TurnGood arms → Good P m (each further_words (arms_of arms))
  unfolding each
  further_good [] a = g_none
  further_good (x ∷ xs) a = g_both a.0 (further_good xs a.1)

  else_good : (o : Else) → IfSome LastGood o → Good P m (else_words (else_of o))
  else_good None h = g_none
  else_good (Some ss) h = h

  k_if : Deep P m L → Keeps P L if_statement (λ s. Good P m (printed_stmt s))
  unfolding if_statement
  k_if d =
      k_made _ (λ x h. good_is (printed_if x.0.place (x.1.0 ∷ x.1.1.0) x.1.1.1) (g_when true refl (g_both (g_piece h.0) (g_both h.1.0 (g_both (further_good x.1.1.0 h.1.1.0) (else_good x.1.1.1 h.1.1.1))))))
      (k_both (k_word kinds.KwIf (refl, refl, refl)) (k_both (k_arm d) (k_chain TurnGood LastGood (k_weak turn_good (k_after kinds.KwElse (refl, refl, refl) (k_either {R = BranchGood} (k_after kinds.KwIf (refl, refl, refl) (k_arm d)) (k_statements d)))))))

  abbrev CaseGood : Arm Stmt → Type 0
  CaseGood a = Good P m (case_words (each_arm printed_stmt a))

  cases_good : (arms : List (Arm Stmt)) → Each CaseGood arms → Good P m (each case_words (arms_of arms))
  unfolding each
  cases_good [] a = g_none
  cases_good (x ∷ xs) a = g_both a.0 (cases_good xs a.1)

  abbrev DefaultGood : (List Stmt × Word) ⊎ Word → Type 0
  DefaultGood (inl x) = (P (fixed kinds.KwDefault) × (P (fixed kinds.Colon) × Good P m (code_words x.0))) × P (fixed kinds.KwEsac)
  DefaultGood (inr w) = P (fixed kinds.KwEsac)

  default_good : (x : (List Stmt × Word) ⊎ Word) → DefaultGood x → Good P m (default_words (else_of (default_block x)))
  default_good (inl x) h = g_both (g_both (g_piece h.0.0) (g_both (g_piece h.0.1.0) h.0.1.1)) (g_piece h.1)
  default_good (inr w) h = g_piece h

  k_default : Deep P m L → Keeps P L (either (both (after kinds.KwDefault (after kinds.Colon statements)) (word kinds.KwEsac)) (word kinds.KwEsac)) DefaultGood
  k_default d = k_either {R = DefaultGood} (k_both (k_after kinds.KwDefault (refl, refl, refl) (k_after kinds.Colon (refl, refl, refl) (k_statements d))) (k_word kinds.KwEsac (refl, refl, refl))) (k_word kinds.KwEsac (refl, refl, refl))

  k_case : Deep P m L → Keeps P L case_statement (λ s. Good P m (printed_stmt s))
  unfolding case_statement
  k_case d =
      k_made _ (λ x h. good_is (printed_case x.0.place x.1.0 (default_block x.1.1)) (g_both (g_piece h.0) (g_both (cases_good x.1.0 h.1.0) (default_good x.1.1 h.1.1))))
      (k_both (k_word kinds.KwCase (refl, refl, refl)) (k_until {Q = CaseGood} {R = DefaultGood} (k_made _ (λ x h. g_both h.0 (g_both (g_piece h.1.0) h.1.1)) (k_both (k_expr P m L d) (k_after kinds.Colon (refl, refl, refl) (k_statements d)))) (k_default d)))

  -- ---- loops

  abbrev VariableGood : Parameter TypeExpr ⊎ Identifier → Type 0
  VariableGood (inl p) = Good P m (in_parens (parameter_words p))
  VariableGood (inr i) = Good P m (identifier i)

  variable_good : (x : Parameter TypeExpr ⊎ Identifier) → VariableGood x → Good P m (variable_words (loop_variable x).0 (loop_variable x).1)
  variable_good (inl p) h = h
  variable_good (inr i) h = h

  k_variable : Deep P m L → Keeps P L (made loop_variable (either (deep typed_name) new_id)) (λ x. Good P m (variable_words x.0 x.1))
  k_variable d = k_made loop_variable variable_good (k_either {R = VariableGood} (d typed_name) (k_new_id P m L))

  k_for : Deep P m L → Keeps P L for_statement (λ s. Good P m (printed_stmt s))
  unfolding for_statement
  k_for d =
      k_made _ (λ x h. good_is (printed_for x.0.place x.1.0.0 x.1.0.1 x.1.1.0.0 x.1.1.0.1 x.1.1.1) (g_both (g_piece h.0) (g_both h.1.0 (g_both (g_piece h.1.1.0) (g_both (g_piece h.1.1.1.0) (g_both h.1.1.1.1.0 h.1.1.1.1.1))))))
      (k_both (k_word kinds.KwFor (refl, refl, refl)) (k_both (k_variable d) (k_after kinds.KwIn (refl, refl, refl) (k_after (kinds.Range 0) (refl, refl, refl) (k_both (d range_bounds) (k_statements d))))))

  -- ---- calls

  abbrev CalledGood : Option (List Target) → Type 0
  CalledGood None = Unit {0}
  CalledGood (Some ts) = Good P m (enclosed target_words ts) × P (fixed kinds.Assign)

  called_good : (o : Option (List Target)) → CalledGood o → Good P m (called_words (called_targets o))
  called_good None h = g_none
  called_good (Some []) h = g_none
  called_good (Some (t ∷ ts)) h = g_both h.0 (g_piece h.1)

  k_call : Deep P m L → Keeps P L call_statement (λ s. Good P m (printed_stmt s))
  unfolding call_statement
  k_call d =
      k_made _ (λ x h. good_is (printed_call x.0.place (called_targets x.1.0) x.1.1.0 x.1.1.1) (g_both (g_piece h.0) (g_both (called_good x.1.0 h.1.0) (g_both h.1.1.0 (g_both h.1.1.1.0 (g_piece h.1.1.1.1))))))
      (k_both (k_word kinds.KwCall (refl, refl, refl)) (k_both (k_optional CalledGood tt (k_before kinds.Assign (refl, refl, refl) (d call_targets))) (k_both (k_id P m L) (k_before kinds.Semicolon (refl, refl, refl) (d arguments)))))

  -- ---- statements

  k_local : Deep P m L → Keeps P L (made (λ x. stmts.Local x.0.place x.1.0 x.1.1) (both (word kinds.KwVar) (both (listed_form new_id) (after kinds.Colon (before ty kinds.Semicolon))))) (λ s. Good P m (printed_stmt s))
  k_local d =
      k_made _ (λ x h. good_is (printed_local x.0.place x.1.0 x.1.1) (g_both (g_piece h.0) (g_both h.1.0 (g_both (g_piece h.1.1.0) (g_both h.1.1.1.0 (g_piece h.1.1.1.1))))))
      (k_both (k_word kinds.KwVar (refl, refl, refl)) (k_both (k_listed P m L identifier (k_new_id P m L)) (k_after kinds.Colon (refl, refl, refl) (k_before kinds.Semicolon (refl, refl, refl) (k_ty P m L d)))))

  k_assign : Deep P m L → Keeps P L (made (λ x. stmts.Assign (place_of x.0) x.0 x.1) (both targets (after kinds.Assign (before (listed_form expr) kinds.Semicolon)))) (λ s. Good P m (printed_stmt s))
  k_assign d =
      k_made _ (λ x h. good_is (printed_assign (place_of x.0) x.0 x.1) (g_both h.0 (g_both (g_piece h.1.0) (g_both h.1.1.0 (g_piece h.1.1.1)))))
      (k_both (k_targets d) (k_after kinds.Assign (refl, refl, refl) (k_before kinds.Semicolon (refl, refl, refl) (k_listed P m L printed_expr (k_expr P m L d)))))

  pub k_statement : Deep P m L → Keeps P L statement (λ s. Good P m (printed_stmt s))
  unfolding statement
  k_statement d =
      k_or (k_local d)
      (k_or (k_made _ (λ x h. good_is (printed_skip x.0.place) (g_both (g_piece h.0) (g_piece h.1))) (k_both (k_word kinds.KwSkip (refl, refl, refl)) (k_word kinds.Semicolon (refl, refl, refl))))
      (k_or (k_made _ (λ b h. good_is (printed_block b.0 b.1) h) (d block))
      (k_or (k_made _ (λ x h. good_is (printed_assert x.0.place x.1.0 x.1.1) (g_both (g_piece h.0) h.1)) (k_both (k_word kinds.KwAssert (refl, refl, refl)) (k_labelled (λ e. printed_expr e <+> sign kinds.Semicolon) quiet (k_condition d))))
      (k_or (k_made _ (λ x h. good_is (printed_assume x.0.place x.1) (g_both (g_piece h.0) h.1)) (k_both (k_word kinds.KwAssume (refl, refl, refl)) (k_condition d)))
      (k_or (k_made _ (λ x h. good_is (printed_havoc x.0.place x.1.0 (has x.1.1)) (g_both (g_piece h.0) (g_both h.1.0 (g_both h.1.1.0 (g_piece h.1.1.1))))) (k_both (k_word kinds.KwHavoc (refl, refl, refl)) (k_both (k_id P m L) (k_before kinds.Semicolon (refl, refl, refl) k_prime))))
      (k_or (k_if d)
      (k_or (k_case d)
      (k_or (k_for d)
      (k_or (k_call d)
      (k_or (k_made _ (λ x h. good_is (printed_next x.0.place x.1) (g_both (g_piece h.0) (g_both h.1.0 (g_piece h.1.1)))) (k_both (k_word kinds.KwNext (refl, refl, refl)) (k_before kinds.Semicolon (refl, refl, refl) (d in_name))))
      (k_assign d)))))))))))

  -- ---- their nested forms

  statements_good : (ss : List Stmt) → Each (λ s. Good P m (printed_stmt s)) ss → Good P m (each (λ x. x) (map printed_stmt ss))
  unfolding each
  statements_good [] a = g_none
  statements_good (s ∷ ss) a = g_both a.0 (statements_good ss a.1)

  pub r_block : Deep P m L → Keeps P L (rule block) (Nest P (suc m) block)
  r_block d =
      k_made _ (λ x h. g_nested (g_both (g_piece h.0) (g_both (statements_good x.1.0 h.1.0) (g_piece h.1.1))))
      (k_both (k_word kinds.LeftBrace (refl, refl, refl)) (k_until {Q = λ s. Good P m (printed_stmt s)} (k_statement d) (k_word kinds.RightBrace (refl, refl, refl))))

  pub r_target_index : Deep P m L → Keeps P L (rule target_index) (Nest P (suc m) target_index)
  r_target_index d = k_made _ (λ x h. g_nested (g_both (g_piece h.0) (g_both h.1.0 (g_piece h.1.1)))) (k_both (k_word kinds.LeftBracket (refl, refl, refl)) (k_before kinds.RightBracket (refl, refl, refl) (k_expr P m L d)))

  pub r_typed_name : Deep P m L → Keeps P L (rule typed_name) (Nest P (suc m) typed_name)
  r_typed_name d = k_in_parens P m L parameter_words (k_parameter P m L d)

  pub r_range_bounds : Deep P m L → Keeps P L (rule range_bounds) (Nest P (suc m) range_bounds)
  r_range_bounds d =
      k_in_parens P m L (λ b. bound_words b.0 <+> (sign kinds.Comma <+> bound_words b.1)) (k_weak (λ b h. g_both h.0 (g_both (g_piece h.1.0) h.1.1)) (k_both (k_bound d) (k_after kinds.Comma (refl, refl, refl) (k_bound d))))

  pub r_negative_bound : Keeps P L (rule negative_bound) (Nest P (suc m) negative_bound)
  r_negative_bound = k_made _ (λ x h. g_nested (g_both (g_piece h.0) (g_piece h.1))) (k_both (k_word kinds.Minus (refl, refl, refl)) k_number)

  pub r_call_targets : Deep P m L → Keeps P L (rule call_targets) (Nest P (suc m) call_targets)
  r_call_targets d = k_enclosed P m L target_words (k_target d)
