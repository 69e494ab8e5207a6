-- How many names the words of each form declare.
use Rattle.std.proofs.Common.{◌≡◌, ◌⊎◌, inl, inr, ℕ, ◌+◌, true, List, [], ◌∷◌, length, Option, Some, None, refl, sym, arith}
use Rattle.uc_forms.specs.Form.{Mark, quiet, declares, both, either, made, deep, word, one_of, after, before, many}
use Rattle.uc_forms.specs.Plain.{is_silent}
use Rattle.uc_grammar.specs.declared.word.Word.{Word}
use Rattle.uc_grammar.specs.declared.word.Kind.{Kind}
use Rattle.uc_grammar.specs.declared.word.Kind.TheVariants as kinds
use Rattle.uc_grammar.specs.Code.{name_in, width_in}
use Rattle.uc_grammar.specs.Syntax.{Nested, Value, F, rule, known, id, new_id, listed as listed_form, enclosed as enclosed_form, has, enum_braces, record_braces, array, block, typed_name, range_bounds, control_braces, params, results, binds, hyper_number, module_braces, named_type, ty, parameter as parameter_form, primary, selection, unary, product, summed, concatenated, bit_and, bit_xor, bit_or, compared, conjunction, disjunction, implication, equivalence, expression, expr, target_part, target, label_of, labelled as labelled_form, statements, arm, if_statement, default_block, case_statement, loop_variable, for_statement, called_targets, call_statement, place_of, statement, clause, type_of, type_declaration, results_of, procedure_of, procedure, hyper_of, declaration}
use Rattle.uc_syntax.specs.declared.place.Identifier.{Identifier}
use Rattle.uc_syntax.specs.declared.type_expression.Parameter.{Parameter}
use Rattle.uc_syntax.specs.declared.type_expression.TypeExpr.{TypeExpr}
use Rattle.uc_syntax.specs.declared.expression.Expr.{Expr}
use Rattle.uc_syntax.specs.declared.statement.Stmt.{Stmt}
use Rattle.uc_syntax.specs.declared.statement.Stmt.TheVariants as stmts
use Rattle.uc_print_laws.specs.Names.{total, in_option, type_names, parameter_names, stmt_names, code_names, procedure_names, decl_names}
use Rattle.uc_print_laws.proofs.Counts.{Deeper, Inner, Counts, in_either, c_any, c_word, c_is, c_both, c_either, c_made, c_or, c_after, c_before, c_chain, c_until, c_joined, c_optional, c_ahead}
use Rattle.uc_print_laws.proofs.Tallied.{mark_is}
use Rattle.uc_print_laws.proofs.Silent.{silent_table, silent, no_option, expr_silent, clauses_silent}
use Rattle.uc_print_laws.proofs.Equations.{total_ones, names_boolean, names_integer, names_bits, names_enumeration, names_record, names_array, names_named, names_of_module, names_local, names_skip, names_block, names_assert, names_assume, names_havoc, names_assign, names_if, names_case, names_for, names_call, names_next, arm_names}

abbrev pub nest_names : (n : Nested) → Value n → ℕ
nest_names enum_braces is = length is
nest_names record_braces fs = total parameter_names fs
nest_names array t = type_names t
nest_names block b = code_names b.1
nest_names typed_name p = parameter_names p
nest_names params ps = total parameter_names ps
nest_names results ps = total parameter_names ps
nest_names module_braces ds = total decl_names ds
nest_names other v = 0

module _ (L : Deeper) (inner : Inner L) (d : (n : Nested) → Counts L inner (deep n) (nest_names n)) where
  silent_nest : (n : Nested) → silent_table n ≡ true → Counts L inner (deep n) (λ v. 0)
  silent_nest enum_braces e = absurd cc
  silent_nest record_braces e = absurd cc
  silent_nest array e = absurd cc
  silent_nest block e = absurd cc
  silent_nest typed_name e = absurd cc
  silent_nest params e = absurd cc
  silent_nest results e = absurd cc
  silent_nest module_braces e = absurd cc
  silent_nest n e = d n

  c_quiet : {A : Type 0} (f : F A) → is_silent silent_table f ≡ true → Counts L inner f (λ a. 0)
  c_quiet f e = silent L inner silent_nest f e

  c_expr : Counts L inner expr (λ e. 0)
  c_expr = c_quiet expr expr_silent

  c_new_id : Counts L inner new_id (λ i. 1)
  c_new_id = c_made _ (λ w. refl) (c_any declares (kinds.Name 0) known 1 refl)

  c_id : Counts L inner id (λ i. 0)
  c_id = c_quiet id refl

  c_new_ids : Counts L inner (listed_form new_id) (λ is. length is)
  c_new_ids = c_is total_ones (c_joined (λ i. 1) kinds.Comma c_new_id)

  -- ---- types

  c_ty : Counts L inner ty type_names
  unfolding ty
  c_ty =
      c_or (c_made _ (λ w. sym (names_boolean w.place)) (c_word kinds.KwBoolean))
      (c_or (c_made _ (λ w. sym (names_integer w.place)) (c_word kinds.KwInteger))
      (c_or (c_made _ (λ w. sym (names_bits w.place (width_in w.kind))) (c_word (kinds.BvType 0)))
      (c_or (c_made _ (λ x. omega (arith, names_enumeration x.0.place x.1)) (c_both (c_word kinds.KwEnum) (d enum_braces)))
      (c_or (c_made _ (λ x. omega (arith, names_record x.0.place x.1)) (c_both (c_word kinds.KwRecord) (d record_braces)))
      (c_or (c_is (λ t. refl) (d array))
      (c_made named_type named (c_quiet _ refl)))))))
    where
      named : (x : Word × Option Identifier) → 0 ≡ type_names (named_type x)
      named (w, None) = sym (names_named w.place (name_in w.kind))
      named (w, Some i) = sym (names_of_module w.place (name_in w.kind) i)

  c_parameter : Counts L inner parameter_form parameter_names
  c_parameter = c_made _ (λ x. refl) (c_both c_new_id (c_after kinds.Colon c_ty))

  c_parameters : Counts L inner (listed_form parameter_form) (total parameter_names)
  c_parameters = c_joined parameter_names kinds.Comma c_parameter

  -- in parentheses, and maybe nothing between
  c_enclosed : {A : Type 0} {f : F (List A)} (c : A → ℕ) → Counts L inner f (total c) → Counts L inner (enclosed_form f) (total c)
  c_enclosed {A} c k = c_after kinds.LeftParen (c_made _ by (c_either (c_word kinds.RightParen) (c_before kinds.RightParen k)))
    where
      by : (x : Word ⊎ List A) → in_either (λ w. 0) (total c) x ≡ total c (elim x [ inl w ↦ [] | inr xs ↦ xs ])
      by (inl w) = refl
      by (inr xs) = refl

  pub n_enum_braces : Counts L inner (rule enum_braces) (nest_names enum_braces)
  n_enum_braces = c_after kinds.LeftBrace (c_before kinds.RightBrace c_new_ids)

  pub n_record_braces : Counts L inner (rule record_braces) (nest_names record_braces)
  n_record_braces = c_after kinds.LeftBrace (c_before kinds.RightBrace c_parameters)

  pub n_array : Counts L inner (rule array) (nest_names array)
  n_array = c_made _ (λ x. omega (arith, names_array x.0.place x.1.0 x.1.1)) (c_both (c_word kinds.LeftBracket) (c_both (c_before kinds.RightBracket c_ty) c_ty))

  pub n_typed_name : Counts L inner (rule typed_name) (nest_names typed_name)
  n_typed_name = c_after kinds.LeftParen (c_before kinds.RightParen c_parameter)

  pub n_params : Counts L inner (rule params) (nest_names params)
  n_params = c_enclosed parameter_names c_parameters

  pub n_results : Counts L inner (rule results) (nest_names results)
  n_results = c_after kinds.LeftParen (c_before kinds.RightParen c_parameters)

  -- ---- statements

  c_condition : Counts L inner (before expr kinds.Semicolon) (λ e. 0)
  c_condition = c_before kinds.Semicolon c_expr

  -- behind a label that declares so many names
  c_labelled : (q : Mark) (n : ℕ) → mark_is q n → Counts L inner (labelled_form q (before expr kinds.Semicolon)) (λ x. in_option (λ i. n) x.0)
  c_labelled q n i = c_made label_of by (c_ahead q (kinds.Name 0) known kinds.Colon n i c_condition c_condition)
    where
      by : (x : (Word × Expr) ⊎ Expr) → in_either (λ (y : Word × Expr). n + 0) (λ e. 0) x ≡ in_option (λ i. n) (label_of x).0
      by (inl y) = omega arith
      by (inr e) = refl

  c_statements : Counts L inner statements code_names
  c_statements = c_made _ (λ b. refl) (d block)

  c_arm : Counts L inner arm arm_names
  c_arm = c_made _ (λ x. omega arith) (c_both c_expr c_statements)

  c_if : Counts L inner if_statement stmt_names
  unfolding if_statement
  c_if =
      c_made _ (λ x. omega (arith, names_if x.0.place (x.1.0 ∷ x.1.1.0) x.1.1.1))
      (c_both (c_word kinds.KwIf) (c_both c_arm (c_chain arm_names code_names (c_after kinds.KwElse (c_either (c_after kinds.KwIf c_arm) c_statements)))))

  c_default : Counts L inner (either (both (after kinds.KwDefault (after kinds.Colon statements)) (word kinds.KwEsac)) (word kinds.KwEsac)) (λ x. in_option code_names (default_block x))
  c_default = c_is by (c_either (c_both (c_after kinds.KwDefault (c_after kinds.Colon c_statements)) (c_word kinds.KwEsac)) (c_word kinds.KwEsac))
    where
      by : (x : (List Stmt × Word) ⊎ Word) → in_either (λ (y : List Stmt × Word). code_names y.0 + 0) (λ w. 0) x ≡ in_option code_names (default_block x)
      by (inl y) = omega arith
      by (inr w) = refl

  c_case : Counts L inner case_statement stmt_names
  unfolding case_statement
  c_case =
      c_made _ (λ x. omega (arith, names_case x.0.place x.1.0 (default_block x.1.1)))
      (c_both (c_word kinds.KwCase) (c_until arm_names (λ x. in_option code_names (default_block x)) (c_made _ (λ x. omega arith) (c_both c_expr (c_after kinds.Colon c_statements))) c_default))

  c_variable : Counts L inner (made loop_variable (either (deep typed_name) new_id)) (λ x. 1 + in_option type_names x.1)
  c_variable = c_made loop_variable by (c_either (d typed_name) c_new_id)
    where
      by : (x : Parameter TypeExpr ⊎ Identifier) → in_either parameter_names (λ i. 1) x ≡ 1 + in_option type_names (loop_variable x).1
      by (inl p) = refl
      by (inr i) = refl

  c_for : Counts L inner for_statement stmt_names
  unfolding for_statement
  c_for =
      c_made _ (λ x. omega (arith, names_for x.0.place x.1.0.0 x.1.0.1 x.1.1.0.0 x.1.1.0.1 x.1.1.1))
      (c_both (c_word kinds.KwFor) (c_both c_variable (c_after kinds.KwIn (c_after (kinds.Range 0) (c_both (d range_bounds) c_statements)))))

  c_call : Counts L inner call_statement stmt_names
  unfolding call_statement
  c_call = c_made _ (λ x. sym (names_call x.0.place (called_targets x.1.0) x.1.1.0 x.1.1.1)) (c_quiet _ refl)

  c_local : Counts L inner (made (λ x. stmts.Local x.0.place x.1.0 x.1.1) (both (word kinds.KwVar) (both (listed_form new_id) (after kinds.Colon (before ty kinds.Semicolon))))) stmt_names
  c_local = c_made _ (λ x. omega (arith, names_local x.0.place x.1.0 x.1.1)) (c_both (c_word kinds.KwVar) (c_both c_new_ids (c_after kinds.Colon (c_before kinds.Semicolon c_ty))))

  c_assign : Counts L inner (made (λ x. stmts.Assign (place_of x.0) x.0 x.1) (both (listed_form target) (after kinds.Assign (before (listed_form expr) kinds.Semicolon)))) stmt_names
  unfolding target_part target primary selection unary product summed concatenated bit_and bit_xor bit_or compared conjunction disjunction implication equivalence expression
  c_assign = c_made _ (λ x. sym (names_assign (place_of x.0) x.0 x.1)) (c_quiet _ refl)

  c_statement : Counts L inner statement stmt_names
  unfolding statement
  c_statement =
      c_or c_local
      (c_or (c_made _ (λ x. sym (names_skip x.0.place)) (c_quiet _ refl))
      (c_or (c_made _ (λ b. sym (names_block b.0 b.1)) (d block))
      (c_or (c_made _ (λ x. omega (arith, no_option x.1.0, names_assert x.0.place x.1.0 x.1.1)) (c_both (c_word kinds.KwAssert) (c_labelled quiet 0 refl)))
      (c_or (c_made _ (λ x. omega (arith, names_assume x.0.place x.1)) (c_both (c_word kinds.KwAssume) c_condition))
      (c_or (c_made _ (λ x. sym (names_havoc x.0.place x.1.0 (has x.1.1))) (c_quiet _ refl))
      (c_or c_if
      (c_or c_case
      (c_or c_for
      (c_or c_call
      (c_or (c_made _ (λ x. sym (names_next x.0.place x.1)) (c_quiet _ refl))
      c_assign))))))))))

  pub n_block : Counts L inner (rule block) (nest_names block)
  n_block = c_made _ (λ x. omega arith) (c_both (c_word kinds.LeftBrace) (c_until stmt_names (λ w. 0) c_statement (c_word kinds.RightBrace)))

  -- ---- declarations

  abbrev own_names : Word ⊎ TypeExpr → ℕ
  own_names y = in_either (λ w. 0) type_names y

  abbrev type_declaration_names : (Identifier × (Word ⊎ TypeExpr)) ⊎ Identifier → ℕ
  type_declaration_names y = in_either (λ (z : Identifier × (Word ⊎ TypeExpr)). 1 + in_either (λ w. 0) type_names z.1) (λ i. 0) y

  c_type_declaration : Counts L inner type_declaration decl_names
  unfolding type_declaration
  c_type_declaration =
      c_made type_of by
      (c_both (c_word kinds.KwType) (c_either (c_both c_new_id (c_either (c_word kinds.Semicolon) (c_after kinds.Assign (c_before kinds.Semicolon c_ty)))) (c_quiet (after kinds.Star (after kinds.Assign (before (before (before id kinds.Dot) kinds.Star) kinds.Semicolon))) refl)))
    where
      by : (x : Word × ((Identifier × (Word ⊎ TypeExpr)) ⊎ Identifier)) → 0 + type_declaration_names x.1 ≡ decl_names (type_of x)
      by (w, inl (i, inl v)) = refl
      by (w, inl (i, inr t)) = omega arith
      by (w, inr i) = refl

  c_procedure : Counts L inner procedure procedure_names
  unfolding procedure
  c_procedure =
      c_made procedure_of (λ x. omega (arith, results_same x.1.1.0))
      (c_both c_new_id (c_both (d params) (c_both (c_optional (total parameter_names) (c_after kinds.KwReturns (d results))) (c_both (c_quiet (many clause) clauses_silent) c_statements))))
    where
      results_same : (o : Option (List (Parameter TypeExpr))) → in_option (total parameter_names) o ≡ total parameter_names (results_of o)
      results_same None = refl
      results_same (Some ps) = refl

  c_hyper : Counts L inner (made hyper_of (both (one_of kinds.KwHyperinvariant (kinds.KwHyperaxiom ∷ [])) (both (deep hyper_number) (both new_id (after kinds.Colon (before expr kinds.Semicolon)))))) decl_names
  c_hyper = c_made hyper_of (λ x. by x.0.kind x) (c_both (c_any quiet kinds.KwHyperinvariant (kinds.KwHyperaxiom ∷ []) 0 refl) (c_both (d hyper_number) (c_both c_new_id (c_after kinds.Colon c_condition))))
    where
      by : (k : Kind) (x : Word × (ℕ × (Identifier × Expr))) → 1 ≡ decl_names (hyper_of (record { kind = k; place = x.0.place }, x.1))
      by kinds.KwHyperaxiom x = refl
      by _ x = refl

  c_declaration : Counts L inner declaration decl_names
  unfolding declaration
  c_declaration =
      c_or c_type_declaration
      (c_or (c_made _ (λ x. omega arith) (c_both (c_any quiet kinds.KwVar (kinds.KwInput ∷ kinds.KwOutput ∷ kinds.KwConst ∷ []) 0 refl) (c_both c_new_ids (c_after kinds.Colon (c_before kinds.Semicolon c_ty)))))
      (c_or (c_made _ (λ x. omega arith) (c_both (c_word kinds.KwFunction) (c_both c_new_id (c_both (d params) (c_after kinds.Colon (c_before kinds.Semicolon c_ty))))))
      (c_or (c_made _ (λ x. omega arith) (c_both (c_word kinds.KwDefine) (c_both c_new_id (c_both (d params) (c_after kinds.Colon (c_both c_ty (c_after kinds.Assign c_condition)))))))
      (c_or (c_made _ (λ x. omega arith) (c_both (c_word kinds.KwProcedure) c_procedure))
      (c_or (c_made _ (λ x. refl) (c_both (c_word kinds.KwInstance) (c_both c_new_id (c_after kinds.Colon (c_both c_id (c_before kinds.Semicolon (d binds)))))))
      (c_or (c_made _ (λ x. omega arith) (c_both (c_word kinds.KwInit) c_statements))
      (c_or (c_made _ (λ x. omega arith) (c_both (c_word kinds.KwNext) c_statements))
      (c_or (c_made _ (λ x. refl) (c_both (c_word kinds.KwInvariant) (c_both c_new_id (c_after kinds.Colon c_condition))))
      (c_or (c_made _ (λ x. omega arith) (c_both (c_word kinds.KwAxiom) (c_labelled declares 1 refl)))
      (c_or c_hyper
      (c_made _ (λ x. refl) (c_both (c_word kinds.KwControl) (d control_braces)))))))))))))

  pub n_module_braces : Counts L inner (rule module_braces) (nest_names module_braces)
  n_module_braces = c_made _ (λ x. omega arith) (c_both (c_word kinds.LeftBrace) (c_until decl_names (λ w. 0) c_declaration (c_word kinds.RightBrace)))

  -- ---- nested forms that declare none

  pub n_silent : (n : Nested) → silent_table n ≡ true → is_silent silent_table (rule n) ≡ true → Counts L inner (rule n) (λ v. 0)
  n_silent n e s = c_quiet (rule n) s
