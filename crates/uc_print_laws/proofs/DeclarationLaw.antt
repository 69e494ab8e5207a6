-- The printed words of commands, declarations and modules spell them.
use Rattle.std.specs.Option.{option_map}
use Rattle.std.proofs.Common.{◌≡◌, ℕ, Bool, true, false, List, [], ◌∷◌, ◌++◌, Option, Some, None, map, refl, sym, ap, subst, ◌∙◌, inl, inr, ◌⊎◌, arith}
use Rattle.uc_forms.specs.Form.{quiet, declares, restarts, both, either, made, deep, word, one_of, after, before, joined_by, member, codes_of}
use Rattle.uc_forms.specs.Spelling.{SpellWith, SpellAt}
use Rattle.uc_lexer.specs.declared.place.Place.{Place}
use Rattle.uc_grammar.specs.declared.word.Word.{Word}
use Rattle.uc_grammar.specs.declared.word.Kind.{Kind}
use Rattle.uc_grammar.specs.declared.word.Kind.TheVariants as kinds
use Rattle.uc_grammar.specs.declared.word.Kind.TheVariants.{Name, OnBits, Range, Unroll, Induction, Verify, Check, PrintResults, PrintCex}
use Rattle.uc_grammar.specs.Code.{code_of, name_in, value_in}
use Rattle.uc_grammar.specs.Syntax.{words, F, rule, listed as listed_form, optional, flat, ty, parameter as parameter_form, id, new_id, in_name, in_number, maybe_number, paths, control_braces, params, results, binds, bind_value, hyper_number, module_braces, run, counterexample, Ending, command_of, led, named_command, command, clause, variable_kind as variable_of, type_of, type_declaration, results_of, procedure_of, procedure, hyper_of, declaration, module_form, text}
use Rattle.uc_syntax.specs.declared.expression.BitFunction.TheVariants.{ZeroExtend}
use Rattle.uc_syntax.specs.declared.place.Identifier.{Identifier}
use Rattle.uc_syntax.specs.declared.type_expression.TypeExpr.{TypeExpr}
use Rattle.uc_syntax.specs.declared.type_expression.Parameter.{Parameter}
use Rattle.uc_syntax.specs.declared.expression.Expr.{Expr}
use Rattle.uc_syntax.specs.declared.statement.Stmt.{Stmt}
use Rattle.uc_syntax.specs.declared.declaration.VariableKind.{VariableKind}
use Rattle.uc_syntax.specs.declared.declaration.VariableKind.TheVariants as variable_kinds
use Rattle.uc_syntax.specs.declared.declaration.Clause.{Clause}
use Rattle.uc_syntax.specs.declared.declaration.Clause.TheVariants as clauses
use Rattle.uc_syntax.specs.declared.declaration.Procedure.{Procedure}
use Rattle.uc_syntax.specs.declared.declaration.Binding.{Binding}
use Rattle.uc_syntax.specs.declared.declaration.WrittenRun.{WrittenRun}
use Rattle.uc_syntax.specs.declared.declaration.WrittenRun.TheVariants as runs
use Rattle.uc_syntax.specs.declared.declaration.Command.{Command}
use Rattle.uc_syntax.specs.declared.declaration.Command.TheVariants as commands
use Rattle.uc_syntax.specs.declared.declaration.Decl.{Decl}
use Rattle.uc_syntax.specs.declared.declaration.Decl.TheVariants as decls
use Rattle.uc_syntax.specs.declared.declaration.Module.{Module}
use Rattle.uc_print_laws.specs.Piece.{name, is_name}
use Rattle.uc_print_laws.specs.Printed.{Printed, none, sign, identifier, ◌<+>◌, nested, listed, in_parens, nowhere, erased_identifier}
use Rattle.uc_print_laws.specs.Types.{printed_type, erased_type}
use Rattle.uc_print_laws.specs.Expressions.{erased_expr, enclosed}
use Rattle.uc_print_laws.specs.Statements.{erased_stmt}
use Rattle.uc_print_laws.specs.Declarations.{run_words, path_words, paths_words, counterexample_words, command_words, parameter_words, clause_words, results_words, procedure_words, binding_words, variable_kind, decl_words, module_words, modules_words, erased_run, erased_identifiers, erased_command, erased_parameter, erased_clause, erased_procedure, erased_binding, erased_decl, erased_module, erased_modules}
use Rattle.uc_print_laws.specs.PrintedLaw.{Prints}
use Rattle.uc_print_laws.proofs.PrintedWords.{name_code, split, one_word}
use Rattle.uc_print_laws.proofs.PrintedSteps.{unit, unit_left, s_any, s_first, s_next, s_a_name, s_optional_none, s_optional_some, assoc, s_word, s_both, s_left, s_right, s_made, s_weak, s_after, s_before, s_deep, s_id, s_each, s_joined, s_listed, s_enclosed, s_until, same, never}
use Rattle.uc_print_laws.proofs.TypeLaw.{type_spelled, s_new_id, s_parameter}
use Rattle.uc_print_laws.proofs.ExpressionLaw.{expr_spelled, s_deep_name}
use Rattle.uc_print_laws.proofs.StatementLaw.{s_labelled, s_statements}

-- ---- commands

s_number : (n : ℕ) → Prints (deep in_number) (in_parens (sign (kinds.Number n))) (λ v. v ≡ n)
s_number n = s_deep in_number {Q = λ v. v ≡ n} (s_made _ (λ w q. ap value_in q.1) (s_after kinds.LeftParen (s_before kinds.RightParen (s_word (kinds.Number 0) (kinds.Number n) refl))))

maybe : Word ⊎ Word → Option ℕ
maybe (inl w) = None
maybe (inr w) = Some (value_in w.kind)

s_maybe : (n : ℕ) → Prints (deep maybe_number) (in_parens (sign (kinds.Number n))) (λ v. v ≡ Some n)
unfolding maybe
s_maybe n = s_deep maybe_number {Q = λ v. v ≡ Some n} (s_after kinds.LeftParen (s_made _ (λ y q. q) (s_right {Q = λ y. maybe y ≡ Some n} (s_before kinds.RightParen (s_weak (λ w q. ap (λ z. Some (value_in z)) q.1) (s_word (kinds.Number 0) (kinds.Number n) refl))))))

abbrev IsRun : WrittenRun → Place × WrittenRun → Type 0
IsRun r y = erased_run y.1 ≡ erased_run r

s_run : (r : WrittenRun) → Prints run (run_words r) (IsRun r)
unfolding run
s_run (runs.Unroll n) = s_first (s_made _ (λ x q. ap (λ z. runs.Unroll z) q.1) (s_both (s_word (kinds.Unroll 0) (kinds.Unroll 0) refl) (s_number n)))
s_run (runs.Induction None) = same (unit (sign (kinds.Induction 0))) (s_next (s_first (s_made _ (λ x q. ap (λ z. runs.Induction (flat z)) q.1) (s_both (s_word (kinds.Induction 0) (kinds.Induction 0) refl) s_optional_none))))
s_run (runs.Induction (Some n)) = s_next (s_first (s_made _ (λ x q. ap (λ z. runs.Induction z) q.1) (s_both (s_word (kinds.Induction 0) (kinds.Induction 0) refl) (s_optional_some {Q = λ o. flat o ≡ Some n} (s_maybe n)))))
s_run (runs.Verify i) = s_next (s_next (s_made _ (λ x q. ap (λ z. runs.Verify z) q.1) (s_both (s_word (kinds.Verify 0) (kinds.Verify 0) refl) (s_deep_name i))))

abbrev Paths : Type 0
Paths = Option (List (List Identifier))

abbrev erased_paths : Paths → Paths
erased_paths o = option_map (λ qs. map erased_identifiers qs) o

s_path : (is : List Identifier) → Prints (joined_by kinds.Dot id) (path_words is) (λ js. erased_identifiers js ≡ erased_identifiers is)
s_path [] = never _ none _
s_path (i ∷ is) = s_joined id erased_identifier identifier erased_identifier s_id kinds.Dot i is

s_paths : (ps : Paths) → Prints (optional (deep paths)) (paths_words ps) (λ o. erased_paths o ≡ erased_paths ps)
s_paths None = s_weak (λ o q. ap erased_paths q) s_optional_none
s_paths (Some ps) = s_optional_some {Q = λ o. erased_paths o ≡ erased_paths (Some ps)} (s_weak (λ qs q. ap (λ z. Some z) q) (s_deep paths {Q = λ qs. map erased_identifiers qs ≡ map erased_identifiers ps} (s_enclosed (joined_by kinds.Dot id) erased_identifiers path_words erased_identifiers s_path ps)))

s_counterexample : (ps : Paths) → Prints counterexample (counterexample_words ps) (λ o. erased_paths o ≡ erased_paths ps)
unfolding counterexample
s_counterexample ps = s_after (kinds.PrintCex 0) (s_before kinds.Semicolon (s_paths ps))

-- what each of the known names begins
abbrev own_unroll : F (Word → Command)
own_unroll = made (λ n w. commands.Run w.place None (runs.Unroll n)) (before (deep in_number) kinds.Semicolon)

abbrev own_induction : F (Word → Command)
own_induction = made (λ n w. commands.Run w.place None (runs.Induction (flat n))) (before (optional (deep maybe_number)) kinds.Semicolon)

abbrev own_verify : F (Word → Command)
own_verify = made (λ i w. commands.Run w.place None (runs.Verify i)) (before (deep in_name) kinds.Semicolon)

abbrev own_check : F (Word → Command)
own_check = made (λ s w. commands.Check w.place) (word kinds.Semicolon)

abbrev own_results : F (Word → Command)
own_results = made (λ s w. commands.PrintResults w.place) (word kinds.Semicolon)

abbrev own_cex : F (Word → Command)
own_cex = made (λ ps w. commands.PrintCounterexamples w.place None ps) (before (optional (deep paths)) kinds.Semicolon)

-- without a name of its own

abbrev IsOwn : Command → Ending → Type 0
IsOwn t (inl r) = ⊥
IsOwn t (inr (inl ps)) = ⊥
IsOwn t (inr (inr own)) = (w : Word) → erased_command (own w) ≡ t

own_is : (t : Command) (w : Word) (y : Ending) → IsOwn t y → erased_command (command_of (w, y)) ≡ t
own_is t w (inl r) q = absurd q
own_is t w (inr (inl ps)) q = absurd q
own_is t w (inr (inr own)) q = q w

s_own : (k : Kind) (own : F (Word → Command)) (x : Printed) (t : Command) → Prints own x (λ f. (w : Word) → erased_command (f w) ≡ t) → Prints (led (word k) own) (sign k <+> x) (λ c. erased_command c ≡ t)
s_own k own x t p = s_made command_of (λ y q. own_is t y.0 y.1 q.1) (s_both (s_word k k refl) (s_right {Q = IsOwn t} (s_right {Q = λ y. IsOwn t (inr y)} p)))

abbrev Is : Command → Command → Type 0
Is t c = erased_command c ≡ erased_command t

s_unnamed_run : (p : Place) (r : WrittenRun) → Prints command (run_words r <+> sign kinds.Semicolon) (Is (commands.Run p None r))
unfolding command
s_unnamed_run p (runs.Unroll n) = same (sym (assoc (sign (kinds.Unroll 0)) (in_parens (sign (kinds.Number n))) (sign kinds.Semicolon))) (s_first (s_own (kinds.Unroll 0) own_unroll _ _ (s_made _ (λ v q w. ap (λ z. commands.Run nowhere None (runs.Unroll z)) q) (s_before kinds.Semicolon (s_number n)))))
s_unnamed_run p (runs.Induction None) = same (ap (λ z. sign (kinds.Induction 0) <+> z) (unit_left (sign kinds.Semicolon))) (s_next (s_first (s_own (kinds.Induction 0) own_induction _ _ (s_made _ (λ v q w. ap (λ z. commands.Run nowhere None (runs.Induction (flat z))) q) (s_before kinds.Semicolon s_optional_none)))))
s_unnamed_run p (runs.Induction (Some n)) = same (sym (assoc (sign (kinds.Induction 0)) (in_parens (sign (kinds.Number n))) (sign kinds.Semicolon))) (s_next (s_first (s_own (kinds.Induction 0) own_induction _ _
    (s_made _ (λ v q w. ap (λ z. commands.Run nowhere None (runs.Induction z)) q) (s_before kinds.Semicolon (s_optional_some {Q = λ o. flat o ≡ Some n} (s_maybe n)))))))
s_unnamed_run p (runs.Verify i) = same (sym (assoc (sign (kinds.Verify 0)) (in_parens (identifier i)) (sign kinds.Semicolon))) (s_next (s_next (s_first (s_own (kinds.Verify 0) own_verify _ _ (s_made _ (λ v q w. ap (λ z. commands.Run nowhere None (runs.Verify z)) q) (s_before kinds.Semicolon (s_deep_name i)))))))

-- with a name: which production it is shows at the kind of the name

abbrev Named : Type 0
Named = (Place × WrittenRun) ⊎ Paths

abbrev named_form : F Named
named_form = either (after kinds.Assign (before run kinds.Semicolon)) (after kinds.Dot counterexample)

led_named : (m : ℕ) (k : Kind) (own : F (Word → Command)) (w : Word) (back : List Word) (e : Named) → member (code_of w.kind) (code_of k ∷ []) ≡ true → SpellWith (SpellAt rule m) named_form back e → SpellWith (SpellAt rule m) (led (word k) own) (w ∷ back) (named_command (w, e))
led_named m k own w back (inl r) c s = ((w, inl r), refl, (w ∷ [], back, refl, (refl, c), s))
led_named m k own w back (inr ps) c s = ((w, inr (inl ps)), refl, (w ∷ [], back, refl, (refl, c), s))

kind_among : (k : Kind) (w : Word) (codes : List ℕ) → w.kind ≡ k → member (code_of k) codes ≡ true → member (code_of w.kind) codes ≡ true
kind_among k w codes i c = subst (λ z. member (code_of z) codes ≡ true) (sym i) c

abbrev other_codes : List ℕ
other_codes = codes_of words (Name 0) (OnBits ZeroExtend 0 ∷ Range 0 ∷ [])

other_named : (m : ℕ) (w : Word) (back : List Word) (e : Named) → member (code_of w.kind) other_codes ≡ true → SpellWith (SpellAt rule m) named_form back e → SpellWith (SpellAt rule m) command (w ∷ back) (named_command (w, e))
unfolding command
other_named m w back e c s = let v = named_command (w, e) in
    (inr v, refl, (inr v, refl, (inr v, refl, (inr v, refl, (inr v, refl, (inr v, refl, ((w, e), refl, (w ∷ [], back, refl, (refl, c), s))))))))

by_kind : (k : Kind) (m : ℕ) (w : Word) (back : List Word) (e : Named) → w.kind ≡ k → is_name k ≡ true → SpellWith (SpellAt rule m) named_form back e → SpellWith (SpellAt rule m) command (w ∷ back) (named_command (w, e))
unfolding command
by_kind (Name n) m w back e i t s = other_named m w back e (kind_among (Name n) w other_codes i refl) s
by_kind (OnBits f n) m w back e i t s = other_named m w back e (kind_among (OnBits f n) w other_codes i refl) s
by_kind (Range n) m w back e i t s = other_named m w back e (kind_among (Range n) w other_codes i refl) s
by_kind (Unroll n) m w back e i t s = let v = named_command (w, e) in (inl v, refl, led_named m (Unroll 0) own_unroll w back e (kind_among (Unroll n) w (code_of (Unroll 0) ∷ []) i refl) s)
by_kind (Induction n) m w back e i t s = let v = named_command (w, e) in (inr v, refl, (inl v, refl, led_named m (Induction 0) own_induction w back e (kind_among (Induction n) w (code_of (Induction 0) ∷ []) i refl) s))
by_kind (Verify n) m w back e i t s = let v = named_command (w, e) in (inr v, refl, (inr v, refl, (inl v, refl, led_named m (Verify 0) own_verify w back e (kind_among (Verify n) w (code_of (Verify 0) ∷ []) i refl) s)))
by_kind (Check n) m w back e i t s = let v = named_command (w, e) in (inr v, refl, (inr v, refl, (inr v, refl, (inl v, refl, led_named m (Check 0) own_check w back e (kind_among (Check n) w (code_of (Check 0) ∷ []) i refl) s))))
by_kind (PrintResults n) m w back e i t s = let v = named_command (w, e) in (inr v, refl, (inr v, refl, (inr v, refl, (inr v, refl, (inl v, refl, led_named m (PrintResults 0) own_results w back e (kind_among (PrintResults n) w (code_of (PrintResults 0) ∷ []) i refl) s)))))
by_kind (PrintCex n) m w back e i t s = let v = named_command (w, e) in (inr v, refl, (inr v, refl, (inr v, refl, (inr v, refl, (inr v, refl, (inl v, refl, led_named m (PrintCex 0) own_cex w back e (kind_among (PrintCex n) w (code_of (PrintCex 0) ∷ []) i refl) s))))))
by_kind _ m w back e i t s = absurd cc

s_named : (i : Identifier) (x : Printed) (t : Command) → Prints named_form x (λ e. (w : Word) → name_in w.kind ≡ i.name → erased_command (named_command (w, e)) ≡ t) → Prints command (identifier i <+> x) (λ c. erased_command c ≡ t)
s_named i x t p = record {
  spells = λ s m h ws j.
      let o = split (name i.name ∷ []) x.words ws j in
      let u = one_word (name i.name) o.0 o.3 in
      let b = p.spells s m (omega arith) o.1 o.4 in
      let e : u.0 ∷ o.1 ≡ ws = sym (o.2 ∙ ap (λ z. z ++ o.1) u.1) in
      (named_command (u.0, b.0), subst (λ z. SpellWith (SpellAt rule m) command z (named_command (u.0, b.0))) e (by_kind u.0.kind m u.0 o.1 b.0 refl u.2.0 b.1), b.2 u.0 u.2.1);
}

abbrev some_name : ℕ → Option Identifier
some_name n = Some (record { place = nowhere; name = n })

abbrev NamedIs : Command → ℕ → Named → Type 0
NamedIs t n e = (w : Word) → name_in w.kind ≡ n → erased_command (named_command (w, e)) ≡ t

s_named_run : (p : Place) (i : Identifier) (r : WrittenRun) → Prints command (identifier i <+> (sign kinds.Assign <+> (run_words r <+> sign kinds.Semicolon))) (Is (commands.Run p (Some i) r))
s_named_run p i r = s_named i _ _ (s_left {Q = NamedIs (erased_command (commands.Run p (Some i) r)) i.name} (s_weak (λ y q w n. ap (λ z. commands.Run nowhere (some_name z) (erased_run y.1)) n ∙ ap (λ z. commands.Run nowhere (Some (erased_identifier i)) z) q) (s_after kinds.Assign (s_before kinds.Semicolon (s_run r)))))

s_named_paths : (p : Place) (i : Identifier) (ps : Paths) → Prints command (identifier i <+> (sign kinds.Dot <+> counterexample_words ps)) (Is (commands.PrintCounterexamples p (Some i) ps))
s_named_paths p i ps = s_named i _ _ (s_right {Q = NamedIs (erased_command (commands.PrintCounterexamples p (Some i) ps)) i.name} (s_weak (λ y q w n. ap (λ z. commands.PrintCounterexamples nowhere (some_name z) (erased_paths y)) n ∙ ap (λ z. commands.PrintCounterexamples nowhere (Some (erased_identifier i)) z) q) (s_after kinds.Dot (s_counterexample ps))))

s_command : (c : Command) → Prints command (command_words c) (Is c)
unfolding command
s_command (commands.Run p None r) = s_unnamed_run p r
s_command (commands.Run p (Some i) r) = s_named_run p i r
s_command (commands.Check p) = s_next (s_next (s_next (s_first (s_own (kinds.Check 0) own_check _ _ (s_made _ (λ v q w. refl) (s_word kinds.Semicolon kinds.Semicolon refl))))))
s_command (commands.PrintResults p) = s_next (s_next (s_next (s_next (s_first (s_own (kinds.PrintResults 0) own_results _ _ (s_made _ (λ v q w. refl) (s_word kinds.Semicolon kinds.Semicolon refl)))))))
s_command (commands.PrintCounterexamples p None ps) = s_next (s_next (s_next (s_next (s_next (s_first (s_own (kinds.PrintCex 0) own_cex _ _ (s_made _ (λ v q w. ap (λ z. commands.PrintCounterexamples nowhere None z) q) (s_before kinds.Semicolon (s_paths ps)))))))))
s_command (commands.PrintCounterexamples p (Some i) ps) = s_named_paths p i ps

-- ---- parts of declarations

s_param : (p : Parameter TypeExpr) → Prints parameter_form (parameter_words p) (λ q. erased_parameter q ≡ erased_parameter p)
s_param p = s_parameter p.identifier (printed_type p.ty) (erased_type p.ty) (type_spelled p.ty)

abbrev erased_all : List (Parameter TypeExpr) → List (Parameter TypeExpr)
erased_all ps = map erased_parameter ps

s_params : (ps : List (Parameter TypeExpr)) → Prints (deep params) (enclosed parameter_words ps) (λ qs. erased_all qs ≡ erased_all ps)
s_params ps = s_deep params (s_enclosed parameter_form erased_parameter parameter_words erased_parameter s_param ps)

s_results : (rs : List (Parameter TypeExpr)) → Prints (optional (after kinds.KwReturns (deep results))) (results_words rs) (λ o. erased_all (results_of o) ≡ erased_all rs)
s_results [] = s_weak (λ o q. ap (λ z. erased_all (results_of z)) q) s_optional_none
s_results (r ∷ rs) = s_optional_some {Q = λ o. erased_all (results_of o) ≡ erased_all (r ∷ rs)} (s_after kinds.KwReturns (s_deep results (s_after kinds.LeftParen (s_before kinds.RightParen (s_listed parameter_form erased_parameter parameter_words erased_parameter s_param (r ∷ rs))))))

s_ids : (is : List Identifier) → Prints (listed_form id) (listed identifier is) (λ js. erased_identifiers js ≡ erased_identifiers is)
s_ids is = s_listed id erased_identifier identifier erased_identifier s_id is

s_new_ids : (is : List Identifier) → Prints (listed_form new_id) (listed identifier is) (λ js. erased_identifiers js ≡ erased_identifiers is)
s_new_ids is = s_listed new_id erased_identifier identifier erased_identifier s_new_id is

s_clause : (c : Clause) → Prints clause (clause_words c) (λ d. erased_clause d ≡ erased_clause c)
unfolding clause
s_clause (clauses.Requires p e) = s_first (s_made _ (λ x q. ap (λ z. clauses.Requires nowhere z) q.1) (s_both (s_word kinds.KwRequires kinds.KwRequires refl) (s_before kinds.Semicolon (expr_spelled e))))
s_clause (clauses.Ensures p e) = s_next (s_first (s_made _ (λ x q. ap (λ z. clauses.Ensures nowhere z) q.1) (s_both (s_word kinds.KwEnsures kinds.KwEnsures refl) (s_before kinds.Semicolon (expr_spelled e)))))
s_clause (clauses.Modifies p is) = s_next (s_next (s_made _ (λ x q. ap (λ z. clauses.Modifies nowhere z) q.1) (s_both (s_word kinds.KwModifies kinds.KwModifies refl) (s_before kinds.Semicolon (s_ids is)))))

abbrev procedure_with : Identifier → List (Parameter TypeExpr) → List (Parameter TypeExpr) → List Clause → List Stmt → Procedure
procedure_with i ps rs cs ss = record { identifier = i; parameters = ps; results = rs; clauses = cs; body = ss }

s_procedure : (q : Procedure) → Prints procedure (procedure_words q) (λ r. erased_procedure r ≡ erased_procedure q)
unfolding procedure
s_procedure q = s_made procedure_of (λ x r.
    ap (λ z. procedure_with z (erased_all x.1.0) (erased_all (results_of x.1.1.0)) (map erased_clause x.1.1.1.0) (map erased_stmt x.1.1.1.1)) r.0
    ∙ ap (λ z. procedure_with (erased_identifier q.identifier) z (erased_all (results_of x.1.1.0)) (map erased_clause x.1.1.1.0) (map erased_stmt x.1.1.1.1)) r.1.0
    ∙ ap (λ z. procedure_with (erased_identifier q.identifier) (erased_all q.parameters) z (map erased_clause x.1.1.1.0) (map erased_stmt x.1.1.1.1)) r.1.1.0
    ∙ ap (λ z. procedure_with (erased_identifier q.identifier) (erased_all q.parameters) (erased_all q.results) z (map erased_stmt x.1.1.1.1)) r.1.1.1.0
    ∙ ap (λ z. procedure_with (erased_identifier q.identifier) (erased_all q.parameters) (erased_all q.results) (map erased_clause q.clauses) z) r.1.1.1.1)
    (s_both (s_new_id q.identifier) (s_both (s_params q.parameters) (s_both (s_results q.results) (s_both (s_each clause erased_clause clause_words erased_clause s_clause q.clauses) (s_statements q.body)))))

abbrev binding_with : Identifier → Expr → Binding
binding_with i e = record { identifier = i; expression = e }

abbrev binding_form : F Binding
binding_form = made (λ x. record { identifier = x.0; expression = x.1 }) (both id (after kinds.Colon (deep bind_value)))

s_binding : (b : Binding) → Prints binding_form (binding_words b) (λ c. erased_binding c ≡ erased_binding b)
s_binding b = s_made _ (λ x q. ap (λ z. binding_with z (erased_expr x.1)) q.0 ∙ ap (λ z. binding_with (erased_identifier b.identifier) z) q.1)
    (s_both (s_id b.identifier) (s_after kinds.Colon (s_deep bind_value (s_after kinds.LeftParen (s_before kinds.RightParen (expr_spelled b.expression))))))

s_binds : (bs : List Binding) → Prints (deep binds) (enclosed binding_words bs) (λ cs. map erased_binding cs ≡ map erased_binding bs)
s_binds bs = s_deep binds (s_enclosed binding_form erased_binding binding_words erased_binding s_binding bs)

s_hyper_number : (n : ℕ) → Prints (deep hyper_number) (nested (sign kinds.LeftBracket <+> (sign (kinds.Number n) <+> sign kinds.RightBracket))) (λ v. v ≡ n)
s_hyper_number n = s_deep hyper_number {Q = λ v. v ≡ n} (s_made _ (λ w q. ap value_in q.1) (s_after kinds.LeftBracket (s_before kinds.RightBracket (s_word (kinds.Number 0) (kinds.Number n) refl))))

abbrev variable_list : List Kind
variable_list = kinds.KwInput ∷ kinds.KwOutput ∷ kinds.KwConst ∷ []

variable_word : (k : VariableKind) → Prints (one_of kinds.KwVar variable_list) (sign (variable_kind k)) (λ w. variable_of w.kind ≡ k)
variable_word variable_kinds.Variable = s_weak (λ w q. ap variable_of q.1) (s_any quiet kinds.KwVar variable_list kinds.KwVar refl)
variable_word variable_kinds.Input = s_weak (λ w q. ap variable_of q.1) (s_any quiet kinds.KwVar variable_list kinds.KwInput refl)
variable_word variable_kinds.Output = s_weak (λ w q. ap variable_of q.1) (s_any quiet kinds.KwVar variable_list kinds.KwOutput refl)
variable_word variable_kinds.Constant = s_weak (λ w q. ap variable_of q.1) (s_any quiet kinds.KwVar variable_list kinds.KwConst refl)

-- ---- declarations

abbrev Good : Printed → Decl → Type 0
Good x t = Prints declaration x (λ d. erased_decl d ≡ t)

abbrev TypeTail : Type 0
TypeTail = (Identifier × (Word ⊎ TypeExpr)) ⊎ Identifier

abbrev IsType : Decl → TypeTail → Type 0
IsType t y = (w : Word) → erased_decl (type_of (w, y)) ≡ t

abbrev type_tail : F TypeTail
type_tail = either (both new_id (either (word kinds.Semicolon) (after kinds.Assign (before ty kinds.Semicolon)))) (after kinds.Star (after kinds.Assign (before (before (before id kinds.Dot) kinds.Star) kinds.Semicolon)))

good_type : (x : Printed) (t : Decl) → Prints type_tail x (IsType t) → Good (sign kinds.KwType <+> x) t
unfolding declaration type_declaration
good_type x t p = s_first (s_made type_of (λ y q. q.1 y.0) (s_both (s_word kinds.KwType kinds.KwType refl) p))

abbrev IsOpaque : Word ⊎ TypeExpr → Type 0
IsOpaque (inl w) = Unit {0}
IsOpaque (inr t) = ⊥

abbrev IsAlias : TypeExpr → Word ⊎ TypeExpr → Type 0
IsAlias t (inl w) = ⊥
IsAlias t (inr u) = erased_type u ≡ erased_type t

opaque_is : (i : Identifier) (j : Identifier) (y : Word ⊎ TypeExpr) → erased_identifier j ≡ erased_identifier i → IsOpaque y → IsType (decls.OpaqueType nowhere (erased_identifier i)) (inl (j, y))
opaque_is i j (inl v) q r w = ap (λ z. decls.OpaqueType nowhere z) q
opaque_is i j (inr t) q r w = absurd r

alias_is : (i : Identifier) (t : TypeExpr) (j : Identifier) (y : Word ⊎ TypeExpr) → erased_identifier j ≡ erased_identifier i → IsAlias t y → IsType (decls.TypeAlias nowhere (erased_identifier i) (erased_type t)) (inl (j, y))
alias_is i t j (inl v) q r w = absurd r
alias_is i t j (inr u) q r w = ap (λ z. decls.TypeAlias nowhere z (erased_type u)) q ∙ ap (λ z. decls.TypeAlias nowhere (erased_identifier i) z) r

hyper_word : (b : Bool) → Kind
hyper_word true = kinds.KwHyperaxiom
hyper_word false = kinds.KwHyperinvariant

abbrev hyper_with : Kind → ℕ → Identifier → Expr → Decl
hyper_with k n i e = hyper_of (record { kind = k; place = nowhere }, (n, (i, e)))

hyper_erased : (x : Word × (ℕ × (Identifier × Expr))) (k : Kind) → x.0.kind ≡ k → erased_decl (hyper_of x) ≡ erased_decl (hyper_of (record { kind = k; place = x.0.place }, x.1))
hyper_erased x k i = ap (λ z. erased_decl (hyper_of (record { kind = z; place = x.0.place }, x.1))) i

good_opaquetype : (i : Identifier) → Good (decl_words (decls.OpaqueType nowhere i)) (erased_decl (decls.OpaqueType nowhere i))
good_opaquetype i = good_type _ _ (s_left {Q = IsType (decls.OpaqueType nowhere (erased_identifier i))} (s_weak (λ y q. opaque_is i y.0 y.1 q.0 q.1) (s_both (s_new_id i) (s_left {Q = IsOpaque} (s_weak (λ w q. tt) (s_word kinds.Semicolon kinds.Semicolon refl))))))

good_typealias : (i : Identifier) (t : TypeExpr) → Good (decl_words (decls.TypeAlias nowhere i t)) (erased_decl (decls.TypeAlias nowhere i t))
good_typealias i t = good_type _ _ (s_left {Q = IsType (decls.TypeAlias nowhere (erased_identifier i) (erased_type t))} (s_weak (λ y q. alias_is i t y.0 y.1 q.0 q.1) (s_both (s_new_id i) (s_right {Q = IsAlias t} (s_after kinds.Assign (s_before kinds.Semicolon (type_spelled t)))))))

good_typeimport : (i : Identifier) → Good (decl_words (decls.TypeImport nowhere i)) (erased_decl (decls.TypeImport nowhere i))
good_typeimport i = good_type _ _ (s_right {Q = IsType (decls.TypeImport nowhere (erased_identifier i))} (s_weak (λ j q w. ap (λ z. decls.TypeImport nowhere z) q) (s_after kinds.Star (s_after kinds.Assign (s_before kinds.Semicolon (s_before kinds.Star (s_before kinds.Dot (s_id i))))))))

good_variables : (k : VariableKind) (is : List Identifier) (t : TypeExpr) → Good (decl_words (decls.Variables nowhere k is t)) (erased_decl (decls.Variables nowhere k is t))
unfolding declaration
good_variables k is t = s_next (s_first (s_made _ (λ x q. ap (λ z. decls.Variables nowhere z (erased_identifiers x.1.0) (erased_type x.1.1)) q.0 ∙ ap (λ z. decls.Variables nowhere k z (erased_type x.1.1)) q.1.0 ∙ ap (λ z. decls.Variables nowhere k (erased_identifiers is) z) q.1.1)
    (s_both (variable_word k) (s_both (s_new_ids is) (s_after kinds.Colon (s_before kinds.Semicolon (type_spelled t)))))))

good_function : (i : Identifier) (ps : List (Parameter TypeExpr)) (t : TypeExpr) → Good (decl_words (decls.Function nowhere i ps t)) (erased_decl (decls.Function nowhere i ps t))
unfolding declaration
good_function i ps t = s_next (s_next (s_first (s_made _ (λ x q. ap (λ z. decls.Function nowhere z (erased_all x.1.1.0) (erased_type x.1.1.1)) q.1.0 ∙ ap (λ z. decls.Function nowhere (erased_identifier i) z (erased_type x.1.1.1)) q.1.1.0 ∙ ap (λ z. decls.Function nowhere (erased_identifier i) (erased_all ps) z) q.1.1.1)
    (s_both (s_word kinds.KwFunction kinds.KwFunction refl) (s_both (s_new_id i) (s_both (s_params ps) (s_after kinds.Colon (s_before kinds.Semicolon (type_spelled t)))))))))

good_define : (i : Identifier) (ps : List (Parameter TypeExpr)) (t : TypeExpr) (e : Expr) → Good (decl_words (decls.Define nowhere i ps t e)) (erased_decl (decls.Define nowhere i ps t e))
unfolding declaration
good_define i ps t e = s_next (s_next (s_next (s_first (s_made _ (λ x q. ap (λ z. decls.Define nowhere z (erased_all x.1.1.0) (erased_type x.1.1.1.0) (erased_expr x.1.1.1.1)) q.1.0 ∙ ap (λ z. decls.Define nowhere (erased_identifier i) z (erased_type x.1.1.1.0) (erased_expr x.1.1.1.1)) q.1.1.0
    ∙ ap (λ z. decls.Define nowhere (erased_identifier i) (erased_all ps) z (erased_expr x.1.1.1.1)) q.1.1.1.0 ∙ ap (λ z. decls.Define nowhere (erased_identifier i) (erased_all ps) (erased_type t) z) q.1.1.1.1)
    (s_both (s_word kinds.KwDefine kinds.KwDefine refl) (s_both (s_new_id i) (s_both (s_params ps) (s_after kinds.Colon (s_both (type_spelled t) (s_after kinds.Assign (s_before kinds.Semicolon (expr_spelled e))))))))))))

good_procedure : (r : Procedure) → Good (decl_words (decls.Procedure nowhere r)) (erased_decl (decls.Procedure nowhere r))
unfolding declaration
good_procedure r = s_next (s_next (s_next (s_next (s_first (s_made _ (λ x q. ap (λ z. decls.Procedure nowhere z) q.1) (s_both (s_word kinds.KwProcedure kinds.KwProcedure refl) (s_procedure r)))))))

good_instance : (i : Identifier) (m : Identifier) (bs : List Binding) → Good (decl_words (decls.Instance nowhere i m bs)) (erased_decl (decls.Instance nowhere i m bs))
unfolding declaration
good_instance i m bs = s_next (s_next (s_next (s_next (s_next (s_first (s_made _ (λ x q. ap (λ z. decls.Instance nowhere z (erased_identifier x.1.1.0) (map erased_binding x.1.1.1)) q.1.0 ∙ ap (λ z. decls.Instance nowhere (erased_identifier i) z (map erased_binding x.1.1.1)) q.1.1.0 ∙ ap (λ z. decls.Instance nowhere (erased_identifier i) (erased_identifier m) z) q.1.1.1)
    (s_both (s_word kinds.KwInstance kinds.KwInstance refl) (s_both (s_new_id i) (s_after kinds.Colon (s_both (s_id m) (s_before kinds.Semicolon (s_binds bs))))))))))))

good_init : (ss : List Stmt) → Good (decl_words (decls.Init nowhere ss)) (erased_decl (decls.Init nowhere ss))
unfolding declaration
good_init ss = s_next (s_next (s_next (s_next (s_next (s_next (s_first (s_made _ (λ x q. ap (λ z. decls.Init nowhere z) q.1) (s_both (s_word kinds.KwInit kinds.KwInit refl) (s_statements ss)))))))))

good_next : (ss : List Stmt) → Good (decl_words (decls.Next nowhere ss)) (erased_decl (decls.Next nowhere ss))
unfolding declaration
good_next ss = s_next (s_next (s_next (s_next (s_next (s_next (s_next (s_first (s_made _ (λ x q. ap (λ z. decls.Next nowhere z) q.1) (s_both (s_word kinds.KwNext kinds.KwNext refl) (s_statements ss))))))))))

good_invariant : (i : Identifier) (e : Expr) → Good (decl_words (decls.Invariant nowhere i e)) (erased_decl (decls.Invariant nowhere i e))
unfolding declaration
good_invariant i e = s_next (s_next (s_next (s_next (s_next (s_next (s_next (s_next (s_first (s_made _ (λ x q. ap (λ z. decls.Invariant nowhere z (erased_expr x.1.1)) q.1.0 ∙ ap (λ z. decls.Invariant nowhere (erased_identifier i) z) q.1.1) (s_both (s_word kinds.KwInvariant kinds.KwInvariant refl) (s_both (s_new_id i) (s_after kinds.Colon (s_before kinds.Semicolon (expr_spelled e))))))))))))))

good_axiom : (o : Option Identifier) (e : Expr) → Good (decl_words (decls.Axiom nowhere o e)) (erased_decl (decls.Axiom nowhere o e))
unfolding declaration
good_axiom o e = s_next (s_next (s_next (s_next (s_next (s_next (s_next (s_next (s_next (s_first (s_made _ (λ x q. ap (λ z. decls.Axiom nowhere z (erased_expr x.1.1)) q.1.0 ∙ ap (λ z. decls.Axiom nowhere (option_map erased_identifier o) z) q.1.1) (s_both (s_word kinds.KwAxiom kinds.KwAxiom refl) (s_labelled declares o (s_before kinds.Semicolon (expr_spelled e))))))))))))))

good_hyperinvariant : (n : ℕ) (i : Identifier) (e : Expr) → Good (decl_words (decls.Hyperinvariant nowhere n i e)) (erased_decl (decls.Hyperinvariant nowhere n i e))
unfolding declaration
good_hyperinvariant n i e = s_next (s_next (s_next (s_next (s_next (s_next (s_next (s_next (s_next (s_next (s_first (s_made hyper_of (λ x q. hyper_erased x kinds.KwHyperinvariant q.0.1 ∙ ap (λ z. decls.Hyperinvariant nowhere z (erased_identifier x.1.1.0) (erased_expr x.1.1.1)) q.1.0 ∙ ap (λ z. decls.Hyperinvariant nowhere n z (erased_expr x.1.1.1)) q.1.1.0 ∙ ap (λ z. decls.Hyperinvariant nowhere n (erased_identifier i) z) q.1.1.1)
    (s_both (s_any quiet kinds.KwHyperinvariant (kinds.KwHyperaxiom ∷ []) kinds.KwHyperinvariant refl) (s_both (s_hyper_number n) (s_both (s_new_id i) (s_after kinds.Colon (s_before kinds.Semicolon (expr_spelled e)))))))))))))))))

good_hyperaxiom : (n : ℕ) (i : Identifier) (e : Expr) → Good (decl_words (decls.Hyperaxiom nowhere n i e)) (erased_decl (decls.Hyperaxiom nowhere n i e))
unfolding declaration
good_hyperaxiom n i e = s_next (s_next (s_next (s_next (s_next (s_next (s_next (s_next (s_next (s_next (s_first (s_made hyper_of (λ x q. hyper_erased x kinds.KwHyperaxiom q.0.1 ∙ ap (λ z. decls.Hyperaxiom nowhere z (erased_identifier x.1.1.0) (erased_expr x.1.1.1)) q.1.0 ∙ ap (λ z. decls.Hyperaxiom nowhere n z (erased_expr x.1.1.1)) q.1.1.0 ∙ ap (λ z. decls.Hyperaxiom nowhere n (erased_identifier i) z) q.1.1.1)
    (s_both (s_any quiet kinds.KwHyperinvariant (kinds.KwHyperaxiom ∷ []) kinds.KwHyperaxiom refl) (s_both (s_hyper_number n) (s_both (s_new_id i) (s_after kinds.Colon (s_before kinds.Semicolon (expr_spelled e)))))))))))))))))

good_control : (cs : List Command) → Good (decl_words (decls.Control nowhere cs)) (erased_decl (decls.Control nowhere cs))
unfolding declaration
good_control cs = s_next (s_next (s_next (s_next (s_next (s_next (s_next (s_next (s_next (s_next (s_next (s_made _ (λ x q. ap (λ z. decls.Control nowhere z) q.1) (s_both (s_word kinds.KwControl kinds.KwControl refl) (s_deep control_braces {Q = λ ds. map erased_command ds ≡ map erased_command cs} (s_made _ (λ x q. q.1.0)
    (s_both (s_word kinds.LeftBrace kinds.LeftBrace refl) (s_until command (word kinds.RightBrace) erased_command command_words erased_command s_command (sign kinds.RightBrace) _ (s_word kinds.RightBrace kinds.RightBrace refl) cs))))))))))))))))

s_decl : (d : Decl) → Prints declaration (decl_words d) (λ c. erased_decl c ≡ erased_decl d)
s_decl (decls.OpaqueType p i) = good_opaquetype i
s_decl (decls.TypeAlias p i t) = good_typealias i t
s_decl (decls.TypeImport p i) = good_typeimport i
s_decl (decls.Variables p k is t) = good_variables k is t
s_decl (decls.Function p i ps t) = good_function i ps t
s_decl (decls.Define p i ps t e) = good_define i ps t e
s_decl (decls.Procedure p r) = good_procedure r
s_decl (decls.Instance p i m bs) = good_instance i m bs
s_decl (decls.Init p ss) = good_init ss
s_decl (decls.Next p ss) = good_next ss
s_decl (decls.Invariant p i e) = good_invariant i e
s_decl (decls.Axiom p o e) = good_axiom o e
s_decl (decls.Hyperinvariant p n i e) = good_hyperinvariant n i e
s_decl (decls.Hyperaxiom p n i e) = good_hyperaxiom n i e
s_decl (decls.Control p cs) = good_control cs

-- ---- modules and texts

abbrev module_with : ℕ → List Decl → Module
module_with n ds = record { place = nowhere; name = n; decls = ds }

s_module : (m : Module) → Prints module_form (module_words m) (λ n. erased_module n ≡ erased_module m)
unfolding module_form
s_module m = s_made _ (λ x q. ap (λ z. module_with z (map erased_decl x.1.1)) q.1.0.1 ∙ ap (λ z. module_with m.name z) q.1.1)
    (s_both (s_any restarts kinds.KwModule [] kinds.KwModule refl) (s_both (s_a_name (name m.name) (λ k q. name_code k q.0)) (s_deep module_braces {Q = λ ds. map erased_decl ds ≡ map erased_decl m.decls} (s_made _ (λ x q. q.1.0)
    (s_both (s_word kinds.LeftBrace kinds.LeftBrace refl) (s_until declaration (word kinds.RightBrace) erased_decl decl_words erased_decl s_decl (sign kinds.RightBrace) _ (s_word kinds.RightBrace kinds.RightBrace refl) m.decls))))))

pub modules_spelled : (ms : List Module) → Prints text (modules_words ms) (λ ns. erased_modules ns ≡ erased_modules ms)
unfolding text
modules_spelled ms = s_each module_form erased_module module_words erased_module s_module ms
