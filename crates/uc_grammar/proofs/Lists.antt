-- Lists in brackets and blocks in braces spell the same as they are written.
use Rattle.std.proofs.Common.{List, [], ◌++◌, Some, None, refl, sym, ap, ◌∙◌, inl, inr}
use Rattle.uc_forms.specs.Form.{word, both, made, until, joined_by, after, deep}
use Rattle.uc_forms.specs.Spelling.{Language, Standing, stands_with}
use Rattle.uc_lexer.specs.declared.place.Place.{Place}
use Rattle.uc_syntax.specs.declared.statement.Stmt.{Stmt}
use Rattle.uc_grammar.specs.declared.word.Word.{Word}
use Rattle.uc_grammar.specs.declared.word.Kind.TheVariants.{RightParen, LeftBrace, RightBrace, Colon, Dot}
use Rattle.uc_grammar.specs.Code.{value_in}
use Rattle.uc_grammar.specs.Syntax.{words, Nested, Value, F, rule, arguments, params, binds, bind_value, call_targets, paths, maybe_number, block, control_braces, module_braces, enclosed, expr, id, listed, parameter, targets, statement, command, declaration}
use Rattle.uc_grammar.specs.Same.{SpellTheSame}
use Rattle.uc_grammar.specs.Written.{or_none, in_parens, in_braces, written_arguments, written_params, written_binds, written_call_targets, written_paths, written_maybe_number, written_block, written_control_braces, written_module_braces}
use Rattle.uc_grammar.proofs.Regroup.{Into, moved_words, until_of_many, many_of_until}
use Rattle.uc_grammar.proofs.Spelled.{both_ways}

module _ (L : Language words Nested Value) (inner : Standing words Nested Value L) where
  -- maybe nothing stands in the parentheses
  pub to_parens : {A : Type 0} (f : F (List A)) → Into L inner (in_parens f) (enclosed f)
  to_parens f ws xs ((k, ys), e, (front, back, i, sk, ((zs, r), p, (f1, b1, i1, (o, q, (inl us, d, s)), sr)))) =
      (((k, xs), refl, (front, back, i, sk, (inr us, e ∙ (p ∙ (q ∙ ap or_none d)), ((us, r), refl, (f1, b1, i1, s, sr))))), refl)
  to_parens f ws xs ((k, ys), e, (front, back, i, sk, ((zs, r), p, (f1, b1, i1, (o, q, (inr u, d, s)), sr)))) =
      let t = moved_words {T = words} L inner (word RightParen) b1 back r (sym (i1 ∙ ap (λ us. us ++ b1) s)) sr in
      (((k, xs), refl, (front, back, i, sk, (inl r, e ∙ (p ∙ (q ∙ ap or_none d)), t.0))), refl)

  pub of_parens : {A : Type 0} (f : F (List A)) → Into L inner (enclosed f) (in_parens f)
  of_parens f ws xs ((k, ys), e, (front, back, i, sk, (inl r, p, s))) = (((k, xs), refl, (front, back, i, sk, ((xs, r), refl, ([], back, refl, (None, e ∙ p, (inr tt, refl, refl)), s)))), refl)
  of_parens f ws xs ((k, ys), e, (front, back, i, sk, (inr us, p, ((vs, r), q, (f1, b1, i1, s, sr))))) =
      (((k, xs), refl, (front, back, i, sk, ((xs, r), refl, (f1, b1, i1, (Some vs, e ∙ (p ∙ q), (inl vs, refl, s)), sr)))), refl)

  to_number : Into L inner written_maybe_number (rule maybe_number)
  to_number ws a ((k, n), e, (front, back, i, sk, ((o, r), p, (f1, b1, i1, (inl m, d, (w, c, s)), sr)))) =
      (((k, a), refl, (front, back, i, sk, (inr w, e ∙ (p ∙ (d ∙ ap Some c)), ((w, r), refl, (f1, b1, i1, s, sr))))), refl)
  to_number ws a ((k, n), e, (front, back, i, sk, ((o, r), p, (f1, b1, i1, (inr u, d, s), sr)))) =
      let t = moved_words {T = words} L inner (word RightParen) b1 back r (sym (i1 ∙ ap (λ us. us ++ b1) s)) sr in
      (((k, a), refl, (front, back, i, sk, (inl r, e ∙ (p ∙ d), t.0))), refl)

  of_number : Into L inner (rule maybe_number) written_maybe_number
  of_number ws a ((k, n), e, (front, back, i, sk, (inl r, p, s))) = (((k, a), refl, (front, back, i, sk, ((a, r), refl, ([], back, refl, (inr tt, e ∙ p, refl), s)))), refl)
  of_number ws a ((k, n), e, (front, back, i, sk, (inr w, p, ((v, r), q, (f1, b1, i1, s, sr))))) =
      (((k, a), refl, (front, back, i, sk, ((a, r), refl, (f1, b1, i1, (inl (value_in v.kind), e ∙ (p ∙ ap (λ z. Some (value_in z.kind)) q), (v, refl, s)), sr)))), refl)

  -- the end of a block is a brace
  pub to_braces : {A B : Type 0} (h : Word × List A → B) (f : F A) → Into L inner (made h (in_braces f)) (made (λ x. h (x.0, x.1.0)) (both (word LeftBrace) (until f (word RightBrace))))
  to_braces h f ws b (x, e, (front, back, i, k, (z, p, s))) =
      let t = until_of_many {T = words} L inner f (word RightBrace) back z s in
      (((x.0, z), e ∙ ap (λ ys. h (x.0, ys)) p, (front, back, i, k, t.0)), ap (λ ys. stands_with {T = words} L inner (word LeftBrace) front x.0 k ++ ys) t.1)

  pub of_braces : {A B : Type 0} (h : Word × List A → B) (f : F A) → Into L inner (made (λ x. h (x.0, x.1.0)) (both (word LeftBrace) (until f (word RightBrace)))) (made h (in_braces f))
  of_braces h f ws b ((w, z), e, (front, back, i, k, s)) =
      let t = many_of_until {T = words} L inner f (word RightBrace) back z s in
      (((w, z.0), e, (front, back, i, k, (z, refl, t.0))), ap (λ ys. stands_with {T = words} L inner (word LeftBrace) front w k ++ ys) t.1)

pub same_parens : {A : Type 0} (f : F (List A)) → SpellTheSame (in_parens f) (enclosed f)
same_parens f = both_ways (in_parens f) (enclosed f) (λ L inner. to_parens L inner f) (λ L inner. of_parens L inner f)

pub same_arguments : SpellTheSame written_arguments (rule arguments)
same_arguments = same_parens (listed expr)

pub same_params : SpellTheSame written_params (rule params)
same_params = same_parens (listed parameter)

pub same_binds : SpellTheSame written_binds (rule binds)
same_binds = same_parens (listed (made (λ x. record { identifier = x.0; expression = x.1 }) (both id (after Colon (deep bind_value)))))

pub same_call_targets : SpellTheSame written_call_targets (rule call_targets)
same_call_targets = same_parens targets

pub same_paths : SpellTheSame written_paths (rule paths)
same_paths = same_parens (listed (joined_by Dot id))

pub same_maybe_number : SpellTheSame written_maybe_number (rule maybe_number)
same_maybe_number = both_ways written_maybe_number (rule maybe_number) to_number of_number

abbrev placed : Word × List Stmt → Place × List Stmt
placed x = (x.0.place, x.1)

pub same_block : SpellTheSame written_block (rule block)
unfolding written_block
same_block = both_ways written_block (rule block) (λ L inner. to_braces L inner placed statement) (λ L inner. of_braces L inner placed statement)

pub same_control_braces : SpellTheSame written_control_braces (rule control_braces)
unfolding written_control_braces
same_control_braces = both_ways written_control_braces (rule control_braces) (λ L inner. to_braces L inner (λ x. x.1) command) (λ L inner. of_braces L inner (λ x. x.1) command)

pub same_module_braces : SpellTheSame written_module_braces (rule module_braces)
unfolding written_module_braces
same_module_braces = both_ways written_module_braces (rule module_braces) (λ L inner. to_braces L inner (λ x. x.1) declaration) (λ L inner. of_braces L inner (λ x. x.1) declaration)
