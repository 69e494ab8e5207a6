-- What a single statement does, as it is entered.
use Rattle.std.proofs.Common.{◌≡◌, ℕ, Bool, List, [], ◌∷◌, ◌++◌, ap, sym, ◌∙◌}
use Rattle.std.specs.Borrow.{Bor}
use Rattle.std.specs.Option.{option_and_then}
use Rattle.uc_lexer.specs.declared.place.Place.{Place}
use Rattle.uc_syntax.specs.declared.place.Identifier.{Identifier}
use Rattle.uc_syntax.specs.declared.expression.Expr.{Expr}
use Rattle.uc_syntax.specs.declared.statement.Target.{Target}
use Rattle.uc_syntax.specs.declared.statement.Stmt.{Stmt}
use Rattle.uc_syntax.specs.declared.statement.Stmt.TheVariants.{Havoc, Assign, Call, Next}
use Rattle.uc_syntax.specs.declared.declaration.Procedure.{Procedure as ProcedureParts}
use Rattle.uc_syntax.proofs.Added.{append_nil}
use Rattle.uc_meaning.specs.Lookup.{module_at, procedure_of}
use Rattle.uc_names.specs.declared.firsts.Firsts.{Firsts}
use Rattle.uc_order_rules.specs.Mentions.{target_indices}
use Rattle.uc_order_rules.specs.Writes.{target_names}
use Rattle.uc_order_rules.specs.Dependence.{Writing}
use Rattle.uc_step_cycles.specs.declared.acts.Act.TheVariants.{Writes, Steps}
use Rattle.uc_step_cycles.specs.declared.acts.Context.{Context}
use Rattle.uc_step_cycles.specs.Procedures.{modified_by}
use Rattle.uc_step_cycles.specs.Acts.{Setting, act_writings, around_of, cells_of_primed, cells_of_written, primed_names}
use Rattle.uc_step_cycles.specs.Walks.{IsKnown, statement_piece}
use Rattle.uc_step_cycles.proofs.Named.{cells_are}
use Rattle.uc_step_cycles.proofs.Forms.{call_cells, form_assign, form_call, form_havoc, form_next, one_cell, target_cells}

module _ (s : Setting) (cs : List Context) (place : Place) (n : ℕ) (st : Stmt) where
  abbrev A : List ℕ
  A = around_of s cs n

  abbrev writing_at : List ℕ → List ℕ → List Writing
  writing_at written reads = record { place = place; written = written; reads = reads } ∷ []

  none_read : A ++ cells_of_primed s [] ≡ A
  unfolding cells_of_primed
  none_read = append_nil A

  pub havoc_does : (i : Identifier) (primed : Bool) → st ≡ Havoc place i primed →
      act_writings s cs (Writes (record { place = place; written = i.name ∷ []; reads = []; around = n })) ≡ statement_piece s st A
  havoc_does i primed is =
      (λ k. writing_at (sym (one_cell s i.name) k) (none_read k)) ∙ sym (ap (λ x. statement_piece s x A) is ∙ form_havoc s place i primed A)

  pub assign_does : (targets shown : List Target) (es shown' : List Expr) → st ≡ Assign place targets es → shown ≡ targets → shown' ≡ es →
      act_writings s cs (Writes (record { place = place; written = target_names shown; reads = primed_names (target_indices shown ++ shown'); around = n })) ≡ statement_piece s st A
  assign_does targets shown es shown' is same same' =
      (λ k. writing_at (cells_of_written s (target_names (same k))) (A ++ cells_of_primed s (primed_names (target_indices (same k) ++ same' k))))
      ∙ (λ k. writing_at (sym (target_cells s targets) k) (A ++ cells_are s (target_indices targets ++ es) k))
      ∙ sym (ap (λ x. statement_piece s x A) is ∙ form_assign s place targets es A)

  pub call_does : (t : Firsts (Bor ProcedureParts)) (targets shown : List Target) (i : Identifier) (es shown' : List Expr) → IsKnown t s → st ≡ Call place targets i es → shown ≡ targets → shown' ≡ es →
      act_writings s cs (Writes (record { place = place; written = target_names shown ++ modified_by t i.name; reads = primed_names (target_indices shown ++ shown'); around = n })) ≡ statement_piece s st A
  unfolding IsKnown
  call_does t targets shown i es shown' known is same same' =
      (λ k. writing_at (cells_of_written s (target_names (same k) ++ known i.name k)) (A ++ cells_of_primed s (primed_names (target_indices (same k) ++ same' k))))
      ∙ (λ k. writing_at (sym (call_cells s targets i.name (option_and_then (λ m. procedure_of m i.name) (module_at s.system s.path))) k) (A ++ cells_are s (target_indices targets ++ es) k))
      ∙ sym (ap (λ x. statement_piece s x A) is ∙ form_call s place targets i es A)

pub next_does : (s : Setting) (cs : List Context) (place : Place) (n : ℕ) (st : Stmt) (i : Identifier) → st ≡ Next place i → act_writings s cs (Steps i.name n) ≡ statement_piece s st (around_of s cs n)
next_does s cs place n st i is = sym (ap (λ x. statement_piece s x (around_of s cs n)) is ∙ form_next s place i (around_of s cs n))
