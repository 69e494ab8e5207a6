-- Whether statements have code over cells does not depend on their order.
use Rattle.std.proofs.Common.{◌≡◌, List, [], ◌∷◌, ◌++◌, refl, sym, ap, ◌∙◌, true, Bool, Some, None}
use Rattle.std.specs.Prelude.{◌&&◌}
use Rattle.std.specs.Option.{option_map, option_and_then, is_some}
use Rattle.std.specs.List.{list_all}
use Rattle.uc_syntax.specs.declared.statement.Stmt.{Stmt}
use Rattle.uc_flat.specs.declared.statement.Statement.{Statement}
use Rattle.uc_flat_expressions.specs.declared.typed.Meant.{Meant}
use Rattle.uc_flat_code.specs.declared.writing.Writing.{Writing}
use Rattle.uc_flat_code.specs.Code.{MayBe, statement_of, code_of}
use Rattle.uc_graph.specs.Arranged.{IsReordered}
use Rattle.uc_graph.proofs.Arranged.{all_reordered}

module _ (names : List Meant) (w : Writing) where
  abbrev pub is_coded : Stmt → Bool
  is_coded s = is_some (statement_of names w s)

  pub coded : (code : List Stmt) (flat : List Statement) → code_of names w code ≡ Some flat → list_all is_coded code ≡ true
  coded [] flat h = refl
  coded (s ∷ code) flat h = by_first (statement_of names w s) (λ g e. coded code g e) h
    where
      by_rest : (x : List Statement) (o : MayBe) → option_map (λ xs. x ++ xs) o ≡ Some flat → (g : List Statement) × (o ≡ Some g)
      by_rest x None k = absurd (cc)
      by_rest x (Some g) k = (g, refl)

      by_first : (o : MayBe) → ((g : List Statement) → code_of names w code ≡ Some g → list_all is_coded code ≡ true) → option_and_then (λ x. option_map (λ xs. x ++ xs) (code_of names w code)) o ≡ Some flat → (is_some o && list_all is_coded code) ≡ true
      by_first None rest k = absurd (cc)
      by_first (Some x) rest k = let g = by_rest x (code_of names w code) k in rest g.0 g.1

  pub built : (code : List Stmt) → list_all is_coded code ≡ true → (flat : List Statement) × (code_of names w code ≡ Some flat)
  built [] h = ([], refl)
  built (s ∷ code) h = by_first (statement_of names w s) (λ e. built code e) h
    where
      by_first : (o : MayBe) → (list_all is_coded code ≡ true → (flat : List Statement) × (code_of names w code ≡ Some flat)) → (is_some o && list_all is_coded code) ≡ true → (flat : List Statement) × (option_and_then (λ x. option_map (λ xs. x ++ xs) (code_of names w code)) o ≡ Some flat)
      by_first None rest k = absurd (cc)
      by_first (Some x) rest k = let g = rest k in (x ++ g.0, ap (option_map (λ xs. x ++ xs)) g.1)

  pub built_in_any_order : (xs ys : List Stmt) (flat : List Statement) → IsReordered xs ys → code_of names w xs ≡ Some flat → (g : List Statement) × (code_of names w ys ≡ Some g)
  built_in_any_order xs ys flat same h = built ys (sym (all_reordered is_coded xs ys same) ∙ coded xs flat h)
