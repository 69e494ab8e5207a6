-- Parameters with their values, one after another.
use Rattle.std.proofs.Common.{◌≡◌, ℕ, suc, ◌+◌, ◌<◌, ◌≤◌, min, List, [], ◌∷◌, ◌++◌, length, drop, get_or, add-one, drop-cons, length-drop, reverse, refl, ap, ◌∙◌, sym, arith}
use Rattle.std.proofs.lemmas.List.{reverse-append, drop_all}
use Rattle.uc_syntax.specs.declared.type_expression.Parameter.{Parameter}
use Rattle.uc_syntax.specs.declared.type_expression.TypeExpr.{TypeExpr}
use Rattle.uc_syntax.specs.declared.declaration.Module.{Module}
use Rattle.uc_values.specs.declared.value.Value.{Value}
use Rattle.uc_meaning.specs.declared.scope.Local.{Local}
use Rattle.uc_meaning.specs.Lookup.{System}
use Rattle.uc_meaning.specs.Types.{type_of_written}
use Rattle.uc_meaning.specs.Expressions.{bind}

split : {A : Type 0} (xs : List A) (k : ℕ) (x d : A) → k < length xs → x ≡ get_or xs k d → drop k xs ≡ x ∷ drop (k + 1) xs
split xs k x d within is =
    drop-cons xs k d within ∙ (ap (λ y. y ∷ drop (suc k) xs) (sym is) ∙ ap (λ n. x ∷ drop n xs) (sym (add-one k)))

module _ (system : System) (m : Module) (ps : List (Parameter TypeExpr)) (vs : List Value) (k : ℕ) (locals : List Local) (r : List Local)
    (before : bind system m (drop k ps) (drop k vs) (reverse locals) ≡ r) where
  pub bound_more : (p d : Parameter TypeExpr) (v e : Value) (l : Local) (more : List Local) → k < length ps → k < length vs → p ≡ get_or ps k d → v ≡ get_or vs k e →
      l ≡ record { name = p.identifier.name; ty = type_of_written system m p.ty; value = v } → more ≡ locals ++ l ∷ [] → bind system m (drop (k + 1) ps) (drop (k + 1) vs) (reverse more) ≡ r
  unfolding bind
  bound_more p d v e l more within valued parameter value is pushed =
      ap (λ ls. bind system m (drop (k + 1) ps) (drop (k + 1) vs) (reverse ls)) pushed
      ∙ ap (bind system m (drop (k + 1) ps) (drop (k + 1) vs)) (reverse-append locals (l ∷ []))
      ∙ ap (λ x. bind system m (drop (k + 1) ps) (drop (k + 1) vs) (x ∷ reverse locals)) is
      ∙ sym (ap (λ xs. bind system m xs (drop k vs) (reverse locals)) (split ps k p d within parameter)
      ∙ ap (λ xs. bind system m (p ∷ drop (k + 1) ps) xs (reverse locals)) (split vs k v e valued value))
      ∙ before

  stops : (xs : List (Parameter TypeExpr)) (ys : List Value) (ls : List Local) → min (length xs) (length ys) ≤ 0 → bind system m xs ys ls ≡ ls
  unfolding bind
  stops [] ys ls past = refl
  stops (x ∷ xs) [] ls past = refl
  stops (x ∷ xs) (y ∷ ys) ls past = absurd (omega (arith, past))

  pub bound_end : min (length ps) (length vs) ≤ k → reverse locals ≡ r
  bound_end past = sym (stops (drop k ps) (drop k vs) (reverse locals) (omega (arith, past, length-drop k ps, length-drop k vs))) ∙ before
