-- The clauses of a procedure that are asked.
use Rattle.std.proofs.Common.{◌≡◌, List, [], ◌∷◌, Option, Some, None, refl, ap, ◌∙◌, true}
use Rattle.std.specs.Bool.{Decides}
use Rattle.std.specs.List.{All, filter_map, cons_option}
use Rattle.uc_syntax.specs.declared.expression.Expr.{Expr}
use Rattle.uc_meaning.specs.declared.scope.Scope.{Scope}
use Rattle.uc_meaning.specs.Lookup.{System}
use Rattle.uc_meaning.specs.Expressions.{is_true}
use Rattle.uc_executions.specs.Asked.{then_ask, ask_each}
use Rattle.uc_executions.specs.Formulas.{truth_asked, truth_if}
use Rattle.uc_executions.proofs.Questions.{decides_each}

module _ (system : System) (s : Scope) where
  one_asked : (o : Option Expr) (es : List Expr) → then_ask (truth_if system s o) (ask_each (truth_asked system s) es) ≡ ask_each (truth_asked system s) (cons_option o es)
  unfolding ask_each
  one_asked None es = refl
  one_asked (Some e) es = refl

  -- those that state nothing ask nothing
  pub ask_stated : {A : Type 0} (g : A → Option Expr) (xs : List A) → ask_each (λ x. truth_if system s (g x)) xs ≡ ask_each (truth_asked system s) (filter_map g xs)
  unfolding ask_each
  ask_stated g [] = refl
  ask_stated g (x ∷ xs) = ap (then_ask (truth_if system s (g x))) (ask_stated g xs) ∙ one_asked (g x) (filter_map g xs)

  pub truths_decided : (es : List Expr) → Decides (ask_each (truth_asked system s) es).holds (All (λ e. is_true system s e ≡ true) es)
  truths_decided es = decides_each (truth_asked system s) (λ e. is_true system s e ≡ true) (λ e. (λ h. h, λ h. h)) es
