-- What is traced of a statement is what it does.
use Rattle.std.proofs.Common.{◌≡◌, List, [], ◌∷◌, map, Option, Some, None, refl, ap, ◌∙◌, sym, subst}
use Rattle.uc_lexer.specs.declared.place.Place.{Place}
use Rattle.uc_syntax.specs.declared.statement.Arm.{Arm}
use Rattle.uc_syntax.specs.declared.statement.Stmt.{Stmt}
use Rattle.uc_syntax.specs.declared.statement.Stmt.TheOpen.{Stmt-F}
use Rattle.uc_syntax.specs.declared.statement.Stmt.TheOpen.Stmt-F.{Local as Declare, Skip, Block, Assert, Assume, Havoc, Assign, If, Case, For, Call, Next}
use Rattle.uc_syntax.specs.declared.statement.Stmt.TheFolds.{fold-Stmt, map-Stmt, fold-roll-Stmt, ind-Stmt}
use Rattle.uc_meaning.specs.Code.{Execution, run_form, run_statement}
use Rattle.uc_meaning.specs.Steps.{Constraint, check_form, check_statement}
use Rattle.uc_meaning.specs.OverflowsRuns.{TracedRun, traced_form, traced_statement}
use Rattle.uc_meaning.specs.Checks.{TracedCheck, traced_check_form, traced_check}
use Rattle.uc_runs.specs.Laws.{TracedCodeIsCode, TracedStepsAreSteps}

-- the arms and the block of `else` of a conditional
abbrev pub arms_in : {X : Type 0} → Stmt-F X → List (Arm X)
arms_in (If place arms otherwise) = arms
arms_in (Case place arms otherwise) = arms
arms_in other = []

abbrev pub else_in : {X : Type 0} → Stmt-F X → Option (List X)
else_in (If place arms otherwise) = otherwise
else_in (Case place arms otherwise) = otherwise
else_in other = None

-- Two ways over a layer are one where they are one at each child, which each child has a proof of.
module _ {A B C D : Type 0} (f : A → B) (g : B → C) (h : A → C) (d : D → A) (same : (e : D) → g (f (d e)) ≡ h (d e)) where
  list_same : (es : List D) → map g (map f (map d es)) ≡ map h (map d es)
  list_same [] = refl
  list_same (e ∷ es) = ap (λ x. x ∷ map g (map f (map d es))) (same e) ∙ ap (λ xs. h (d e) ∷ xs) (list_same es)

  abbrev left : Stmt-F D → Stmt-F C
  left y = map-Stmt B C g (map-Stmt A B f (map-Stmt D A d y))

  abbrev right : Stmt-F D → Stmt-F C
  right y = map-Stmt A C h (map-Stmt D A d y)

  if_arms : (p : Place) (arms : List (Arm D)) (z : Option (List D)) → arms_in (left (If p arms z)) ≡ arms_in (right (If p arms z))
  if_arms p [] z = refl
  if_arms p (a ∷ arms) z =
      ap (λ b. record { condition = a.condition; body = b } ∷ arms_in (left (If p arms z))) (list_same a.body)
      ∙ ap (λ k. record { condition = a.condition; body = map h (map d a.body) } ∷ k) (if_arms p arms z)

  case_arms : (p : Place) (arms : List (Arm D)) (z : Option (List D)) → arms_in (left (Case p arms z)) ≡ arms_in (right (Case p arms z))
  case_arms p [] z = refl
  case_arms p (a ∷ arms) z =
      ap (λ b. record { condition = a.condition; body = b } ∷ arms_in (left (Case p arms z))) (list_same a.body)
      ∙ ap (λ k. record { condition = a.condition; body = map h (map d a.body) } ∷ k) (case_arms p arms z)

  if_else : (p : Place) (arms : List (Arm D)) (z : Option (List D)) → else_in (left (If p arms z)) ≡ else_in (right (If p arms z))
  if_else p arms None = refl
  if_else p arms (Some es) = ap (λ xs. Some xs) (list_same es)

  case_else : (p : Place) (arms : List (Arm D)) (z : Option (List D)) → else_in (left (Case p arms z)) ≡ else_in (right (Case p arms z))
  case_else p arms None = refl
  case_else p arms (Some es) = ap (λ xs. Some xs) (list_same es)

  layer_same : (y : Stmt-F D) → map-Stmt B C g (map-Stmt A B f (map-Stmt D A d y)) ≡ map-Stmt A C h (map-Stmt D A d y)
  layer_same (Declare p names type) = refl
  layer_same (Skip p) = refl
  layer_same (Block p es) = ap (λ xs. Block p xs) (list_same es)
  layer_same (Assert p label e) = refl
  layer_same (Assume p e) = refl
  layer_same (Havoc p x primed) = refl
  layer_same (Assign p targets sources) = refl
  layer_same (If p arms z) =
      ap (λ k. If p k (else_in (left (If p arms z)))) (if_arms p arms z)
      ∙ ap (λ k. If p (arms_in (right (If p arms z))) k) (if_else p arms z)
  layer_same (Case p arms z) =
      ap (λ k. Case p k (else_in (left (Case p arms z)))) (case_arms p arms z)
      ∙ ap (λ k. Case p (arms_in (right (Case p arms z))) k) (case_else p arms z)
  layer_same (For p x type from to es) = ap (λ xs. For p x type from to xs) (list_same es)
  layer_same (Call p targets callee arguments) = refl
  layer_same (Next p i) = refl

pub traced_code : TracedCodeIsCode
unfolding traced_statement run_statement
traced_code system bodies others =
    ind-Stmt (λ s. (fold-Stmt TracedRun (traced_form system bodies others) s).run ≡ fold-Stmt Execution (run_form system bodies) s)
    (λ x y is.
    let F = fold-Stmt TracedRun (traced_form system bodies others) in
    let G = fold-Stmt Execution (run_form system bodies) in
    let way = layer_same F (λ t. t.run) G (λ e. e.0) (λ e. e.1) y in
    ap (λ t. t.run) (fold-roll-Stmt TracedRun (traced_form system bodies others) x)
    ∙ ap (run_form system bodies) (subst (λ z. map-Stmt TracedRun Execution (λ t. t.run) (map-Stmt Stmt TracedRun F z) ≡ map-Stmt Stmt Execution G z) is way)
    ∙ sym (fold-roll-Stmt Execution (run_form system bodies) x))

pub traced_steps : TracedStepsAreSteps
unfolding traced_check check_statement
traced_steps system blocks others =
    ind-Stmt (λ s. (fold-Stmt TracedCheck (traced_check_form system blocks others) s).check ≡ fold-Stmt Constraint (check_form system blocks) s)
    (λ x y is.
    let F = fold-Stmt TracedCheck (traced_check_form system blocks others) in
    let G = fold-Stmt Constraint (check_form system blocks) in
    let way = layer_same F (λ t. t.check) G (λ e. e.0) (λ e. e.1) y in
    ap (λ t. t.check) (fold-roll-Stmt TracedCheck (traced_check_form system blocks others) x)
    ∙ ap (check_form system blocks) (subst (λ z. map-Stmt TracedCheck Constraint (λ t. t.check) (map-Stmt Stmt TracedCheck F z) ≡ map-Stmt Stmt Constraint G z) is way)
    ∙ sym (fold-roll-Stmt Constraint (check_form system blocks) x))
