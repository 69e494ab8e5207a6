-- One turn after another over operands, arms and selections.
use Rattle.std.proofs.Common.{◌≡◌, ℕ, zero, suc, ◌+◌, ◌<◌, ◌≤◌, Bool, true, false, List, [], ◌∷◌, ◌++◌, map, length, take, drop, get_or, add-one, drop-cons, Option, Some, None, refl, ap, ◌∙◌, sym, subst}
use Rattle.std.specs.Prelude.{Result, Ok, Err, if◌then◌else◌}
use Rattle.std.specs.List.{flat_map}
use Rattle.std.proofs.lemmas.List.{drop_all, take_all, take_more, take-append-drop, map_more}
use Rattle.std.proofs.lemmas.Grind.{flat_map-append}
use Rattle.uc_syntax.specs.declared.expression.Expr.{Expr}
use Rattle.uc_syntax.specs.declared.expression.Branch.{Branch}
use Rattle.uc_syntax.specs.declared.expression.Selection.{Selection}
use Rattle.uc_syntax.proofs.Added.{append_nil}
use Rattle.uc_meaning.specs.declared.scope.Scope.{Scope}
use Rattle.uc_meaning.specs.declared.overflow.Wide.{Wide}
use Rattle.uc_meaning.specs.Lookup.{System}
use Rattle.uc_meaning.specs.Operators.{holds}
use Rattle.uc_meaning.specs.Expressions.{Reading}
use Rattle.uc_operators.specs.declared.error.EvalError.{EvalError}
use Rattle.uc_operators.specs.Overflows.{first_wide, TellsWide}
use Rattle.uc_meaning.specs.Levels.{reading_at, value_at, met_at, chosen_at, chosen_met_at, select_at, select_all_at}
use Rattle.uc_evaluator.proofs.Told.{none_first, none_both, told_first, told_second}

split : {A : Type 0} (xs : List A) (k : ℕ) (x d : A) → k < length xs → x ≡ get_or xs k d → drop k xs ≡ x ∷ drop (k + 1) xs
split xs k x d within is =
    drop-cons xs k d within ∙ (ap (λ y. y ∷ drop (suc k) xs) (sym is) ∙ ap (λ n. x ∷ drop n xs) (sym (add-one k)))

-- lists of operations, one for each element
module _ {X : Type 0} (f : X → List Wide) (xs : List X) (k : ℕ) where
  pub all_more : (x d : X) → k < length xs → x ≡ get_or xs k d → first_wide (flat_map f (take k xs)) ≡ None → first_wide (f x) ≡ None → first_wide (flat_map f (take (k + 1) xs)) ≡ None
  all_more x d within is before here =
      ap (λ ys. first_wide (flat_map f ys)) (take_more xs k d within ∙ ap (λ y. take k xs ++ y ∷ []) (sym is))
      ∙ ap first_wide (flat_map-append f (take k xs) (x ∷ []))
      ∙ none_both (flat_map f (take k xs)) (f x ++ []) before (ap first_wide (append_nil (f x)) ∙ here)

  all_split : (x d : X) → k < length xs → x ≡ get_or xs k d → flat_map f xs ≡ flat_map f (take k xs) ++ (f x ++ flat_map f (drop (k + 1) xs))
  all_split x d within is =
      ap (flat_map f) (sym (take-append-drop k xs))
      ∙ flat_map-append f (take k xs) (drop k xs)
      ∙ ap (λ ys. flat_map f (take k xs) ++ flat_map f ys) (split xs k x d within is)

  pub all_told : (A B : Type 0) (x d : X) (e : EvalError) → k < length xs → x ≡ get_or xs k d → first_wide (flat_map f (take k xs)) ≡ None → TellsWide {A = A} (first_wide (f x)) (Err e) →
      TellsWide {A = B} (first_wide (flat_map f xs)) (Err e)
  all_told A B x d e within is before told =
      subst (λ ws. TellsWide {A = B} (first_wide ws) (Err e)) (sym (all_split x d within is))
      (told_second {A = B} (flat_map f (take k xs)) (f x ++ flat_map f (drop (k + 1) xs)) (Err e) before (told_first A B (f x) (flat_map f (drop (k + 1) xs)) e told))

  pub all_end : length xs ≤ k → first_wide (flat_map f (take k xs)) ≡ None → first_wide (flat_map f xs) ≡ None
  all_end past before = ap (λ ys. first_wide (flat_map f ys)) (sym (take_all k xs past)) ∙ before

pub mapped_more : {X Y : Type 0} (g : X → Y) (xs : List X) (k : ℕ) (x d : X) (ys zs : List Y) (y : Y) → k < length xs → x ≡ get_or xs k d → y ≡ g x → ys ≡ map g (take k xs) → zs ≡ ys ++ y ∷ [] →
    zs ≡ map g (take (k + 1) xs)
mapped_more g xs k x d ys zs y within is here before pushed =
    pushed ∙ (λ i. before i ++ here i ∷ []) ∙ ap (λ z. map g (take k xs) ++ g z ∷ []) is ∙ sym (map_more g xs k d within)

pub mapped_end : {X Y : Type 0} (g : X → Y) (xs : List X) (k : ℕ) (ys : List Y) → length xs ≤ k → ys ≡ map g (take k xs) → ys ≡ map g xs
mapped_end g xs k ys past before = before ∙ ap (map g) (take_all k xs past)

-- the arms of a conditional
module _ (n : ℕ) (system : System) (s : Scope) (bs : List (Branch Expr)) (otherwise : Expr) (k : ℕ) where
  abbrev pub ChosenFrom : Reading → Type 0
  ChosenFrom r = chosen_at n system s (drop k bs) otherwise ≡ r

  abbrev pub ChosenMetFrom : Option Wide → Type 0
  ChosenMetFrom r = first_wide (chosen_met_at n system s (drop k bs) otherwise) ≡ r

  arm : (b d : Branch Expr) (h : Bool) → k < length bs → b ≡ get_or bs k d → h ≡ holds (value_at n system s b.condition) →
      chosen_at n system s (drop k bs) otherwise ≡ (if h then reading_at n system s b.value else chosen_at n system s (drop (k + 1) bs) otherwise)
  unfolding chosen_at
  arm b d h within is held =
      ap (λ xs. chosen_at n system s xs otherwise) (split bs k b d within is)
      ∙ ap (λ t. if t then reading_at n system s b.value else chosen_at n system s (drop (k + 1) bs) otherwise) (sym held)

  arm_met : (b d : Branch Expr) (h : Bool) → k < length bs → b ≡ get_or bs k d → h ≡ holds (value_at n system s b.condition) →
      chosen_met_at n system s (drop k bs) otherwise ≡ met_at n system s b.condition ++ (if h then met_at n system s b.value else chosen_met_at n system s (drop (k + 1) bs) otherwise)
  unfolding chosen_met_at
  arm_met b d h within is held =
      ap (λ xs. chosen_met_at n system s xs otherwise) (split bs k b d within is)
      ∙ ap (λ t. met_at n system s b.condition ++ (if t then met_at n system s b.value else chosen_met_at n system s (drop (k + 1) bs) otherwise)) (sym held)

  pub chosen_more : (b d : Branch Expr) (r : Reading) → k < length bs → b ≡ get_or bs k d → false ≡ holds (value_at n system s b.condition) → ChosenFrom r → chosen_at n system s (drop (k + 1) bs) otherwise ≡ r
  chosen_more b d r within is held before = sym (arm b d false within is held) ∙ before

  pub chosen_taken : (b d : Branch Expr) (r : Reading) → k < length bs → b ≡ get_or bs k d → true ≡ holds (value_at n system s b.condition) → ChosenFrom r → reading_at n system s b.value ≡ r
  chosen_taken b d r within is held before = sym (arm b d true within is held) ∙ before

  pub chosen_end : (r : Reading) → length bs ≤ k → ChosenFrom r → reading_at n system s otherwise ≡ r
  unfolding chosen_at
  chosen_end r past before = sym (ap (λ xs. chosen_at n system s xs otherwise) (drop_all k bs past)) ∙ before

  pub chosen_met_more : (b d : Branch Expr) (r : Option Wide) → k < length bs → b ≡ get_or bs k d → false ≡ holds (value_at n system s b.condition) → first_wide (met_at n system s b.condition) ≡ None →
      ChosenMetFrom r → first_wide (chosen_met_at n system s (drop (k + 1) bs) otherwise) ≡ r
  chosen_met_more b d r within is held none before =
      sym (ap first_wide (arm_met b d false within is held) ∙ none_first (met_at n system s b.condition) (chosen_met_at n system s (drop (k + 1) bs) otherwise) none) ∙ before

  pub chosen_met_told : (A B : Type 0) (b d : Branch Expr) (r : Option Wide) (e : EvalError) → k < length bs → b ≡ get_or bs k d → ChosenMetFrom r →
      TellsWide {A = A} (first_wide (met_at n system s b.condition)) (Err e) → TellsWide {A = B} r (Err e)
  chosen_met_told A B b d r e within is before told =
      subst (λ o. TellsWide {A = B} o (Err e)) (sym (ap first_wide (arm_met b d _ within is refl)) ∙ before)
      (told_first A B (met_at n system s b.condition) _ e told)

  pub chosen_met_taken : {A : Type 0} (b d : Branch Expr) (r : Option Wide) (a : Result A EvalError) → k < length bs → b ≡ get_or bs k d → true ≡ holds (value_at n system s b.condition) →
      first_wide (met_at n system s b.condition) ≡ None → ChosenMetFrom r → TellsWide (first_wide (met_at n system s b.value)) a → TellsWide r a
  chosen_met_taken b d r a within is held none before told =
      subst (λ o. TellsWide o a) (sym (ap first_wide (arm_met b d true within is held)) ∙ before)
      (told_second (met_at n system s b.condition) (met_at n system s b.value) a none told)

  pub chosen_met_end : {A : Type 0} (r : Option Wide) (a : Result A EvalError) → length bs ≤ k → ChosenMetFrom r → TellsWide (first_wide (met_at n system s otherwise)) a → TellsWide r a
  unfolding chosen_met_at
  chosen_met_end r a past before told =
      subst (λ o. TellsWide o a) (sym (ap (λ xs. first_wide (chosen_met_at n system s xs otherwise)) (drop_all k bs past)) ∙ before) told

-- selections of a value
module _ (n : ℕ) (system : System) (s : Scope) (xs : List (Selection Expr)) (k : ℕ) where
  pub after_more : (x d : Selection Expr) (here next r : Reading) → k < length xs → x ≡ get_or xs k d → next ≡ select_at n system s here x → select_all_at n system s here (drop k xs) ≡ r →
      select_all_at n system s next (drop (k + 1) xs) ≡ r
  unfolding select_all_at
  after_more x d here next r within is step before =
      ap (λ h. select_all_at n system s h (drop (k + 1) xs)) step
      ∙ sym (ap (select_all_at n system s here) (split xs k x d within is)) ∙ before

  pub after_end : (here r : Reading) → length xs ≤ k → select_all_at n system s here (drop k xs) ≡ r → here ≡ r
  unfolding select_all_at
  after_end here r past before = sym (ap (select_all_at n system s here) (drop_all k xs past)) ∙ before
