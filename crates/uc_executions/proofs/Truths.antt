-- The formulas that are asked are those of the definitions.
use Rattle.std.proofs.Common.{◌≡◌, ℕ, zero, suc, List, [], ◌∷◌, Option, Some, None, Bool, true, false, not, ◌&&◌, refl, ap, ◌∙◌, sym}
use Rattle.std.specs.Prelude.{slice_get, slice_index_or}
use Rattle.std.specs.Bool.{Decides}
use Rattle.std.specs.List.{All, filter_map, cons_option}
use Rattle.std.proofs.lemmas.List.Elements.{All-nil, All-cons, All-head, All-tail}
use Rattle.uc_syntax.specs.declared.expression.Expr.{Expr}
use Rattle.uc_syntax.specs.declared.declaration.Decl.{Decl}
use Rattle.uc_meaning.specs.declared.scope.Scope.{Scope}
use Rattle.uc_meaning.specs.declared.scope.State.{State}
use Rattle.uc_meaning.specs.declared.scope.Interp.{Interp}
use Rattle.uc_meaning.specs.Lookup.{System, some_if, axiom_in, invariant_in, hyperinvariant_in, hyperaxiom_in}
use Rattle.uc_meaning.specs.Cells.{instances}
use Rattle.uc_meaning.specs.Expressions.{is_true}
use Rattle.uc_meaning.specs.Steps.{scope_of}
use Rattle.uc_meaning.specs.Runs.{AxiomsAt, HyperaxiomsIn, HyperaxiomsAt, of_arity, no_state, copies_scope, Position, no_position, position_at, states_at}
use Rattle.uc_meaning.specs.Lines.{InvariantsIn, HyperinvariantsIn, IsFalseAt}
use Rattle.uc_executions.specs.Asked.{ask_each}
use Rattle.uc_executions.specs.Formulas.{of_copies, truth_if, axioms_asked, invariants_asked, hyperinvariants_asked, hyperaxioms_asked, formulas_at}
use Rattle.uc_executions.specs.Judged.{falsity_asked, falsity_at}
use Rattle.uc_executions.specs.declared.kind.FormulaKind.TheVariants.{Axiom, Invariant, Hyperinvariant, Hyperaxiom}
use Rattle.uc_executions.proofs.Questions.{decides_each}

module _ (system : System) (s : Scope) where
  abbrev IsTrueHere : Expr → Type 0
  IsTrueHere e = is_true system s e ≡ true

  -- declarations without a formula ask nothing
  one_more : (o : Option Expr) (es : List Expr) (rest : Bool) → Decides rest (All IsTrueHere es) →
      Decides ((truth_if system s o).holds && rest) (All IsTrueHere (cons_option o es))
  one_more None es rest others = others
  one_more (Some e) es rest others = by (is_true system s e) refl
    where
      by : (b : Bool) → is_true system s e ≡ b → Decides (b && rest) (All IsTrueHere (e ∷ es))
      by true passes = (λ is. All-cons IsTrueHere e es passes (others.0 is), λ h. others.1 (All-tail IsTrueHere e es h))
      by false fails = (λ is. absurd (let clash : false ≡ true = is in cc), λ h. sym fails ∙ All-head IsTrueHere e es h)

  pub decides_formulas : (g : Decl → Option Expr) (ds : List Decl) → Decides (ask_each (λ d. truth_if system s (g d)) ds).holds (All IsTrueHere (filter_map g ds))
  unfolding ask_each
  decides_formulas g [] = (λ is. All-nil IsTrueHere, λ h. refl)
  decides_formulas g (d ∷ ds) = one_more (g d) (filter_map g ds) (ask_each (λ e. truth_if system s (g e)) ds).holds (decides_formulas g ds)

  -- hyper formulas of another number of copies ask nothing
  abbrev IsTrueOf : ℕ → ℕ × Expr → Type 0
  IsTrueOf n h = of_arity n h ≡ true → is_true system s h.1 ≡ true

  one_hyper : (n : ℕ) (h : ℕ × Expr) (hs : List (ℕ × Expr)) (rest : Bool) → Decides rest (All (IsTrueOf n) hs) →
      Decides ((truth_if system s (some_if (of_arity n h) h.1)).holds && rest) (All (IsTrueOf n) (h ∷ hs))
  one_hyper n h hs rest others = by (of_arity n h) refl (is_true system s h.1) refl
    where
      by : (a : Bool) → of_arity n h ≡ a → (b : Bool) → is_true system s h.1 ≡ b → Decides ((truth_if system s (some_if a h.1)).holds && rest) (All (IsTrueOf n) (h ∷ hs))
      by false other b is = (λ fine. All-cons (IsTrueOf n) h hs (λ same. absurd (let clash : false ≡ true = sym other ∙ same in cc)) (others.0 fine), λ all. others.1 (All-tail (IsTrueOf n) h hs all))
      by true same b is = true_or b is
        where
          true_or : (c : Bool) → is_true system s h.1 ≡ c → Decides (is_true system s h.1 && rest) (All (IsTrueOf n) (h ∷ hs))
          true_or true passes = (
            λ fine. All-cons (IsTrueOf n) h hs (λ again. passes) (others.0 (sym (ap (λ t. t && rest) passes) ∙ fine)),
            λ all. ap (λ t. t && rest) passes ∙ others.1 (All-tail (IsTrueOf n) h hs all),
          )
          true_or false fails = (
            λ fine. absurd (let clash : false ≡ true = sym (ap (λ t. t && rest) fails) ∙ fine in cc),
            λ all. absurd (let clash : false ≡ true = sym fails ∙ All-head (IsTrueOf n) h hs all same in cc),
          )

  one_more_hyper : (n : ℕ) (o : Option (ℕ × Expr)) (hs : List (ℕ × Expr)) (rest : Bool) → Decides rest (All (IsTrueOf n) hs) →
      Decides ((truth_if system s (of_copies n o)).holds && rest) (All (IsTrueOf n) (cons_option o hs))
  one_more_hyper n None hs rest others = others
  one_more_hyper n (Some h) hs rest others = one_hyper n h hs rest others

  pub decides_hyper : (n : ℕ) (g : Decl → Option (ℕ × Expr)) (ds : List Decl) →
      Decides (ask_each (λ d. truth_if system s (of_copies n (g d))) ds).holds (All (IsTrueOf n) (filter_map g ds))
  unfolding ask_each
  decides_hyper n g [] = (λ is. All-nil (IsTrueOf n), λ h. refl)
  decides_hyper n g (d ∷ ds) = one_more_hyper n (g d) (filter_map g ds) (ask_each (λ e. truth_if system s (of_copies n (g e))) ds).holds (decides_hyper n g ds)

module _ (system : System) (i : Interp) where
  pub axioms_decided : Decides (axioms_asked system i).holds (All (AxiomsAt system i) (instances system))
  axioms_decided =
      decides_each (formulas_at system Axiom (λ path. scope_of i path no_state)) (AxiomsAt system i)
      (λ here. decides_formulas system (scope_of i here.path no_state) axiom_in here.code.decls) (instances system)

  pub invariants_decided : (s : State) → Decides (invariants_asked system i s).holds (All (InvariantsIn system i s) (instances system))
  invariants_decided s =
      decides_each (formulas_at system Invariant (λ path. scope_of i path s)) (InvariantsIn system i s)
      (λ here. decides_formulas system (scope_of i here.path s) invariant_in here.code.decls) (instances system)

  pub hyperinvariants_decided : (n : ℕ) (states : List State) → Decides (hyperinvariants_asked system i n states).holds (All (HyperinvariantsIn system i n states) (instances system))
  hyperinvariants_decided n states =
      decides_each (formulas_at system (Hyperinvariant n) (λ path. copies_scope i path states)) (HyperinvariantsIn system i n states)
      (λ here. decides_hyper system (copies_scope i here.path states) n hyperinvariant_in here.code.decls) (instances system)

  pub hyperaxioms_decided : (n : ℕ) (states : List State) → Decides (hyperaxioms_asked system i n states).holds (HyperaxiomsAt system i n states)
  hyperaxioms_decided n states =
      decides_each (formulas_at system (Hyperaxiom n) (λ path. copies_scope i path states)) (HyperaxiomsIn system i n states)
      (λ here. decides_hyper system (copies_scope i here.path states) n hyperaxiom_in here.code.decls) (instances system)

not_decided : (b : Bool) → Decides (not b) (b ≡ false)
not_decided true = (λ is. absurd (let clash : false ≡ true = is in cc), λ h. absurd (let clash : false ≡ true = sym h in cc))
not_decided false = (λ is. refl, λ h. refl)

pub falsity_decided : (system : System) (i : Interp) (path : List ℕ) (copies : List (List Position)) (k : ℕ) (o : Option (Bool × Expr)) →
    Decides (falsity_at system i path copies k o).holds (IsFalseAt system i path copies k o)
falsity_decided system i path copies k None = (λ is. absurd (let clash : false ≡ true = is in cc), λ h. absurd h)
falsity_decided system i path copies k (Some (true, e)) = not_decided (is_true system (copies_scope i path (states_at k copies)) e)
falsity_decided system i path copies k (Some (false, e)) =
    decides_each (λ run. falsity_asked system (scope_of i path (position_at k run).0) e) (λ run. is_true system (scope_of i path (position_at k run).0) e ≡ false)
    (λ run. not_decided (is_true system (scope_of i path (position_at k run).0) e)) copies

none_at : {A : Type 0} (xs : List A) (k : ℕ) (d : A) → None ≡ slice_get xs k → d ≡ slice_index_or xs k d
none_at [] k d past = refl
none_at (x ∷ xs) zero d past = absurd (cc)
none_at (x ∷ xs) (suc k) d past = none_at xs k d past

pub no_position_at : (k : ℕ) (run : List Position) → None ≡ slice_get run k → no_state ≡ (position_at k run).0
no_position_at k run past = ap (λ p. p.0) (none_at run k no_position past)
