-- The `ensures` of a number.
use Rattle.std.proofs.Common.{◌≡◌, ℕ, zero, suc, ◌-◌, List, [], ◌∷◌, length, Option, Some, None, Bool, true, false, not, refl, ap, ◌∙◌, sym, arith}
use Rattle.std.specs.Prelude.{slice_get}
use Rattle.std.specs.Bool.{Decides}
use Rattle.std.specs.List.{filter_map, cons_option}
use Rattle.uc_syntax.specs.declared.expression.Expr.{Expr}
use Rattle.uc_meaning.specs.declared.scope.State.{State}
use Rattle.uc_meaning.specs.declared.scope.Scope.{Scope}
use Rattle.uc_meaning.specs.Lookup.{System}
use Rattle.uc_meaning.specs.Lines.{EnsuresFails}
use Rattle.uc_meaning.specs.Expressions.{is_true}
use Rattle.uc_meaning.specs.Ends.{begun}
use Rattle.uc_executions.specs.Executions.{ensures_asked}

pub no_clause : {A B : Type 0} (g : A → Option B) (xs : List A) (k : ℕ) → length xs ≡ 0 → None ≡ slice_get (filter_map g xs) k
no_clause g [] k none = refl
no_clause g (x ∷ xs) k none = absurd (omega (arith, none))

-- the first of some clauses, and the others
pub at_first : {A B : Type 0} (g : A → Option B) (xs : List A) (x : A) (rest : List A) (y : B) (k : ℕ) → xs ≡ x ∷ rest → Some y ≡ g x → k ≡ 0 → Some y ≡ slice_get (filter_map g xs) k
at_first g xs x rest y k split here first =
    sym (ap (λ ys. slice_get (filter_map g ys) k) split ∙ ap (λ o. slice_get (cons_option o (filter_map g rest)) k) (sym here) ∙ ap (slice_get (y ∷ filter_map g rest)) first)

behind : {B : Type 0} (y : B) (ys : List B) (k : ℕ) → (k ≡ 0 → ⊥) → slice_get ys (k - 1) ≡ slice_get (y ∷ ys) k
behind y ys zero some = absurd (some refl)
behind y ys (suc k) some = let one : suc k - 1 ≡ k = omega arith in ap (slice_get ys) one

pub at_later : {A B : Type 0} (g : A → Option B) (xs : List A) (x : A) (rest : List A) (y : B) (k : ℕ) → xs ≡ x ∷ rest → Some y ≡ g x → (k ≡ 0 → ⊥) →
    slice_get (filter_map g rest) (k - 1) ≡ slice_get (filter_map g xs) k
at_later g xs x rest y k split here some =
    behind y (filter_map g rest) k some
    ∙ sym (ap (λ ys. slice_get (filter_map g ys) k) split ∙ ap (λ o. slice_get (cons_option o (filter_map g rest)) k) (sym here))

pub at_others : {A B : Type 0} (g : A → Option B) (xs : List A) (x : A) (rest : List A) (k : ℕ) → xs ≡ x ∷ rest → None ≡ g x →
    slice_get (filter_map g rest) k ≡ slice_get (filter_map g xs) k
at_others g xs x rest k split here =
    sym (ap (λ ys. slice_get (filter_map g ys) k) split ∙ ap (λ o. slice_get (cons_option o (filter_map g rest)) k) (sym here))

not_decided : (b : Bool) → Decides (not b) (b ≡ false)
not_decided true = (λ is. absurd (let clash : false ≡ true = is in cc), λ h. absurd (let clash : false ≡ true = sym h in cc))
not_decided false = (λ is. refl, λ h. refl)

pub ensures_decided : (system : System) (entry : State) (exit : Scope) (o : Option Expr) → Decides (ensures_asked system entry exit o).holds (EnsuresFails system entry (begun exit []) o)
ensures_decided system entry exit None = (λ is. absurd (let clash : false ≡ true = is in cc), λ h. absurd h)
ensures_decided system entry exit (Some e) = not_decided (is_true system (record exit { at_entry = Some entry }) e)
