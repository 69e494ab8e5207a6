use Rattle.std.proofs.Common.{◌≡◌, ◌∙◌, ap, subst}
use Rattle.std.specs.Prelude.{Result, Ok, IfOk}
use Rattle.uc_checks.proofs.whole.whole_scope.Goals as goal

-- two values that were put together
both_are : {A B E : Type 0} (pair : A × B) (first x : A) (y : B) (r : Result B E) → (pair.0 ≡ first) × (r ≡ Ok pair.1) → first ≡ x → IfOk r (λ z. z ≡ y) → pair ≡ (x, y)
both_are pair first x y r both is says =
    let second : pair.1 ≡ y = subst (λ q. IfOk q (λ z. z ≡ y)) both.1 says in
    λ i. ((both.0 ∙ is) i, second i)

pub returns : goal.returns
returns c =
    let second = both_are _ _ _ _ _ c.in_ok-held-2.ensures c.in_ok-held.ensures c.copy_state.ensures in
    let third = both_are _ _ _ _ _ c.in_ok-held-3.ensures second c.copy_other.ensures in
    let fourth = both_are _ _ _ _ _ c.in_ok-held-4.ensures third c.copy_other-2.ensures in
    let fifth = both_are _ _ _ _ _ c.in_ok-held-5.ensures fourth c.copy_states.ensures in
    let sixth = both_are _ _ _ _ _ c.in_ok-held-6.ensures fifth c.copy_locals.ensures in
    let seventh = both_are _ _ _ _ _ c.in_ok-held-7.ensures sixth c.copy_interp.ensures in
    ap (λ h. record { path = h.0.0.0.0.0.0; before = h.0.0.0.0.0.1; after = h.0.0.0.0.1; at_entry = h.0.0.0.1; copies = h.0.0.1; locals = h.0.1; interp = h.1 }) seventh
