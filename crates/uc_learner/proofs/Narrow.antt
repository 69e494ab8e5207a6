-- The walk over the clauses without two different literals.
use Rattle.std.proofs.Common.{◌≡◌, ℕ, ◌+◌, ◌<◌, ◌≤◌, Bool, List, [], Option, None, Some, length, get_or, take, refl, sym, ◌∙◌, ap, subst}
use Rattle.std.specs.Prelude.{All, Contains, MatchOption}
use Rattle.std.proofs.lemmas.List.{take_all, get_or_read}
use Rattle.std.proofs.lemmas.List.Elements.{All-more, All-nil, All-weaker, Contains-get_or}
use Rattle.uc_circuit.specs.declared.literal.Lit.{Lit}
use Rattle.uc_rings.specs.declared.watches.Watches.{Watches}
use Rattle.uc_rings.specs.Pairs.{HasTrue}
use Rattle.uc_rings.proofs.Guarding.{true_later}
use Rattle.uc_learner.specs.declared.state.State.{State}
use Rattle.uc_learner.specs.Propagated.{Gone, AreTrue, IsConflict, NarrowEnds}

pub trues_none : (s : State) → AreTrue s []
trues_none s = All-nil (λ c. HasTrue s.values.items (get_or s.clauses.items c []))

trues_later : (s after : State) (xs : List ℕ) → Gone s after → AreTrue s xs → AreTrue after xs
trues_later s after xs gone all =
    All-weaker (λ c. HasTrue s.values.items (get_or s.clauses.items c [])) (λ c. HasTrue after.values.items (get_or after.clauses.items c []))
    (λ c has. subst (λ (cs : List (List Lit)). HasTrue after.values.items (get_or cs c [])) (sym gone.onward.clauses) (true_later s.values.items after.values.items (get_or s.clauses.items c []) gone.below has))
    xs all

-- the number that was read is among them
pub narrow_read : (xs : List ℕ) (place number : ℕ) → place < length xs → number ≡ get_or xs place number → Contains xs number
narrow_read xs place number h is = subst (Contains xs) (sym is) (Contains-get_or xs place number h)

pub trues_more :
    (s after : State) (place number : ℕ)
    → AreTrue s (take place s.watches.narrow.items) → Gone s after → after.watches ≡ s.watches
    → place < length s.watches.narrow.items → number ≡ get_or s.watches.narrow.items place number
    → HasTrue after.values.items (get_or after.clauses.items number [])
    → AreTrue after (take (place + 1) after.watches.narrow.items)
trues_more s after place number all gone watches h is has =
    let P : ℕ → Type 0 = λ c. HasTrue after.values.items (get_or after.clauses.items c []) in
    subst (λ (w : Watches). AreTrue after (take (place + 1) w.narrow.items)) (sym watches)
    (All-more P s.watches.narrow.items place number h (trues_later s after (take place s.watches.narrow.items) gone all) (subst P is has))

pub trues_all : (s : State) (place : ℕ) → AreTrue s (take place s.watches.narrow.items) → length s.watches.narrow.items ≤ place → AreTrue s s.watches.narrow.items
trues_all s place all le = subst (λ (xs : List ℕ). AreTrue s xs) (take_all place s.watches.narrow.items le) all

pub ends_none : (s : State) (r : Option ℕ) → NarrowEnds s r → r ≡ None → AreTrue s s.watches.narrow.items
ends_none s r ends is = subst (λ (o : Option ℕ). MatchOption o (AreTrue s s.watches.narrow.items) (IsConflict s)) is ends

pub none_from : (r : Option ℕ) → ((n : ℕ) → r ≡ Some n → ⊥) → r ≡ None
none_from None none = refl
none_from (Some n) none = absurd (none n refl)
