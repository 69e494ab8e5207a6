-- Tests along lists, and what passes them.
use Rattle.std.proofs.Common.{◌≡◌, Bool, true, false, List, [], ◌∷◌, refl, ap, sym, ◌∙◌, ◌⊎◌, inl, inr, ⊎_elim}
use Rattle.std.specs.Prelude.{◌||◌}
use Rattle.std.specs.List.{list_any}
use Rattle.uc_declared_types.specs.AliasLaw.{IsAmong}

pub nothing : {A : Type 0} → true ≡ false → A
nothing h = cc

pub either : (b c : Bool) → (b || c) ≡ true → (b ≡ true) ⊎ (c ≡ true)
either true c h = inl refl
either false c h = inr h

pub or_left : (b c : Bool) → b ≡ true → (b || c) ≡ true
or_left true c h = refl
or_left false c h = nothing (sym h)

pub or_right : (b c : Bool) → c ≡ true → (b || c) ≡ true
or_right true c h = refl
or_right false c h = h

pub any_by : {A : Type 0} (test : A → Bool) (xs : List A) → list_any test xs ≡ true → (x : A) × IsAmong x xs × (test x ≡ true)
unfolding IsAmong
any_by test [] h = nothing (sym h)
any_by test (x ∷ xs) h = ⊎_elim (λ here. (x, inl refl, here)) (λ later. let r = any_by test xs later in (r.0, inr r.1, r.2)) (either (test x) (list_any test xs) h)

pub any_there : {A : Type 0} (test : A → Bool) (xs : List A) (x : A) → IsAmong x xs → test x ≡ true → list_any test xs ≡ true
unfolding IsAmong
any_there test [] x h t = absurd h
any_there test (y ∷ xs) x h t =
    ⊎_elim (λ is. or_left (test y) (list_any test xs) (ap test (sym is) ∙ t)) (λ later. or_right (test y) (list_any test xs) (any_there test xs x later t)) h

pub any_same : {A : Type 0} (f g : A → Bool) (xs : List A) → ((x : A) → f x ≡ g x) → list_any f xs ≡ list_any g xs
any_same f g [] h = refl
any_same f g (x ∷ xs) h = ap (λ b. b || list_any f xs) (h x) ∙ ap (λ b. g x || b) (any_same f g xs h)
