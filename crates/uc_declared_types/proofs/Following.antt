-- What leads to something in any number of steps does so in as many as there are things from which a step leads.
use Rattle.std.proofs.Common.{◌≡◌, ℕ, zero, suc, ◌≤◌, Bool, true, false, List, [], ◌∷◌, length, refl, ap, sym, ◌∙◌, ⊎_elim}
use Rattle.std.specs.Prelude.{◌||◌}
use Rattle.std.specs.List.{list_any}
use Rattle.uc_rules.specs.Cycles.{leads_to}
use Rattle.uc_declared_types.specs.AliasLaw.{IsAmong}
use Rattle.uc_declared_types.proofs.Rounds.{Rounds, settled}
use Rattle.uc_declared_types.proofs.Along.{any_by, any_same, any_there, either, nothing, or_left, or_right}

module _ {A : Type 0} (steps : A → List A) (test : A → Bool) where
  abbrev round : ℕ → A → Bool
  round n x = leads_to n steps test x

  abbrev at : ℕ → A → Bool
  at n y = test y || leads_to n steps test y

  grows : (n : ℕ) (x : A) → round n x ≡ true → round (suc n) x ≡ true
  unfolding leads_to
  grows zero x h = nothing (sym h)
  grows (suc n) x h =
      let y = any_by (at n) (steps x) h in
      any_there (at (suc n)) (steps x) y.0 y.1
      (⊎_elim (λ here. or_left (test y.0) (round (suc n) y.0) here) (λ later. or_right (test y.0) (round (suc n) y.0) (grows n y.0 later)) (either (test y.0) (round n y.0) y.2))

  begins : (x : A) → round 0 x ≡ false
  unfolding leads_to
  begins x = refl

  stays : (n : ℕ) → ((x : A) → round n x ≡ round (suc n) x) → (x : A) → round (suc n) x ≡ round (suc (suc n)) x
  unfolding leads_to
  stays n same x = any_same (at n) (at (suc n)) (steps x) (λ y. ap (λ b. test y || b) (same y))

  module _ (nodes : List A) (covers : (x y : A) → IsAmong y (steps x) → IsAmong x nodes) where
    within : (n : ℕ) (x : A) → round n x ≡ true → IsAmong x nodes
    unfolding leads_to
    within zero x h = nothing (sym h)
    within (suc n) x h = let y = any_by (at n) (steps x) h in covers x y.0 y.1

    rounds : Rounds round nodes
    rounds = record { begins = begins; grows = grows; within = within; stays = stays }

    pub followed : (count : ℕ) → length nodes ≤ count → (n : ℕ) (x : A) → round n x ≡ true → round count x ≡ true
    unfolding leads_to
    followed count enough zero x h = nothing (sym h)
    followed count enough (suc n) x h =
        let y = any_by (at n) (steps x) h in
        settled round nodes rounds count enough x
        ∙ any_there (at count) (steps x) y.0 y.1
        (⊎_elim (λ here. or_left (test y.0) (round count y.0) here) (λ later. or_right (test y.0) (round count y.0) (followed count enough n y.0 later)) (either (test y.0) (round n y.0) y.2))
