-- Stretches of code whose happenings don't depend on what was before, and whose faults are the more, the more was before.
use Rattle.std.proofs.Common.{◌≡◌, ℕ, zero, suc, Bool, true, false, List, [], ◌∷◌, ◌++◌, refl, ◌∙◌, sym, subst, inl, inr}
use Rattle.std.specs.Prelude.{◌⊎◌, ◌||◌}
use Rattle.uc_order_rules.specs.Paths.{Stretch, nothing, in_turn, one_of, times}
use Rattle.uc_order_rules.proofs.SameFaults.{Among, among_both}

either_true : (a b : Bool) → (a || b) ≡ true → (a ≡ true) ⊎ (b ≡ true)
either_true true b h = inl refl
either_true false b h = inr h

left_true : (a b : Bool) → a ≡ true → (a || b) ≡ true
left_true true b h = refl
left_true false b h = absurd cc

right_true : (a b : Bool) → b ≡ true → (a || b) ≡ true
right_true true b h = refl
right_true false b h = h

-- `hits before x`: what happened before makes x a fault
module _ {A : Type 0} (hits : List A → A → Bool) (hits_join : (a b : List A) (x : A) → hits (a ++ b) x ≡ (hits a x || hits b x)) where
  -- all that one list hits is hit by another one
  abbrev pub Within : List A → List A → Type 0
  Within a b = (x : A) → hits a x ≡ true → hits b x ≡ true

  pub within_left : (a b : List A) → Within a (a ++ b)
  within_left a b x h = hits_join a b x ∙ left_true (hits a x) (hits b x) h

  pub within_right : (a b : List A) → Within b (a ++ b)
  within_right a b x h = hits_join a b x ∙ right_true (hits a x) (hits b x) h

  pub within_join : (a b c : List A) → Within a c → Within b c → Within (a ++ b) c
  within_join a b c l r x h = elim (either_true (hits a x) (hits b x) (sym (hits_join a b x) ∙ h)) [ inl i ↦ l x i | inr j ↦ r x j ]

  pub within_more : (a b h : List A) → Within a b → Within (a ++ h) (b ++ h)
  within_more a b h w = within_join a h (b ++ h) (λ x i. within_left b h x (w x i)) (within_right b h)

  pub record Tame (s : Stretch A) : Type 0 where
    pub fixed : (a b : List A) → (s a).happens ≡ (s b).happens
    pub grows : (a b : List A) → Within a b → Among (s a).faults (s b).faults

  abbrev pub AllTame : List (Stretch A) → Type 0
  AllTame [] = Unit {0}
  AllTame (s ∷ ss) = Tame s × AllTame ss

  pub tame_nothing : Tame (λ before. nothing)
  tame_nothing = record { fixed = λ a b. refl; grows = λ a b w f h. h }

  turn_fixed : (ss : List (Stretch A)) → AllTame ss → (a b : List A) → (in_turn ss a).happens ≡ (in_turn ss b).happens
  unfolding in_turn
  turn_fixed [] all a b = refl
  turn_fixed (s ∷ ss) all a b = (λ k. all.0.fixed a b k ++ turn_fixed ss all.1 (a ++ (s a).happens) (b ++ (s b).happens) k)

  within_after : (s : Stretch A) → Tame s → (a b : List A) → Within a b → Within (a ++ (s a).happens) (b ++ (s b).happens)
  within_after s t a b w = subst (λ h. Within (a ++ (s a).happens) (b ++ h)) (t.fixed a b) (within_more a b (s a).happens w)

  turn_grows : (ss : List (Stretch A)) → AllTame ss → (a b : List A) → Within a b → Among (in_turn ss a).faults (in_turn ss b).faults
  unfolding in_turn
  turn_grows [] all a b w = λ f h. h
  turn_grows (s ∷ ss) all a b w =
      among_both (s a).faults (in_turn ss (a ++ (s a).happens)).faults (s b).faults (in_turn ss (b ++ (s b).happens)).faults (all.0.grows a b w)
      (turn_grows ss all.1 (a ++ (s a).happens) (b ++ (s b).happens) (within_after s all.0 a b w))

  pub tame_in_turn : (ss : List (Stretch A)) → AllTame ss → Tame (in_turn ss)
  tame_in_turn ss all = record { fixed = turn_fixed ss all; grows = turn_grows ss all }

  one_fixed : (ss : List (Stretch A)) → AllTame ss → (a b : List A) → (one_of ss a).happens ≡ (one_of ss b).happens
  unfolding one_of
  one_fixed [] all a b = refl
  one_fixed (s ∷ ss) all a b = (λ k. all.0.fixed a b k ++ one_fixed ss all.1 a b k)

  one_grows : (ss : List (Stretch A)) → AllTame ss → (a b : List A) → Within a b → Among (one_of ss a).faults (one_of ss b).faults
  unfolding one_of
  one_grows [] all a b w = λ f h. h
  one_grows (s ∷ ss) all a b w =
      among_both (s a).faults (one_of ss a).faults (s b).faults (one_of ss b).faults (all.0.grows a b w) (one_grows ss all.1 a b w)

  pub tame_one_of : (ss : List (Stretch A)) → AllTame ss → Tame (one_of ss)
  tame_one_of ss all = record { fixed = one_fixed ss all; grows = one_grows ss all }

  pub tame_times : (s : Stretch A) → Tame s → (n : ℕ) → AllTame (times n s)
  unfolding times
  tame_times s t zero = tt
  tame_times s t (suc n) = (t, tame_times s t n)

  pub tame_append : (ss ts : List (Stretch A)) → AllTame ss → AllTame ts → AllTame (ss ++ ts)
  tame_append [] ts all more = more
  tame_append (s ∷ ss) ts all more = (all.0, tame_append ss ts all.1 more)
