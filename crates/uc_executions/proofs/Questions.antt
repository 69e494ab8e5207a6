-- Questions that are asked one after another.
use Rattle.std.proofs.Common.{◌≡◌, ℕ, ◌+◌, ◌<◌, ◌≤◌, List, [], ◌∷◌, map, length, drop, get_or, None, Bool, true, false, ◌&&◌, refl, ap, ◌∙◌, sym, subst}
use Rattle.std.specs.Prelude.{if◌then◌else◌, Result, Ok, Err, IfOk}
use Rattle.std.specs.Bool.{Decides}
use Rattle.std.specs.List.{All}
use Rattle.std.proofs.lemmas.List.{drop_all, drop_more}
use Rattle.std.proofs.lemmas.List.Elements.{All-nil, All-cons, All-head, All-tail}
use Rattle.uc_operators.specs.declared.error.EvalError.{EvalError}
use Rattle.uc_operators.specs.Overflows.{first_wide, TellsWide}
use Rattle.uc_evaluator.proofs.Told.{none_first, none_both, told_first}
use Rattle.uc_executions.specs.Asked.{Asked, nothing_asked, then_ask, ask_each}

-- ---- two questions

module _ (a b : Asked) where
  first_no : a.holds ≡ false → false ≡ (then_ask a b).holds
  first_no fails = ap (λ h. h && b.holds) (sym fails)

  first_no_met : a.holds ≡ false → first_wide a.met ≡ None → first_wide (then_ask a b).met ≡ None
  first_no_met fails fine = none_both a.met (if a.holds then b.met else []) fine (ap (λ h. first_wide (if h then b.met else [])) fails)

  first_yes : a.holds ≡ true → (then_ask a b).holds ≡ b.holds
  first_yes passes = ap (λ h. h && b.holds) passes

  first_yes_met : a.holds ≡ true → first_wide a.met ≡ None → first_wide (then_ask a b).met ≡ first_wide b.met
  first_yes_met passes fine = none_first a.met (if a.holds then b.met else []) fine ∙ ap (λ h. first_wide (if h then b.met else [])) passes

-- ---- one for each element of a list

-- Before turn k all were answered by yes, and none met a wide operation.
pub record LeftFrom {A : Type 0} (f : A → Asked) (xs : List A) (k : ℕ) : Type 0 where
  pub holds : (ask_each f (drop k xs)).holds ≡ (ask_each f xs).holds
  pub wide : first_wide (ask_each f (drop k xs)).met ≡ first_wide (ask_each f xs).met

pub ask_begin : {A : Type 0} (f : A → Asked) (xs : List A) → LeftFrom f xs 0
ask_begin f xs = record { holds = refl; wide = refl }

module _ {A : Type 0} (f : A → Asked) where
  next_asked : (x : A) (xs : List A) → ask_each f (x ∷ xs) ≡ then_ask (f x) (ask_each f xs)
  unfolding ask_each
  next_asked x xs = refl

  none_asked : ask_each f [] ≡ nothing_asked
  unfolding ask_each
  none_asked = refl

  module _ (xs : List A) (k : ℕ) (before : LeftFrom f xs k) where
    pub ask_end : length xs ≤ k → true ≡ (ask_each f xs).holds
    ask_end past = sym (ap (λ a. a.holds) (ap (ask_each f) (drop_all k xs past) ∙ none_asked)) ∙ before.holds

    pub ask_end_met : length xs ≤ k → first_wide (ask_each f xs).met ≡ None
    ask_end_met past = sym before.wide ∙ ap (λ a. first_wide a.met) (ap (ask_each f) (drop_all k xs past) ∙ none_asked)

    module _ (x d : A) (within : k < length xs) (is : x ≡ get_or xs k d) where
      turn : ask_each f (drop k xs) ≡ then_ask (f x) (ask_each f (drop (k + 1) xs))
      turn = ap (ask_each f) (drop_more xs k d within ∙ ap (λ y. y ∷ drop (k + 1) xs) (sym is)) ∙ next_asked x (drop (k + 1) xs)

      pub ask_told : (X Y : Type 0) (error : EvalError) → TellsWide {A = X} (first_wide (f x).met) (Err error) → TellsWide {A = Y} (first_wide (ask_each f xs).met) (Err error)
      ask_told X Y error told =
          subst (λ o. TellsWide {A = Y} o (Err error)) (sym (ap (λ a. first_wide a.met) turn) ∙ before.wide)
          (told_first X Y (f x).met (if (f x).holds then (ask_each f (drop (k + 1) xs)).met else []) error told)

      module _ (b : Bool) (answer : b ≡ (f x).holds) (fine : first_wide (f x).met ≡ None) where
        pub ask_more : b ≡ true → LeftFrom f xs (k + 1)
        ask_more passes =
            let so : (f x).holds ≡ true = sym answer ∙ passes in
            record {
              holds = sym (ap (λ a. a.holds) turn ∙ first_yes (f x) (ask_each f (drop (k + 1) xs)) so) ∙ before.holds;
              wide = sym (ap (λ a. first_wide a.met) turn ∙ first_yes_met (f x) (ask_each f (drop (k + 1) xs)) so fine) ∙ before.wide;
            }

        pub ask_no : b ≡ false → false ≡ (ask_each f xs).holds
        ask_no fails = first_no (f x) (ask_each f (drop (k + 1) xs)) (sym answer ∙ fails) ∙ sym (ap (λ a. a.holds) turn) ∙ before.holds

        pub ask_no_met : b ≡ false → first_wide (ask_each f xs).met ≡ None
        ask_no_met fails = sym before.wide ∙ ap (λ a. first_wide a.met) turn ∙ first_no_met (f x) (ask_each f (drop (k + 1) xs)) (sym answer ∙ fails) fine

pub ask_map : {A B : Type 0} (f : B → Asked) (g : A → B) (xs : List A) → ask_each (λ x. f (g x)) xs ≡ ask_each f (map g xs)
unfolding ask_each
ask_map f g [] = refl
ask_map f g (x ∷ xs) = ap (then_ask (f (g x))) (ask_map f g xs)

-- ---- what the answers decide

both : {P Q R : Type 0} (a b : Bool) → Decides a P → Decides b Q → (P → Q → R) → (R → P) → (R → Q) → Decides (a && b) R
both true b first second join left right = (λ is. join (first.0 refl) (second.0 is), λ h. second.1 (right h))
both false b first second join left right = (λ is. absurd (let clash : false ≡ true = is in cc), λ h. first.1 (left h))

pub decides_each : {A : Type 0} (f : A → Asked) (P : A → Type 0) → ((x : A) → Decides (f x).holds (P x)) → (xs : List A) → Decides (ask_each f xs).holds (All P xs)
unfolding ask_each
decides_each f P each [] = (λ is. All-nil P, λ h. refl)
decides_each f P each (x ∷ xs) =
    both (f x).holds (ask_each f xs).holds (each x) (decides_each f P each xs) (All-cons P x xs) (All-head P x xs) (All-tail P x xs)

-- an answer that is a decided one
pub decided_as : {P E : Type 0} (x : Bool) (r : Result Bool E) → Decides x P → IfOk r (λ b. b ≡ x) → IfOk r (λ b. Decides b P)
decided_as {P} x (Ok b) decided is = subst (λ c. Decides c P) (sym is) decided
decided_as x (Err e) decided is = is

pub gives : {E : Type 0} {x y : Bool} (r : Result Bool E) → x ≡ y → IfOk r (λ b. b ≡ x) → IfOk r (λ b. b ≡ y)
gives {E} {x} {y} r same is = subst (λ z. IfOk r (λ b. b ≡ z)) same is
