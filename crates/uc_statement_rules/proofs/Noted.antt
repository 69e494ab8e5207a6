-- The first fault that is noted in the turns of a loop over a list.
use Rattle.std.proofs.Common.{◌≡◌, ℕ, ◌+◌, ◌<◌, ◌≤◌, List, [], ◌∷◌, ◌++◌, length, take, get_or, Option, refl, ap, ◌∙◌, sym}
use Rattle.std.specs.Prelude.{Result, Ok, Err, OnOk}
use Rattle.std.specs.List.{flat_map}
use Rattle.std.proofs.lemmas.List.{take_all}
use Rattle.std.proofs.lemmas.Grind.{flat_map-append}
use Rattle.uc_rules.specs.declared.fault.Fault.{Fault}
use Rattle.uc_rules.specs.Faults.{first_of}
use Rattle.uc_rules.proofs.Chains.{first_of_append}
use Rattle.uc_rules.proofs.Lists.{take_turn}

pub append_nil : {A : Type 0} (xs : List A) → xs ++ [] ≡ xs
append_nil [] = refl
append_nil (x ∷ xs) = ap (λ ys. x ∷ ys) (append_nil xs)

pub noted_none : (o : Option Fault) → o ≡ first_of o []
unfolding first_of
noted_none o = refl

-- faults of two lists, one after the other
pub noted_both : (old mid new : Option Fault) (fs gs : List Fault) → mid ≡ first_of old fs → new ≡ first_of mid gs → new ≡ first_of old (fs ++ gs)
noted_both old mid new fs gs first second = second ∙ ap (λ o. first_of o gs) first ∙ sym (first_of_append old fs gs)

-- the faults of the first k of a list are noted
pub record NotedUpTo {A : Type 0} (f : A → List Fault) (xs : List A) (old : Option Fault) (k : ℕ) (now : Option Fault) : Type 0 where
  pub noted : now ≡ first_of old (flat_map f (take k xs))

pub noted_begin : {A : Type 0} (f : A → List Fault) (xs : List A) (old : Option Fault) → NotedUpTo f xs old 0 old
unfolding first_of
noted_begin f xs old = record { noted = refl }

noted_join : {A : Type 0} (f : A → List Fault) (old : Option Fault) (xs : List A) (x : A) → first_of old (flat_map f (xs ++ x ∷ [])) ≡ first_of (first_of old (flat_map f xs)) (f x)
noted_join f old xs x =
    ap (first_of old) (flat_map-append f xs (x ∷ []) ∙ ap (λ ys. flat_map f xs ++ ys) (append_nil (f x)))
    ∙ first_of_append old (flat_map f xs) (f x)

pub noted_more : {A : Type 0} (f : A → List Fault) (xs : List A) (old : Option Fault) (k : ℕ) (now new : Option Fault) (x d : A) →
    NotedUpTo f xs old k now → k < length xs → x ≡ get_or xs k d → new ≡ first_of now (f x) → NotedUpTo f xs old (k + 1) new
noted_more f xs old k now new x d before within is e = record {
  noted = e ∙ ap (λ o. first_of o (f x)) before.noted ∙ sym (noted_join f old (take k xs) x) ∙ sym (ap (λ ys. first_of old (flat_map f ys)) (take_turn xs k x d within is));
}

pub noted_end : {A : Type 0} (f : A → List Fault) (xs : List A) (old : Option Fault) (k : ℕ) (now : Option Fault) → NotedUpTo f xs old k now → length xs ≤ k → now ≡ first_of old (flat_map f xs)
noted_end f xs old k now before past = before.noted ∙ ap (λ ys. first_of old (flat_map f ys)) (take_all k xs past)

-- what a call says of its success, and what follows from it
pub on_ok : {A E : Type 0} {P Q : Type 0} (r : Result A E) → (P → Q) → OnOk r P → OnOk r Q
on_ok (Ok a) more held = more held
on_ok (Err e) more held = held
