-- The first fault of several lists, and the turns of a chain.
use Rattle.std.proofs.Common.{◌≡◌, ℕ, ◌+◌, ◌<◌, ◌≤◌, List, [], ◌∷◌, ◌++◌, length, drop, get_or, Option, Some, None, refl, ap, ◌∙◌, sym}
use Rattle.std.specs.Prelude.{slice_get}
use Rattle.std.proofs.lemmas.List.{drop_all}
use Rattle.uc_lexer.specs.declared.place.Place.{Place}
use Rattle.uc_values.specs.declared.ty.Ty.{Ty}
use Rattle.uc_rules.specs.declared.fault.Fault.{Fault}
use Rattle.uc_rules.specs.declared.rows.Chain.{Chain}
use Rattle.uc_rules.specs.Faults.{first_of, earlier}
use Rattle.uc_rules.specs.Rows.{pair, chain_type, chain_faults}
use Rattle.uc_rules.specs.Outcomes.{type_in, faults_in}
use Rattle.uc_rules.proofs.Lists.{drop_turn, drop_at, drop_past}

pub first_of_append : (o : Option Fault) (xs ys : List Fault) → first_of o (xs ++ ys) ≡ first_of (first_of o xs) ys
unfolding first_of
first_of_append o [] ys = refl
first_of_append o (x ∷ xs) ys = first_of_append (earlier o x) xs ys

-- Before turn k of a loop over the operators, the rest from this type on gives what the whole gives.
pub record ChainFrom (chain : Chain) (start : Option Ty) (marks : List Place) (types : List (Option Ty)) (old : Option Fault) (k : ℕ) (t : Option Ty) (first : Option Fault) : Type 0 where
  pub type : chain_type chain t (drop k marks) (drop k types) ≡ chain_type chain start marks types
  pub faults : first_of first (chain_faults chain t (drop k marks) (drop k types)) ≡ first_of old (chain_faults chain start marks types)

module _ (chain : Chain) (start : Option Ty) (marks : List Place) (types : List (Option Ty)) (old : Option Fault) where
  pub chain_begin : ChainFrom chain start marks types old 0 start old
  chain_begin = record { type = refl; faults = refl }

  turn_type : (t : Option Ty) (m : Place) (ms : List Place) (u : Option Ty) (us : List (Option Ty)) → chain_type chain t (m ∷ ms) (u ∷ us) ≡ chain_type chain (type_in (pair chain t u)) ms us
  unfolding chain_type
  turn_type t m ms u us = refl

  turn_faults : (t : Option Ty) (m : Place) (ms : List Place) (u : Option Ty) (us : List (Option Ty)) →
      chain_faults chain t (m ∷ ms) (u ∷ us) ≡ faults_in m (pair chain t u) ++ chain_faults chain (type_in (pair chain t u)) ms us
  unfolding chain_faults
  turn_faults t m ms u us = refl

  pub chain_more : (k : ℕ) (t : Option Ty) (first : Option Fault) (m d : Place) (u : Option Ty) (t' : Option Ty) (first' : Option Fault) →
      ChainFrom chain start marks types old k t first → k < length marks → m ≡ get_or marks k d → slice_get types k ≡ Some u →
      t' ≡ type_in (pair chain t u) → first' ≡ first_of first (faults_in m (pair chain t u)) →
      ChainFrom chain start marks types old (k + 1) t' first'
  chain_more k t first m d u t' first' before within is has type-is first-is = record {
    type =
        ap (λ x. chain_type chain x (drop (k + 1) marks) (drop (k + 1) types)) type-is
        ∙ sym (turn_type t m (drop (k + 1) marks) u (drop (k + 1) types))
        ∙ sym (ap (λ ms. chain_type chain t ms (u ∷ drop (k + 1) types)) (drop_turn marks k m d within is))
        ∙ sym (ap (λ us. chain_type chain t (drop k marks) us) (drop_at types k u has))
        ∙ before.type;
    faults =
        ap (λ x. first_of first' (chain_faults chain x (drop (k + 1) marks) (drop (k + 1) types))) type-is
        ∙ ap (λ o. first_of o (chain_faults chain (type_in (pair chain t u)) (drop (k + 1) marks) (drop (k + 1) types))) first-is
        ∙ sym (first_of_append first (faults_in m (pair chain t u)) (chain_faults chain (type_in (pair chain t u)) (drop (k + 1) marks) (drop (k + 1) types)))
        ∙ sym (ap (first_of first) (turn_faults t m (drop (k + 1) marks) u (drop (k + 1) types)))
        ∙ sym (ap (λ ms. first_of first (chain_faults chain t ms (u ∷ drop (k + 1) types))) (drop_turn marks k m d within is))
        ∙ sym (ap (λ us. first_of first (chain_faults chain t (drop k marks) us)) (drop_at types k u has))
        ∙ before.faults;
  }

  none_type : (t : Option Ty) (ms : List Place) → chain_type chain t ms [] ≡ t
  unfolding chain_type
  none_type t [] = refl
  none_type t (m ∷ ms) = refl

  none_faults : (t : Option Ty) (ms : List Place) → chain_faults chain t ms [] ≡ []
  unfolding chain_faults
  none_faults t [] = refl
  none_faults t (m ∷ ms) = refl

  end_type : (t : Option Ty) (us : List (Option Ty)) → chain_type chain t [] us ≡ t
  unfolding chain_type
  end_type t us = refl

  end_faults : (t : Option Ty) (us : List (Option Ty)) → chain_faults chain t [] us ≡ []
  unfolding chain_faults
  end_faults t us = refl

  pub chain_past_type : (k : ℕ) (t : Option Ty) (first : Option Fault) → ChainFrom chain start marks types old k t first → slice_get types k ≡ None → t ≡ chain_type chain start marks types
  chain_past_type k t first before has =
      sym (none_type t (drop k marks)) ∙ sym (ap (chain_type chain t (drop k marks)) (drop_past types k has)) ∙ before.type

  pub chain_past_faults : (k : ℕ) (t : Option Ty) (first : Option Fault) → ChainFrom chain start marks types old k t first → slice_get types k ≡ None → first ≡ first_of old (chain_faults chain start marks types)
  unfolding first_of
  chain_past_faults k t first before has =
      sym (ap (first_of first) (none_faults t (drop k marks))) ∙ sym (ap (λ us. first_of first (chain_faults chain t (drop k marks) us)) (drop_past types k has)) ∙ before.faults

  pub chain_end_type : (k : ℕ) (t : Option Ty) (first : Option Fault) → ChainFrom chain start marks types old k t first → length marks ≤ k → t ≡ chain_type chain start marks types
  chain_end_type k t first before past =
      sym (end_type t (drop k types)) ∙ sym (ap (λ ms. chain_type chain t ms (drop k types)) (drop_all k marks past)) ∙ before.type

  pub chain_end_faults : (k : ℕ) (t : Option Ty) (first : Option Fault) → ChainFrom chain start marks types old k t first → length marks ≤ k → first ≡ first_of old (chain_faults chain start marks types)
  unfolding first_of
  chain_end_faults k t first before past =
      sym (ap (first_of first) (end_faults t (drop k types))) ∙ sym (ap (λ ms. first_of first (chain_faults chain t ms (drop k types))) (drop_all k marks past)) ∙ before.faults
