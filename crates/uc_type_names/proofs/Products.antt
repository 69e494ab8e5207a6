-- The turns of a loop over the operators of a product.
use Rattle.std.proofs.Common.{◌≡◌, ℕ, ◌+◌, ◌<◌, ◌≤◌, Bool, true, false, List, [], ◌∷◌, ◌++◌, length, drop, get_or, Option, Some, None, refl, ap, ◌∙◌, sym}
use Rattle.std.specs.Prelude.{slice_get, ◌&&◌, ◌||◌, not}
use Rattle.std.proofs.lemmas.List.{drop_all}
use Rattle.uc_lexer.specs.declared.place.Place.{Place}
use Rattle.uc_values.specs.declared.ty.Ty.{Ty}
use Rattle.uc_rules.specs.declared.fault.Fault.{Fault}
use Rattle.uc_rules.specs.declared.rows.Chain.TheVariants.{Number}
use Rattle.uc_rules.specs.Expressions.{product_faults, product_type, times}
use Rattle.uc_rules.specs.Faults.{first_of}
use Rattle.uc_rules.specs.Outcomes.{type_in, faults_in}
use Rattle.uc_rules.specs.Rows.{pair}
use Rattle.uc_rules.proofs.Chains.{first_of_append}
use Rattle.uc_rules.proofs.Lists.{drop_turn, drop_at, drop_past}

-- Before turn k, the rest gives what the whole gives.
pub record ProductFrom (found : Bool) (start : Option Ty) (marks : List Place) (types : List (Option Ty)) (plains : List Bool) (old : Option Fault) (k : ℕ) (now : Bool) (t : Option Ty) (first : Option Fault) : Type 0 where
  pub type : product_type now t (drop k marks) (drop k types) (drop k plains) ≡ product_type found start marks types plains
  pub faults : first_of first (product_faults now t (drop k marks) (drop k types) (drop k plains)) ≡ first_of old (product_faults found start marks types plains)

turn_type : (now : Bool) (t : Option Ty) (m : Place) (ms : List Place) (u : Option Ty) (us : List (Option Ty)) (p : Bool) (ps : List Bool) →
    product_type now t (m ∷ ms) (u ∷ us) (p ∷ ps) ≡ product_type (now || not p) (type_in (times (now && not p) (pair Number t u))) ms us ps
unfolding product_type
turn_type now t m ms u us p ps = refl

turn_faults : (now : Bool) (t : Option Ty) (m : Place) (ms : List Place) (u : Option Ty) (us : List (Option Ty)) (p : Bool) (ps : List Bool) →
    product_faults now t (m ∷ ms) (u ∷ us) (p ∷ ps)
    ≡ faults_in m (times (now && not p) (pair Number t u)) ++ product_faults (now || not p) (type_in (times (now && not p) (pair Number t u))) ms us ps
unfolding product_faults
turn_faults now t m ms u us p ps = refl

no_marks_type : (now : Bool) (t : Option Ty) (us : List (Option Ty)) (ps : List Bool) → product_type now t [] us ps ≡ t
unfolding product_type
no_marks_type now t us ps = refl

no_marks_faults : (now : Bool) (t : Option Ty) (us : List (Option Ty)) (ps : List Bool) → product_faults now t [] us ps ≡ []
unfolding product_faults
no_marks_faults now t us ps = refl

no_types_type : (now : Bool) (t : Option Ty) (ms : List Place) (ps : List Bool) → product_type now t ms [] ps ≡ t
unfolding product_type
no_types_type now t [] ps = refl
no_types_type now t (m ∷ ms) ps = refl

no_types_faults : (now : Bool) (t : Option Ty) (ms : List Place) (ps : List Bool) → product_faults now t ms [] ps ≡ []
unfolding product_faults
no_types_faults now t [] ps = refl
no_types_faults now t (m ∷ ms) ps = refl

no_plains_type : (now : Bool) (t : Option Ty) (ms : List Place) (us : List (Option Ty)) → product_type now t ms us [] ≡ t
unfolding product_type
no_plains_type now t [] us = refl
no_plains_type now t (m ∷ ms) [] = refl
no_plains_type now t (m ∷ ms) (u ∷ us) = refl

no_plains_faults : (now : Bool) (t : Option Ty) (ms : List Place) (us : List (Option Ty)) → product_faults now t ms us [] ≡ []
unfolding product_faults
no_plains_faults now t [] us = refl
no_plains_faults now t (m ∷ ms) [] = refl
no_plains_faults now t (m ∷ ms) (u ∷ us) = refl

module _ (found : Bool) (start : Option Ty) (marks : List Place) (types : List (Option Ty)) (plains : List Bool) (old : Option Fault) where
  pub product_begin : ProductFrom found start marks types plains old 0 found start old
  product_begin = record { type = refl; faults = refl }

  module _ (k : ℕ) (now : Bool) (t : Option Ty) (first : Option Fault) (before : ProductFrom found start marks types plains old k now t first) where
    pub product_more : (m d : Place) (u : Option Ty) (p second next : Bool) (t' : Option Ty) (first' : Option Fault) → k < length marks → m ≡ get_or marks k d → slice_get types k ≡ Some u → slice_get plains k ≡ Some p → second ≡ (now && not p) →
        next ≡ (now || not p) → t' ≡ type_in (times second (pair Number t u)) → first' ≡ first_of first (faults_in m (times second (pair Number t u))) →
        ProductFrom found start marks types plains old (k + 1) next t' first'
    product_more m d u p second next t' first' within is has plain second-is next-is type-is first-is = record {
      type =
          ap (λ b. product_type b t' ms us ps) next-is
          ∙ ap (λ x. product_type (now || not p) x ms us ps) (type-is ∙ ap (λ b. type_in (times b (pair Number t u))) second-is)
          ∙ sym (turn_type now t m ms u us p ps)
          ∙ sym (ap (λ xs. product_type now t xs (u ∷ us) (p ∷ ps)) (drop_turn marks k m d within is))
          ∙ sym (ap (λ xs. product_type now t (drop k marks) xs (p ∷ ps)) (drop_at types k u has))
          ∙ sym (ap (λ xs. product_type now t (drop k marks) (drop k types) xs) (drop_at plains k p plain))
          ∙ before.type;
      faults =
          ap (λ b. first_of first' (product_faults b t' ms us ps)) next-is
          ∙ ap (λ x. first_of first' (product_faults (now || not p) x ms us ps)) (type-is ∙ ap (λ b. type_in (times b (pair Number t u))) second-is)
          ∙ ap (λ o. first_of o (product_faults (now || not p) (type_in (times (now && not p) (pair Number t u))) ms us ps)) (first-is ∙ ap (λ b. first_of first (faults_in m (times b (pair Number t u)))) second-is)
          ∙ sym (first_of_append first (faults_in m (times (now && not p) (pair Number t u))) (product_faults (now || not p) (type_in (times (now && not p) (pair Number t u))) ms us ps))
          ∙ sym (ap (first_of first) (turn_faults now t m ms u us p ps))
          ∙ sym (ap (λ xs. first_of first (product_faults now t xs (u ∷ us) (p ∷ ps))) (drop_turn marks k m d within is))
          ∙ sym (ap (λ xs. first_of first (product_faults now t (drop k marks) xs (p ∷ ps))) (drop_at types k u has))
          ∙ sym (ap (λ xs. first_of first (product_faults now t (drop k marks) (drop k types) xs)) (drop_at plains k p plain))
          ∙ before.faults;
    }
      where
        ms : List Place
        ms = drop (k + 1) marks

        us : List (Option Ty)
        us = drop (k + 1) types

        ps : List Bool
        ps = drop (k + 1) plains

    pub past_types_type : slice_get types k ≡ None → t ≡ product_type found start marks types plains
    past_types_type has = sym (no_types_type now t (drop k marks) (drop k plains)) ∙ sym (ap (λ xs. product_type now t (drop k marks) xs (drop k plains)) (drop_past types k has)) ∙ before.type

    pub past_types_faults : slice_get types k ≡ None → first ≡ first_of old (product_faults found start marks types plains)
    unfolding first_of
    past_types_faults has =
        sym (ap (first_of first) (no_types_faults now t (drop k marks) (drop k plains)))
        ∙ sym (ap (λ xs. first_of first (product_faults now t (drop k marks) xs (drop k plains))) (drop_past types k has))
        ∙ before.faults

    pub past_plains_type : slice_get plains k ≡ None → t ≡ product_type found start marks types plains
    past_plains_type has = sym (no_plains_type now t (drop k marks) (drop k types)) ∙ sym (ap (λ xs. product_type now t (drop k marks) (drop k types) xs) (drop_past plains k has)) ∙ before.type

    pub past_plains_faults : slice_get plains k ≡ None → first ≡ first_of old (product_faults found start marks types plains)
    unfolding first_of
    past_plains_faults has =
        sym (ap (first_of first) (no_plains_faults now t (drop k marks) (drop k types)))
        ∙ sym (ap (λ xs. first_of first (product_faults now t (drop k marks) (drop k types) xs)) (drop_past plains k has))
        ∙ before.faults

    pub end_type : length marks ≤ k → t ≡ product_type found start marks types plains
    end_type past = sym (no_marks_type now t (drop k types) (drop k plains)) ∙ sym (ap (λ xs. product_type now t xs (drop k types) (drop k plains)) (drop_all k marks past)) ∙ before.type

    pub end_faults : length marks ≤ k → first ≡ first_of old (product_faults found start marks types plains)
    unfolding first_of
    end_faults past =
        sym (ap (first_of first) (no_marks_faults now t (drop k types) (drop k plains)))
        ∙ sym (ap (λ xs. first_of first (product_faults now t xs (drop k types) (drop k plains))) (drop_all k marks past))
        ∙ before.faults
