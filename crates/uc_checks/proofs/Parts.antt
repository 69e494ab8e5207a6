-- The fields of a target before its first index, and what is met behind them.
use Rattle.std.proofs.Common.{◌≡◌, ℕ, ◌+◌, ◌<◌, ◌≤◌, List, [], ◌∷◌, ◌++◌, length, drop, get_or, refl, ap, ◌∙◌, sym, append_assoc}
use Rattle.std.proofs.lemmas.List.{append-nil, drop_all}
use Rattle.uc_lexer.specs.declared.place.Place.{Place}
use Rattle.uc_syntax.specs.declared.place.Identifier.{Identifier}
use Rattle.uc_syntax.specs.declared.expression.Expr.{Expr}
use Rattle.uc_syntax.specs.declared.statement.TargetPart.{TargetPart}
use Rattle.uc_syntax.specs.declared.statement.TargetPart.TheVariants.{Field, Element}
use Rattle.uc_meaning.specs.declared.scope.Scope.{Scope}
use Rattle.uc_meaning.specs.Lookup.{System}
use Rattle.uc_meaning.specs.Expressions.{Reading, field_reading}
use Rattle.uc_meaning.specs.Steps.{fields_before, from_index, part_reading}
use Rattle.uc_meaning.proofs.Lists.{drop_turn}
use Rattle.uc_runs.specs.Targets.{parts_met}

module _ (parts : List TargetPart) (k : ℕ) (so_far : List ℕ) (before : so_far ++ fields_before (drop k parts) ≡ fields_before parts) where
  module _ (p : TargetPart) (within : k < length parts) (is : p ≡ get_or parts k p) where
    pub field_more : (place : Place) (f : Identifier) (next : List ℕ) → p ≡ Field place f → next ≡ so_far ++ f.name ∷ [] → next ++ fields_before (drop (k + 1) parts) ≡ fields_before parts
    unfolding fields_before
    field_more place f next here pushed =
        ap (λ fs. fs ++ fields_before (drop (k + 1) parts)) pushed
        ∙ append_assoc so_far (f.name ∷ []) (fields_before (drop (k + 1) parts))
        ∙ ap (λ q. so_far ++ fields_before (q ∷ drop (k + 1) parts)) (sym here)
        ∙ ap (λ qs. so_far ++ fields_before qs) (sym (drop_turn parts k p within is))
        ∙ before

    pub index_ends : (place : Place) (e : Expr) → p ≡ Element place e → so_far ≡ fields_before parts
    unfolding fields_before
    index_ends place e here =
        sym (append-nil so_far)
        ∙ ap (λ q. so_far ++ fields_before (q ∷ drop (k + 1) parts)) (sym here)
        ∙ ap (λ qs. so_far ++ fields_before qs) (sym (drop_turn parts k p within is))
        ∙ before

  pub fields_end : length parts ≤ k → so_far ≡ fields_before parts
  unfolding fields_before
  fields_end past = sym (append-nil so_far) ∙ ap (λ qs. so_far ++ fields_before qs) (sym (drop_all k parts past)) ∙ before

-- the fields that are left lead where all of them do
module _ (whole : Reading) (fields : List ℕ) (k : ℕ) (here : Reading) (before : part_reading here (drop k fields) ≡ part_reading whole fields) where
  pub part_more : (f : ℕ) (next : Reading) → k < length fields → f ≡ get_or fields k f → next ≡ field_reading here f → part_reading next (drop (k + 1) fields) ≡ part_reading whole fields
  unfolding part_reading
  part_more f next within is step = ap (λ r. part_reading r (drop (k + 1) fields)) step ∙ ap (part_reading here) (sym (drop_turn fields k f within is)) ∙ before

  pub part_end : length fields ≤ k → here ≡ part_reading whole fields
  unfolding part_reading
  part_end past = ap (part_reading here) (sym (drop_all k fields past)) ∙ before

-- no index stands before the first one
pub met_from_index : (system : System) (s : Scope) (parts : List TargetPart) → parts_met system s (from_index parts) ≡ parts_met system s parts
unfolding from_index
met_from_index system s [] = refl
met_from_index system s (Field place f ∷ parts) = met_from_index system s parts
met_from_index system s (Element place e ∷ parts) = refl

-- nothing follows where there are no parts
pub nothing_from : (parts : List TargetPart) → parts ≡ [] → from_index parts ≡ []
unfolding from_index
nothing_from parts none = ap from_index none
