-- A part that is replaced, behind a field or an index.
use Rattle.std.proofs.Common.{◌≡◌, List, [], ◌∷◌, ◌++◌, length, refl, ap, ◌∙◌, sym, arith}
use Rattle.std.specs.Prelude.{slice_set}
use Rattle.uc_lexer.specs.declared.place.Place.{Place}
use Rattle.uc_syntax.specs.declared.place.Identifier.{Identifier}
use Rattle.uc_syntax.specs.declared.expression.Expr.{Expr}
use Rattle.uc_syntax.specs.declared.statement.TargetPart.{TargetPart}
use Rattle.uc_syntax.specs.declared.statement.TargetPart.TheVariants.{Field, Element}
use Rattle.uc_values.specs.declared.value.Value.{Value}
use Rattle.uc_values.specs.declared.value.Value.TheVariants.{rolls-Rec}
use Rattle.uc_values.specs.Values.{parts_of, with_field}
use Rattle.uc_values.specs.Arrays.{at, store}
use Rattle.uc_meaning.specs.declared.scope.Scope.{Scope}
use Rattle.uc_meaning.specs.Lookup.{System}
use Rattle.uc_meaning.specs.Expressions.{Reading, reads, value, fields_of, field_number, field_reading, element_type}
use Rattle.uc_meaning.specs.Overflow.{met}
use Rattle.uc_meaning.specs.Code.{replaced}
use Rattle.uc_runs.specs.Targets.{parts_met}

pub none_left : (parts : List TargetPart) → length parts ≡ 0 → parts ≡ []
none_left [] h = refl
none_left (p ∷ parts) h = absurd (omega (arith, h))

module _ (system : System) (s : Scope) (parts : List TargetPart) where
  pub no_parts : (whole : Reading) (v : Value) → parts ≡ [] → v ≡ replaced system s whole parts v
  unfolding replaced
  no_parts whole v none = ap (λ ps. replaced system s whole ps v) (sym none)

  pub no_parts_met : parts ≡ [] → [] ≡ parts_met system s parts
  no_parts_met none = ap (parts_met system s) (sym none)

  module _ (first : TargetPart) (rest : List TargetPart) (split : parts ≡ first ∷ rest) where
    module _ (place : Place) (f : Identifier) (is : first ≡ Field place f) where
      pub field_replaced : (whole inner : Reading) (part v : Value) → inner ≡ field_reading whole f.name → part ≡ replaced system s inner rest v →
          with_field whole.value (field_number (fields_of whole.type) f.name) part ≡ replaced system s whole parts v
      unfolding replaced
      field_replaced whole inner part v here deeper =
          ap (with_field whole.value (field_number (fields_of whole.type) f.name)) (deeper ∙ ap (λ r. replaced system s r rest v) here)
          ∙ sym (rolls-Rec (slice_set (parts_of whole.value) (field_number (fields_of whole.type) f.name) (replaced system s (field_reading whole f.name) rest v)))
          ∙ ap (λ p. replaced system s whole (p ∷ rest) v) (sym is)
          ∙ ap (λ ps. replaced system s whole ps v) (sym split)

      pub field_met : parts_met system s rest ≡ parts_met system s parts
      field_met = ap (λ p. parts_met system s (p ∷ rest)) (sym is) ∙ ap (parts_met system s) (sym split)

    module _ (place : Place) (e : Expr) (is : first ≡ Element place e) where
      pub element_replaced : (whole inner : Reading) (index part v : Value) → index ≡ value system s e → inner ≡ reads (element_type whole.type) (at whole.value index) → part ≡ replaced system s inner rest v →
          store whole.value index part ≡ replaced system s whole parts v
      unfolding replaced
      element_replaced whole inner index part v at_index here deeper =
          ap (store whole.value index) (deeper ∙ ap (λ r. replaced system s r rest v) here)
          ∙ ap (λ i. store whole.value i (replaced system s (reads (element_type whole.type) (at whole.value i)) rest v)) at_index
          ∙ ap (λ p. replaced system s whole (p ∷ rest) v) (sym is)
          ∙ ap (λ ps. replaced system s whole ps v) (sym split)

      pub element_met : met system s e ++ parts_met system s rest ≡ parts_met system s parts
      element_met = ap (λ p. parts_met system s (p ∷ rest)) (sym is) ∙ ap (parts_met system s) (sym split)
