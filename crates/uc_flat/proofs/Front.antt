-- An expression that reads the first cells alone says the same where more cells follow.
use Rattle.std.proofs.Common.{◌≡◌, ℕ, ◌<◌, List, [], ◌∷◌, ◌++◌, map, length, refl, sym, ap, ◌∙◌, subst, arith}
use Rattle.std.specs.Prelude.{Contains}
use Rattle.std.proofs.lemmas.List.{length-append, get_or_append_left}
use Rattle.uc_values.specs.declared.ty.Ty.{Ty}
use Rattle.uc_values.specs.declared.value.Value.{Value}
use Rattle.uc_values.specs.Values.{TypedValue, nothing}
use Rattle.uc_ops.specs.declared.model.Model.{Model}
use Rattle.uc_ops.specs.Typing.{type_or, part_type, type_of as result_type, Suits}
use Rattle.uc_ops.specs.Meaning.{part, apply}
use Rattle.uc_flat.specs.declared.expression.Expression.{Expression}
use Rattle.uc_flat.specs.declared.expression.Expression.TheOpen.{Expression-F}
use Rattle.uc_flat.specs.declared.expression.Expression.TheOpen.Expression-F.{Cell as CellForm, Apply as ApplyForm}
use Rattle.uc_flat.specs.declared.expression.Expression.TheViews.{roll-Expression}
use Rattle.uc_flat.specs.declared.expression.Expression.TheVariants.{Cell, Apply, rolls-Cell, rolls-Apply}
use Rattle.uc_flat.specs.declared.expression.Expression.TheFolds.{ind-Expression, map-Expression}
use Rattle.uc_flat.specs.Reading.{type_of, read}
use Rattle.uc_flat.specs.Fine.{itself, deeper, IsTyped}
use Rattle.uc_flat.proofs.Forms.{read_cell, read_apply, read-typed, types_in, values_in}
use Rattle.uc_flat.proofs.Inside.{contains_first, contains_later, typed_part}
use Rattle.uc_flat.proofs.Extending.{slice_get-front}
use Rattle.uc_flat.specs.Front.{FrontLaw}

module _ (m : Model) (types more : List Ty) (cells values : List Value) (even : length cells ≡ length types) where
  abbrev Same : Expression → Type 0
  Same e = IsTyped types e → read m (types ++ more) (cells ++ values) e ≡ read m types cells e

  abbrev Proved : Type 0
  Proved = (e : Expression) × Same e

  same_parts : (ps : List Proved) → ((x : Expression) → Contains (map (λ p. p.0) ps) x → IsTyped types x)
      → map (read m (types ++ more) (cells ++ values)) (map (λ p. p.0) ps) ≡ map (read m types cells) (map (λ p. p.0) ps)
  same_parts [] h = refl
  same_parts (p ∷ ps) h =
      let rest = map (λ q. q.0) ps in
      ap (λ v. v ∷ map (read m (types ++ more) (cells ++ values)) rest) (p.1 (h p.0 (contains_first p.0 rest)))
      ∙ ap (λ vs. read m types cells p.0 ∷ vs) (same_parts ps (λ x c. h x (contains_later p.0 x rest c)))

  same_cell : (k : ℕ) → k < length types → read m (types ++ more) (cells ++ values) (Cell k) ≡ read m types cells (Cell k)
  same_cell k h =
      read_cell m (types ++ more) (cells ++ values) k
      ∙ ap (λ t. record { ty = t; value = part (cells ++ values) k }) (ap type_or (slice_get-front types more k h))
      ∙ ap (λ v. record { ty = part_type types k; value = v }) (get_or_append_left cells values nothing k (omega (arith, even, h)))
      ∙ sym (read_cell m types cells k)

  same_cases : (y : Expression-F Proved) → Same (roll-Expression (map-Expression Proved Expression (λ p. p.0) y))
  same_cases (CellForm k) = subst Same (sym (rolls-Cell k)) (λ h. same_cell k (h.cells k itself))
  same_cases (ApplyForm op ps) =
      let xs = map (λ p. p.0) ps in
      subst Same (sym (rolls-Apply op xs))
      (λ h.
      let parts = same_parts ps (λ x c. typed_part types (Apply op xs) x (deeper op xs x itself c) h) in
      read_apply m (types ++ more) (cells ++ values) op xs
      ∙ ap (λ (vs : List TypedValue). record { ty = result_type op (types_in vs); value = apply m op (types_in vs) (values_in vs) }) parts
      ∙ sym (read_apply m types cells op xs))

  same_read : (e : Expression) → Same e
  same_read = ind-Expression Same (λ x y is. subst (λ w. Same (roll-Expression w)) is (same_cases y))

  same_type : (e : Expression) → IsTyped types e → type_of (types ++ more) e ≡ type_of types e
  same_type e h = sym (read-typed m (types ++ more) (cells ++ values) e) ∙ ap (λ (v : TypedValue). v.ty) (same_read e h) ∙ read-typed m types cells e

  same_types : (es : List Expression) → ((x : Expression) → Contains es x → IsTyped types x) → map (type_of (types ++ more)) es ≡ map (type_of types) es
  same_types [] h = refl
  same_types (e ∷ es) h =
      ap (λ t. t ∷ map (type_of (types ++ more)) es) (same_type e (h e (contains_first e es)))
      ∙ ap (λ ts. type_of types e ∷ ts) (same_types es (λ x c. h x (contains_later e x es c)))

  still_typed : (e : Expression) → IsTyped types e → IsTyped (types ++ more) e
  still_typed e h = record {
    cells = λ k w. omega (arith, h.cells k w, length-append types more);
    parts = λ op parts w. subst (Suits op) (sym (same_types parts (λ x c. typed_part types e x (deeper op parts x w c) h))) (h.parts op parts w);
  }

pub front_holds : FrontLaw
front_holds m types more cells values e even h = record {
  type = same_type m types more cells values even e h;
  typed = still_typed m types more cells values even e h;
  value = ap (λ (v : TypedValue). v.value) (same_read m types more cells values even e h);
}
