-- An expression has its value where cells of the new state that it does not read have other values.
use Rattle.std.proofs.Common.{◌≡◌, ℕ, ◌+◌, ◌-◌, ◌<◌, ◌≤◌, List, [], ◌∷◌, ◌++◌, map, length, refl, sym, ap, ◌∙◌, subst, true, false, Bool, zero, suc, arith}
use Rattle.std.specs.Prelude.{nat_lt, if◌then◌else◌}
use Rattle.std.specs.List.{flat_map}
use Rattle.std.proofs.lemmas.Bool.Decides.{nat_tests}
use Rattle.uc_values.specs.declared.ty.Ty.{Ty}
use Rattle.uc_values.specs.declared.value.Value.{Value}
use Rattle.uc_values.specs.Values.{TypedValue}
use Rattle.uc_ops.specs.declared.model.Model.{Model}
use Rattle.uc_ops.specs.Typing.{part_type, type_of as result_type}
use Rattle.uc_ops.specs.Meaning.{part, apply}
use Rattle.uc_flat.specs.declared.expression.Expression.{Expression}
use Rattle.uc_flat.specs.declared.expression.Expression.TheOpen.{Expression-F}
use Rattle.uc_flat.specs.declared.expression.Expression.TheOpen.Expression-F.{Cell as CellForm, Apply as ApplyForm}
use Rattle.uc_flat.specs.declared.expression.Expression.TheViews.{roll-Expression}
use Rattle.uc_flat.specs.declared.expression.Expression.TheVariants.{rolls-Cell, rolls-Apply}
use Rattle.uc_flat.specs.declared.expression.Expression.TheFolds.{ind-Expression, map-Expression}
use Rattle.uc_flat.specs.Reading.{read, value_of}
use Rattle.uc_flat.proofs.Forms.{read_cell, read_apply}
use Rattle.uc_flat_code.specs.declared.once.Part.{Part}
use Rattle.uc_flat_code.specs.Once.{new_cell, new_cells}
use Rattle.uc_flat_code.proofs.NewCells.{new_cells_cell, new_cells_apply}
use Rattle.uc_flat_design.proofs.Effects.{IsSub, Holds, holds_own, sub_left, sub_right}
use Rattle.uc_flat_design.proofs.Halves.{part_behind}
use Rattle.uc_flat_design.proofs.Settled.{at_fields}

-- two lists have the same values for the cells that these parts hold
abbrev pub Agree : List Part → List Value → List Value → Type 0
Agree ps v w = (k : ℕ) → Holds ps (at_fields k []) → part v k ≡ part w k

pub agree_less : (ps qs : List Part) (v w : List Value) → IsSub ps qs → Agree qs v w → Agree ps v w
agree_less ps qs v w f g k h = g k (λ p e. f p (h p e))

part_front : (xs ys : List Value) (k : ℕ) → k < length xs → part (xs ++ ys) k ≡ part xs k
part_front [] ys k l = absurd (omega (arith, l))
part_front (x ∷ xs) ys zero l = refl
part_front (x ∷ xs) ys (suc k) l = part_front xs ys k (omega (arith, l))

abbrev types_in : List TypedValue → List Ty
types_in vs = map (λ (v : TypedValue). v.ty) vs

abbrev values_in : List TypedValue → List Value
values_in vs = map (λ (v : TypedValue). v.value) vs

below : (k n : ℕ) → nat_lt k n ≡ true → k < n
below k n h = grind (arith, nat_tests)

not_below : (k n : ℕ) → nat_lt k n ≡ false → n ≤ k
not_below k n h = grind (arith, nat_tests)

module _ (m : Model) (types : List Ty) (old v w : List Value) (n : ℕ) (even : n ≡ length old) where
  abbrev Same : Expression → Type 0
  Same e = Agree (new_cells n e) v w → read m types (old ++ v) e ≡ read m types (old ++ w) e

  abbrev Proved : Type 0
  Proved = (e : Expression) × Same e

  at_cell : (k : ℕ) → Agree (new_cell n k) v w → part (old ++ v) k ≡ part (old ++ w) k
  at_cell k h = by_test (nat_lt k n) refl h
    where
      by_test : (b : Bool) → nat_lt k n ≡ b → Agree (if b then [] else record { cell = k - n; fields = [] } ∷ []) v w → part (old ++ v) k ≡ part (old ++ w) k
      by_test true e g = let l : k < length old = omega (arith, below k n e, even) in part_front old v k l ∙ sym (part_front old w k l)
      by_test false e g =
          let is : k ≡ k - n + n = omega (arith, not_below k n e) in
          ap (part (old ++ v)) is ∙ part_behind old v (k - n) n even ∙ g (k - n) (holds_own (at_fields (k - n) []) []) ∙ sym (part_behind old w (k - n) n even) ∙ ap (part (old ++ w)) (sym is)

  same_parts : (ps : List Proved) → Agree (flat_map (new_cells n) (map (λ p. p.0) ps)) v w → map (read m types (old ++ v)) (map (λ p. p.0) ps) ≡ map (read m types (old ++ w)) (map (λ p. p.0) ps)
  same_parts [] h = refl
  same_parts (p ∷ ps) h =
      let xs = map (λ (q : Proved). q.0) ps in
      let first = agree_less (new_cells n p.0) (new_cells n p.0 ++ flat_map (new_cells n) xs) v w (sub_left (new_cells n p.0) (flat_map (new_cells n) xs)) h in
      let rest = agree_less (flat_map (new_cells n) xs) (new_cells n p.0 ++ flat_map (new_cells n) xs) v w (sub_right (new_cells n p.0) (flat_map (new_cells n) xs)) h in
      ap (λ x. x ∷ map (read m types (old ++ v)) xs) (p.1 first) ∙ ap (λ ys. read m types (old ++ w) p.0 ∷ ys) (same_parts ps rest)

  same_cases : (y : Expression-F Proved) → Same (roll-Expression (map-Expression Proved Expression (λ p. p.0) y))
  same_cases (CellForm k) =
      subst Same (sym (rolls-Cell k))
      (λ h. read_cell m types (old ++ v) k ∙ ap (λ x. record { ty = part_type types k; value = x }) (at_cell k (subst (λ ps. Agree ps v w) (new_cells_cell n k) h)) ∙ sym (read_cell m types (old ++ w) k))
  same_cases (ApplyForm op ps) =
      let xs = map (λ (p : Proved). p.0) ps in
      subst Same (sym (rolls-Apply op xs))
      (λ h.
      read_apply m types (old ++ v) op xs
      ∙ ap (λ (vs : List TypedValue). record { ty = result_type op (types_in vs); value = apply m op (types_in vs) (values_in vs) }) (same_parts ps (subst (λ qs. Agree qs v w) (new_cells_apply n op xs) h))
      ∙ sym (read_apply m types (old ++ w) op xs))

  same_read : (e : Expression) → Same e
  same_read = ind-Expression Same (λ x y is. subst (λ z. Same (roll-Expression z)) is (same_cases y))

  -- where both lists have the same new values for the cells that it reads there
  pub alike : (e : Expression) → Agree (new_cells n e) v w → value_of m types (old ++ v) e ≡ value_of m types (old ++ w) e
  alike e h = ap (λ (x : TypedValue). x.value) (same_read e h)
