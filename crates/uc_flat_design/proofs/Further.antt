-- Where further cells stand, with the types of what they begin with.
use Rattle.std.proofs.Common.{◌≡◌, ℕ, suc, ◌+◌, List, [], ◌∷◌, ◌++◌, map, length, refl, ap, ◌∙◌, subst, Some, arith, append_assoc}
use Rattle.std.specs.Prelude.{slice_get}
use Rattle.uc_values.specs.declared.ty.Ty.{Ty}
use Rattle.uc_flat.specs.declared.expression.Expression.{Expression}
use Rattle.uc_flat.specs.Reading.{type_of}
use Rattle.uc_flat.proofs.Extending.{slice_get-back}

-- the cells from number k on have the types of these expressions over the first cells
abbrev pub AreCells : List Ty → List Ty → ℕ → List Expression → Type 0
AreCells first types k [] = Unit {0}
AreCells first types k (e ∷ es) = (slice_get types k ≡ Some (type_of first e)) × AreCells first types (k + 1) es

module _ (first types : List Ty) where
  pub cells_before : (k : ℕ) (xs ys : List Expression) → AreCells first types k (xs ++ ys) → AreCells first types k xs
  cells_before k [] ys h = tt
  cells_before k (x ∷ xs) ys h = (h.0, cells_before (k + 1) xs ys h.1)

  pub cells_behind : (k : ℕ) (xs ys : List Expression) → AreCells first types k (xs ++ ys) → AreCells first types (k + length xs) ys
  cells_behind k [] ys h = subst (λ j. AreCells first types j ys) (none k) h
    where
      none : (a : ℕ) → a ≡ a + 0
      none a = omega arith
  cells_behind k (x ∷ xs) ys h = subst (λ j. AreCells first types j ys) (one k (length xs)) (cells_behind (k + 1) xs ys h.1)
    where
      one : (a b : ℕ) → a + 1 + b ≡ a + suc b
      one a b = omega arith

-- further cells stand behind the first ones
pub cells_there : (first front : List Ty) (es : List Expression) → AreCells first (front ++ map (type_of first) es) (length front) es
cells_there first front [] = tt
cells_there first front (e ∷ es) =
    let rest = map (type_of first) es in
    let ty = type_of first e in (
      ap (slice_get (front ++ ty ∷ rest)) (none (length front)) ∙ slice_get-back front (ty ∷ rest) 0,
      subst (λ ts. AreCells first ts (length front + 1) es) (append_assoc front (ty ∷ []) rest)
          (subst (λ k. AreCells first ((front ++ ty ∷ []) ++ rest) k es) (longer front ty) (cells_there first (front ++ ty ∷ []) es)),
    )
  where
    none : (a : ℕ) → a ≡ a + 0
    none a = omega arith

    longer : (ts : List Ty) (t : Ty) → length (ts ++ t ∷ []) ≡ length ts + 1
    longer [] t = refl
    longer (x ∷ ts) t = omega (arith, longer ts t)
