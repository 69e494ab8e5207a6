-- The bits of terms.
use Rattle.std.specs.Prelude.{ℕ, ◌+◌, ◌≤◌, List, [], ◌∷◌, Option, Some, None, All, Contains}
use Rattle.uc_values.specs.Sizes.{bit_count}
use Rattle.uc_values.specs.declared.ty.Ty.{Ty}
use Rattle.uc_ops.specs.declared.node.Node.{Node}
use Rattle.uc_ops.specs.Typing.{types_at}
use Rattle.uc_terms.specs.Subterms.{IsSubterm}
use Rattle.uc_lower.specs.Lowering.{IsSymbol}

abbrev pub bits_or : Option ℕ → ℕ
bits_or None = 0
bits_or (Some n) = n

-- the bits of types, one after another
abbrev pub type_bits : List Ty → ℕ
type_bits [] = 0
type_bits (ty ∷ tys) = bits_or (bit_count ty) + type_bits tys

-- the bits of terms, one after another
abbrev pub bits_at : List Node → List ℕ → ℕ
bits_at nodes ts = type_bits (types_at nodes ts)

-- no term is listed twice
abbrev pub AreApart : List ℕ → Type 0
AreApart [] = Unit {0}
AreApart (t ∷ ts) = (Contains ts t → ⊥) × AreApart ts

-- the term is a symbol among the subterms
pub record IsSymbolBelow (nodes : List Node) (t k : ℕ) : Type 0 where
  pub below : IsSubterm nodes t k
  pub symbol : IsSymbol nodes k

-- the symbols of u have no more bits than those of t: no list of different symbols of u has more than a list of all symbols of t
abbrev pub HasNoMoreBits : List Node → ℕ → List Node → ℕ → Type 0
HasNoMoreBits old t new u =
    (us ts : List ℕ) → AreApart us → All (IsSymbolBelow new u) us → ((k : ℕ) → IsSymbolBelow old t k → Contains ts k) → bits_at new us ≤ bits_at old ts
