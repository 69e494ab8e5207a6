-- The values of symbols, read from the values of the terms that stand for their innermost fields.
use Rattle.std.specs.Prelude.{◌≡◌, ℕ, ◌<◌, ◌++◌, IsTrue, nat_lt, if◌then◌else◌, List, [], ◌∷◌, length, slice_index_or, All}
use Rattle.std.specs.List.{AllZip}
use Rattle.uc_values.specs.Values.{fits}
use Rattle.uc_values.specs.declared.ty.Ty.{Ty}
use Rattle.uc_values.specs.declared.value.Value.{Value}
use Rattle.uc_values.specs.declared.value.Value.TheVariants.{Bv as Bits, Enum}
use Rattle.uc_ops.specs.declared.model.Model.{Model}
use Rattle.uc_ops.specs.declared.node.Node.{Node}
use Rattle.uc_ops.specs.Typing.{type_at}
use Rattle.uc_ops.specs.Meaning.{part}
use Rattle.uc_terms.specs.Values.{value, values_at}
use Rattle.uc_terms.specs.Subterms.{IsSubterm, FitsTerm}
use Rattle.uc_lower.specs.Fields.{coded, all_coded}
use Rattle.uc_lower.specs.Made.{HasBits}
use Rattle.uc_lower.specs.Lowering.{Pair, IsSymbol, stand_ins}

-- each value fits its type
abbrev pub AllFit : List Ty → List Value → Type 0
AllFit tys vs = AllZip (λ ty v. IsTrue (fits ty v)) tys vs

-- the value is the first one, and the others are left
abbrev pub Takes : List Value → Value → List Value → Type 0
Takes before v after = (w : Value) (rest : List Value) → before ≡ w ∷ rest → (v ≡ w) × (after ≡ rest)

-- the label whose place is told by the bits; the first one where no label has that place
abbrev pub label_read : ℕ → ℕ → Value → Value
label_read number labels (Bits width place) = if nat_lt place labels then Enum number place else Enum number 0
label_read number labels other = Enum number 0

-- the value is read from the front: where a value of the type stands as the first ones, it is that value, and the others are left
abbrev pub Reads : Ty → List Value → Value → List Value → Type 0
Reads ty before v after = (w : Value) (rest : List Value) → HasBits ty → IsTrue (fits ty w) → before ≡ coded ty w ++ rest → (v ≡ w) × (after ≡ rest)

-- the same for values of several types, one after another
abbrev pub ReadsAll : List Ty → List Value → List Value → List Value → Type 0
ReadsAll tys before vs after = (ws rest : List Value) → All HasBits tys → AllFit tys ws → before ≡ all_coded tys ws ++ rest → (vs ≡ ws) × (after ≡ rest)

-- the value of a type that stands as these values, where there is one
abbrev pub IsDecoded : Ty → List Value → Value → Type 0
IsDecoded ty codes v = (w : Value) → HasBits ty → IsTrue (fits ty w) → codes ≡ coded ty w → v ≡ w

-- a term, and a symbol that stands for a field of it
pub record IsSymbolPair (nodes : List Node) (p : Pair) : Type 0 where
  pub first : p.0 < length nodes
  pub second : p.1 < length nodes
  pub symbol : IsSymbol nodes p.1

-- for each term the values of what stands for it by the map
pub record AreCodes (n : Model) (nodes : List Node) (pairs : List Pair) (codes : List (List Value)) : Type 0 where
  pub long : length codes ≡ length nodes
  pub each : (k : ℕ) → k < length nodes → slice_index_or codes k [] ≡ values_at n nodes (stand_ins pairs k)

-- the value fits the type, and is the one that stands as these values, where there is one
pub record IsReadFrom (ty : Ty) (codes : List Value) (v : Value) : Type 0 where
  pub fits : IsTrue (fits ty v)
  pub decoded : IsDecoded ty codes v

-- the values at the numbers of symbols are read from the lists at these numbers
pub record AreRead (nodes : List Node) (codes : List (List Value)) (values : List Value) : Type 0 where
  pub long : length values ≡ length nodes
  pub each : (k : ℕ) → k < length nodes → IsSymbol nodes k → IsReadFrom (type_at nodes k) (slice_index_or codes k []) (part values k)

-- The model fits the term, and gives each symbol of it the value that what stands for the symbol by the map tells under the other
-- model, where there is one.
pub record GoesBack (m n : Model) (nodes : List Node) (t : ℕ) (pairs : List Pair) : Type 0 where
  pub fits : FitsTerm m nodes t
  pub decoded : (k : ℕ) → IsSubterm nodes t k → IsSymbol nodes k → IsDecoded (type_at nodes k) (values_at n nodes (stand_ins pairs k)) (value m nodes k)
