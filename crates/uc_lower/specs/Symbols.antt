-- Symbols that stand for the innermost fields of a symbol, and the ranges of those that stand for labels.
use Rattle.std.specs.Prelude.{◌≡◌, ℕ, ◌+◌, ◌-◌, ◌<◌, nat_le, Bool as Flag, true, false, List, [], ◌∷◌, map, length, All, Contains}
use Rattle.std.specs.List.{AllZip}
use Rattle.uc_values.specs.Values.{truth_of, bits_of}
use Rattle.uc_values.specs.declared.ty.Ty.{Ty}
use Rattle.uc_values.specs.declared.ty.Ty.TheVariants.{Bool, Bv}
use Rattle.uc_values.specs.declared.value.Value.TheVariants.{Bool as Truth}
use Rattle.uc_ops.specs.declared.model.Model.{Model}
use Rattle.uc_ops.specs.declared.op.Op.TheVariants.{Symbol}
use Rattle.uc_ops.specs.declared.node.Node.{Node}
use Rattle.uc_ops.specs.Typing.{type_at, types_at}
use Rattle.uc_terms.specs.Tables.{HasOp}
use Rattle.uc_terms.specs.Values.{value, values_at}
use Rattle.uc_lower.specs.Fields.{leaves, low_type}
use Rattle.uc_lower.specs.Ranges.{InRange}
use Rattle.uc_lower.specs.Made.{Grows, Within, IsLowType, IsLowered}

-- the conditions are true
abbrev pub Hold : Model → List Node → List ℕ → Type 0
Hold n nodes conditions = All (λ c. truth_of (value n nodes c) ≡ true) conditions

abbrev pub AreTruths : List Node → List ℕ → Type 0
AreTruths nodes ts = All (λ t. type_at nodes t ≡ Bool) ts

-- the condition is that the bits of a term are the place of one of so many labels
pub record IsBound (old new : List Node) (u labels c : ℕ) : Type 0 where
  pub grown : Grows old new
  pub there : c < length new
  pub ty : type_at new c ≡ Bool
  pub value : (n : Model) → value n new c ≡ Truth (nat_le (bits_of (value n old u)) (labels - 1))
  pub stays : (symbols : List ℕ) → IsLowered symbols old u → IsLowered symbols new c

-- the conditions after are those before, and that the term stands for a value of the field
pub record HasRange (old new : List Node) (leaf : Ty) (u : ℕ) (before after : List ℕ) : Type 0 where
  pub grown : Grows old new
  pub within : Within new after
  pub truths : AreTruths new after
  pub bounded : (n : Model) → Hold n new after → Hold n old before × InRange leaf (value n old u)
  pub met : (n : Model) → Hold n old before → InRange leaf (value n old u) → Hold n new after
  pub stays : (symbols : List ℕ) → IsLowered symbols old u → All (IsLowered symbols old) before → All (IsLowered symbols new) after

-- the terms are symbols of these types, numbered on from the first number
abbrev pub Numbered : List Node → ℕ → List Ty → List ℕ → Type 0
Numbered nodes first [] [] = Unit {0}
Numbered nodes first (ty ∷ tys) (u ∷ us) = HasOp nodes u (Symbol first ty) × Numbered nodes (first + 1) tys us
Numbered nodes first [] (u ∷ us) = ⊥
Numbered nodes first (ty ∷ tys) [] = ⊥

abbrev pub InRanges : List Ty → List Node → Model → List ℕ → Type 0
InRanges leaves nodes n us = AllZip InRange leaves (values_at n nodes us)

-- the terms are new symbols for the fields, and the conditions after are those before with the ranges of the symbols
pub record AreSymbols (old now : List Node) (first next : ℕ) (leaves : List Ty) (us before after : List ℕ) : Type 0 where
  pub grown : Grows old now
  pub counted : next ≡ first + length us
  pub within : Within now us
  pub types : types_at now us ≡ map low_type leaves
  pub numbered : Numbered now first (map low_type leaves) us
  pub conditions : Within now after
  pub truths : AreTruths now after
  pub bounded : (n : Model) → Hold n now after → Hold n old before × InRanges leaves now n us
  pub met : (n : Model) → Hold n old before → InRanges leaves now n us → Hold n now after
  pub stays : (symbols : List ℕ) → All (Contains symbols) us → All (IsLowered symbols old) before → All (IsLowered symbols now) after
  pub lowered : (symbols : List ℕ) → All (Contains symbols) us → All (IsLowered symbols now) us

-- the type is a boolean or a bit-vector
abbrev pub is_low : Ty → Flag
is_low Bool = true
is_low (Bv width) = true
is_low other = false

-- what stands for a symbol: itself where it is a boolean or a bit-vector, else new symbols for its innermost fields
pub data StandsFor (old new : List Node) (t first next : ℕ) (us before after : List ℕ) : Type 0 where
  itself : IsLowType (type_at old t) → us ≡ t ∷ [] → new ≡ old → next ≡ first → after ≡ before → StandsFor old new t first next us before after
  symbols : AreSymbols old new first next (leaves (type_at old t)) us before after → StandsFor old new t first next us before after
