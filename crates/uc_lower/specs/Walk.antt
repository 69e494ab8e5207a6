-- The steps of the walk over the subterms of a term.
use Rattle.std.specs.Prelude.{◌≡◌, ℕ, ◌<◌, Bool as Flag, true, false, List, [], ◌∷◌, ◌++◌, map, length}
use Rattle.std.specs.List.{list_all}
use Rattle.uc_values.specs.Values.{truth_of}
use Rattle.uc_values.specs.declared.ty.Ty.{Ty}
use Rattle.uc_values.specs.declared.ty.Ty.TheVariants.{Bool}
use Rattle.uc_values.specs.declared.value.Value.TheVariants.{Bool as Truth}
use Rattle.uc_ops.specs.declared.model.Model.{Model}
use Rattle.uc_ops.specs.declared.op.Op.{Op}
use Rattle.uc_ops.specs.declared.op.Op.TheVariants.{Symbol}
use Rattle.uc_ops.specs.declared.node.Node.{Node}
use Rattle.uc_ops.specs.Typing.{type_at}
use Rattle.uc_terms.specs.Tables.{HasOp}
use Rattle.uc_terms.specs.Subterms.{Marked}
use Rattle.uc_terms.specs.Values.{value, values_at}
use Rattle.uc_lower.specs.Made.{Grows, KeepsLowered}
use Rattle.uc_lower.specs.Steps.{IsLowOf}
use Rattle.uc_lower.specs.Symbols.{StandsFor}
use Rattle.uc_lower.specs.Lowering.{Pair, IsSymbol}

-- the operation is a symbol
abbrev pub is_symbol : Op → Flag
is_symbol (Symbol number ty) = true
is_symbol other = false

-- the number is above those of the symbols that are marked before a place
abbrev pub IsFresh : List Node → List Flag → ℕ → ℕ → Type 0
IsFresh nodes marks place fresh = (k number : ℕ) (ty : Ty) → k < place → Marked marks k → HasOp nodes k (Symbol number ty) → number < fresh

-- the pairs of a symbol with what stands for it
abbrev pub paired : ℕ → List ℕ → List Pair
paired t us = map (λ u. (t, u)) us

-- what the walk does at a place: nothing where it is not marked, and else it makes what stands for the term there
pub data IsStep (old new : List Node) (lowered : List (List ℕ)) (marked : Flag) (place : ℕ) (us : List ℕ) (first next : ℕ) (pairs more : List Pair) (before after : List ℕ) : Type 0 where
  skipped : marked ≡ false → new ≡ old → next ≡ first → more ≡ pairs → after ≡ before → IsStep old new lowered marked place us first next pairs more before after
  inner : (IsSymbol old place → ⊥) → IsLowOf old new lowered place us → next ≡ first → more ≡ pairs → after ≡ before → IsStep old new lowered marked place us first next pairs more before after
  symbol : marked ≡ true → IsSymbol old place → StandsFor old new place first next us before after → more ≡ pairs ++ paired place us → IsStep old new lowered marked place us first next pairs more before after

-- the term is true where all conditions and what stands for a boolean term are
pub record IsGoal (now new : List Node) (conditions : List ℕ) (g u : ℕ) : Type 0 where
  pub grown : Grows now new
  pub there : u < length new
  pub ty : type_at new u ≡ Bool
  pub value : (n : Model) → value n new u ≡ Truth (list_all truth_of (values_at n now (conditions ++ g ∷ [])))
  pub lowered : KeepsLowered now (conditions ++ g ∷ []) new (u ∷ [])
