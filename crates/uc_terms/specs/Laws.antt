-- What callers say of terms: what is kept, and when terms are equal under every model.
use Rattle.std.specs.Prelude.{◌≡◌, ℕ, ◌<◌, true, List, length}
use Rattle.uc_values.specs.Values.{truth_of}
use Rattle.uc_ops.specs.declared.model.Model.{Model}
use Rattle.uc_ops.specs.declared.node.Node.{Node}
use Rattle.uc_terms.specs.Values.{value}
use Rattle.uc_terms.specs.Subterms.{FitsTerm}

-- every term of the old table keeps its value under every model
abbrev pub KeepsValues : List Node → List Node → Type 0
KeepsValues old new = (m : Model) (t : ℕ) → t < length old → value m new t ≡ value m old t

-- under every model t of the new table has the value that u has in the old one
abbrev pub SameUnderEveryModel : List Node → ℕ → List Node → ℕ → Type 0
SameUnderEveryModel new t old u = (m : Model) → value m new t ≡ value m old u

-- a boolean term is true under a model that fits it
pub record IsModelOf (m : Model) (nodes : List Node) (t : ℕ) : Type 0 where
  pub fits : FitsTerm m nodes t
  pub holds : truth_of (value m nodes t) ≡ true
