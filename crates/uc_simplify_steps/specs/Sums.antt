-- Sums of integers.
use Rattle.std.specs.Prelude.{◌≡◌, ℕ, ℤ, pos, neg_ℤ, ◌*ℤ◌, List}
use Rattle.uc_values.specs.Values.{number_of}
use Rattle.uc_values.specs.declared.value.Value.TheVariants.{Int}
use Rattle.uc_ops.specs.declared.model.Model.{Model}
use Rattle.uc_ops.specs.declared.node.Node.{Node}
use Rattle.uc_terms.specs.Values.{value}

-- the term is a constant of this integer
abbrev pub IsNumber : List Node → ℕ → ℤ → Type 0
IsNumber nodes t z = (m : Model) → value m nodes t ≡ Int z

-- the number of the second term is that of the first times -1
abbrev pub AreOpposite : List Node → ℕ → ℕ → Type 0
AreOpposite nodes a b = (m : Model) → number_of (value m nodes b) ≡ neg_ℤ (pos 1) *ℤ number_of (value m nodes a)
