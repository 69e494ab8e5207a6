-- Two terms that both have only booleans and bit-vectors below them.
use Rattle.std.proofs.Common.{ℕ, zero, suc, ◌<◌, List, [], ◌∷◌, slice_index_or, arith}
use Rattle.uc_ops.specs.declared.node.Node.{Node}
use Rattle.uc_solve_rows.specs.Low.{IsLow}

pub both_low : (nodes : List Node) (a b : ℕ) → IsLow nodes a → IsLow nodes b → (k d : ℕ) → k < 2 → IsLow nodes (slice_index_or (a ∷ b ∷ []) k d)
both_low nodes a b first second zero d within = first
both_low nodes a b first second (suc zero) d within = second
both_low nodes a b first second (suc (suc k)) d within = absurd (omega (arith, within))
