-- Booleans and bit-vectors, and terms all of whose subterms are of these.
use Rattle.std.specs.Prelude.{◌≡◌, ℕ, ◌<◌, true, List, length}
use Rattle.uc_ops.specs.declared.node.Node.{Node}
use Rattle.uc_values.specs.declared.ty.Ty.{Ty}
use Rattle.uc_ops.specs.Typing.{Valid, type_at}
use Rattle.uc_terms.specs.Subterms.{IsSubterm}
use Rattle.uc_blast.specs.Words.{is_bits}

-- a valid type of booleans or bit-vectors
abbrev pub IsFine : Ty → Type 0
IsFine ty = Valid ty × (is_bits ty ≡ true)

pub record IsLow (nodes : List Node) (t : ℕ) : Type 0 where
  pub there : t < length nodes
  pub bits : (k : ℕ) → IsSubterm nodes t k → is_bits (type_at nodes k) ≡ true

abbrev pub KeepsLow : List Node → List Node → Type 0
KeepsLow old new = (t : ℕ) → IsLow old t → IsLow new t
