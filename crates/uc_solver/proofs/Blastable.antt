-- What is lowered can be blasted.
use Rattle.std.specs.Prelude.{◌≡◌, ℕ, true, List}
use Rattle.std.proofs.Common.{refl}
use Rattle.uc_values.specs.declared.ty.Ty.{Ty}
use Rattle.uc_ops.specs.declared.node.Node.{Node}
use Rattle.uc_ops.specs.Typing.{type_at}
use Rattle.uc_lower.specs.Made.{IsLowType, truth, bits}
use Rattle.uc_lower.specs.Lowering.{IsLoweredTerm}
use Rattle.uc_blast.specs.Words.{is_bits}
use Rattle.uc_blast.specs.Blasting.{IsBlastable}

low_bits : (ty : Ty) → IsLowType ty → is_bits ty ≡ true
low_bits ty truth = refl
low_bits ty (bits width) = refl

pub blastable : (nodes : List Node) (u : ℕ) → IsLoweredTerm nodes u → IsBlastable nodes u
blastable nodes u l = record { there = l.there; boolean = l.boolean; bits = λ k s. low_bits (type_at nodes k) (l.types k s) }
