-- The nodes of terms of finitely many values.
use Rattle.std.specs.Prelude.{◌≡◌, ℕ, ◌<◌, Bool as Truth, true, false, List}
use Rattle.uc_values.specs.declared.ty.Ty.{Ty}
use Rattle.uc_ops.specs.declared.op.Op.{Op}
use Rattle.uc_ops.specs.declared.op.Op.TheVariants.{App}
use Rattle.uc_ops.specs.declared.node.Node.{Node}
use Rattle.uc_ops.specs.Typing.{type_at}
use Rattle.uc_terms.specs.Tables.{HasOp}
use Rattle.uc_terms.specs.Subterms.{Marked}
use Rattle.uc_lower.specs.Made.{HasBits}

abbrev pub is_application : Op → Truth
is_application (App number ty) = true
is_application other = false

-- the type of the term has a number of bits, and the term applies no function
pub record IsFiniteNode (nodes : List Node) (k : ℕ) : Type 0 where
  pub bits : HasBits (type_at nodes k)
  pub no_function : (number : ℕ) (ty : Ty) → ¬ HasOp nodes k (App number ty)

-- so do the terms that are marked below the place
abbrev pub AreFinite : List Node → List Truth → ℕ → Type 0
AreFinite nodes marks place = (k : ℕ) → k < place → Marked marks k → IsFiniteNode nodes k
