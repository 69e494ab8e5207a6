-- What stands for a term, and for an operation on parts.
use Rattle.std.specs.Prelude.{◌≡◌, ◌⊎◌, ℕ, ◌<◌, List, ◌++◌, length}
use Rattle.uc_ops.specs.declared.model.Model.{Model}
use Rattle.uc_ops.specs.declared.op.Op.{Op}
use Rattle.uc_ops.specs.declared.node.Node.{Node}
use Rattle.uc_ops.specs.Typing.{type_of, type_at, types_at}
use Rattle.uc_ops.specs.Meaning.{apply}
use Rattle.uc_terms.specs.Values.{value, values_at}
use Rattle.uc_terms.specs.Laws.{SameUnderEveryModel}
use Rattle.uc_simplify_steps.specs.Features.{Feature, Shows, Brings, OneBrings, BringsNoMore}

-- the new table goes on from the old one
pub record Grows (old new : List Node) : Type 0 where
  pub more : List Node
  pub is : new ≡ old ++ more

-- r of the new table stands for t of the old one: it has the type and under every model the value of t, and brings no more
pub record StandsFor (new : List Node) (r : ℕ) (old : List Node) (t : ℕ) : Type 0 where
  pub there : r < length new
  pub same : SameUnderEveryModel new r old t
  pub ty : type_at new r ≡ type_at old t
  pub features : BringsNoMore new r old t

-- r of the new table stands for the operation on parts of the old one: it has the type and under every model the value of the
-- operation on the parts, and each of its features is one of the operation or one that a part brings
pub record Rebuilds (new : List Node) (r : ℕ) (old : List Node) (op : Op) (parts : List ℕ) : Type 0 where
  pub there : r < length new
  pub same : (m : Model) → value m new r ≡ apply m op (types_at old parts) (values_at m old parts)
  pub ty : type_at new r ≡ type_of op (types_at old parts)
  pub features : (f : Feature) → Brings new r f → Shows op (types_at old parts) (type_of op (types_at old parts)) f ⊎ OneBrings old parts f
