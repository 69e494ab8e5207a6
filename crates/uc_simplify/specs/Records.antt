-- Equalities of records that are made.
use Rattle.std.specs.Prelude.{◌≡◌, ℕ, ◌<◌, List, [], ◌∷◌, length, slice_index}
use Rattle.uc_values.specs.declared.ty.Ty.{Ty}
use Rattle.uc_ops.specs.declared.op.Op.{Op}
use Rattle.uc_ops.specs.declared.op.Op.TheVariants.{Eq as Equal, MkRec}
use Rattle.uc_ops.specs.declared.node.Node.{Node}
use Rattle.uc_terms.specs.Tables.{WellTyped}
use Rattle.uc_simplify_steps.specs.Steps.{IsApplied}
use Rattle.uc_simplify.specs.Simplified.{Grows, Rebuilds}

-- the term is a record that is made of the parts
pub record IsRecord (nodes : List Node) (t : ℕ) (parts : List ℕ) : Type 0 where
  pub ty : Ty
  pub applied : IsApplied nodes t (MkRec ty) parts

-- the operation compares two records that are made, the first of the left parts, of which there are some, and the second of the right
pub record AreRecords (nodes : List Node) (op : Op) (parts left right : List ℕ) : Type 0 where
  pub a : ℕ
  pub b : ℕ
  pub equality : op ≡ Equal
  pub two : parts ≡ a ∷ b ∷ []
  pub first : IsRecord nodes a left
  pub second : IsRecord nodes b right
  pub some : 0 < length left

-- each of the first terms stands for the equality of the terms at its place
pub data AllEqual (new old : List Node) : List ℕ → List ℕ → List ℕ → Type 0 where
  none : AllEqual new old [] [] []
  one : (r a b : ℕ) (rs left right : List ℕ) → Rebuilds new r old Equal (a ∷ b ∷ []) → AllEqual new old rs left right → AllEqual new old (r ∷ rs) (a ∷ left) (b ∷ right)

-- the terms so far stand for equalities of an old table, which has grown
pub record Comparing (old now : List Node) (equal left right : List ℕ) (place : ℕ) : Type 0 where
  pub grown : Grows old now
  pub well : WellTyped now
  pub size : length equal ≡ place
  pub each : (k : ℕ) → k < place → Rebuilds now (slice_index equal k) old Equal (slice_index left k ∷ slice_index right k ∷ [])
