-- Copies of terms, in which the symbols from a number on have other numbers, and what a copy is under a model.
use Rattle.std.specs.Prelude.{◌≡◌, ℕ, ◌+◌, ◌<◌, nat_lt, if◌then◌else◌, List, [], ◌∷◌, ◌++◌, take, drop, length, Option, Some}
use Rattle.uc_ops.specs.declared.model.Model.{Model}
use Rattle.uc_ops.specs.declared.op.Op.{Op}
use Rattle.uc_ops.specs.declared.op.Op.TheVariants.{Symbol}
use Rattle.uc_ops.specs.declared.node.Node.{Node}
use Rattle.uc_ops.specs.Typing.{type_at}
use Rattle.uc_terms.specs.Values.{value}
use Rattle.uc_simplify_steps.specs.Features.{Feature, symbol, Brings}

-- the new table goes on from the old one
pub record Grows (old new : List Node) : Type 0 where
  pub more : List Node
  pub is : new ≡ old ++ more

-- the number of a symbol in a copy: a shared one keeps its number
abbrev pub moved : ℕ → ℕ → ℕ → ℕ
moved shared by s = if nat_lt s shared then s else s + by

abbrev pub moved_op : ℕ → ℕ → Op → Op
moved_op shared by (Symbol s ty) = Symbol (moved shared by s) ty
moved_op shared by other = other

abbrev pub moved_feature : ℕ → ℕ → Feature → Feature
moved_feature shared by (symbol s ty) = symbol (moved shared by s) ty
moved_feature shared by other = other

-- What a copy reads of a model: the shared symbols, and then those of the copy. The functions are the same.
abbrev pub read_by : ℕ → ℕ → Model → Model
read_by shared by m = record { symbols = take shared m.symbols ++ drop (shared + by) m.symbols; tables = m.tables }

-- what the copy brings is what the term brings, moved
pub record ComesFrom (shared by : ℕ) (old : List Node) (t : ℕ) (f : Feature) : Type 0 where
  pub feature : Feature
  pub brings : Brings old t feature
  pub is : f ≡ moved_feature shared by feature

-- r of the new table is the copy of t of the old one: under each model it has the value that t has under what the copy reads of the model, it has the type of t, and it brings what t brings, moved
pub record IsCopy (shared by : ℕ) (new : List Node) (r : ℕ) (old : List Node) (t : ℕ) : Type 0 where
  pub there : r < length new
  pub same : (m : Model) → value m new r ≡ value (read_by shared by m) old t
  pub ty : type_at new r ≡ type_at old t
  pub features : (f : Feature) → Brings new r f → ComesFrom shared by old t f

-- the terms are the copies of these, one by one
pub data AreCopies (shared by : ℕ) (new old : List Node) : List ℕ → List ℕ → Type 0 where
  none : AreCopies shared by new old [] []
  one : (r t : ℕ) (rs ts : List ℕ) → IsCopy shared by new r old t → AreCopies shared by new old rs ts → AreCopies shared by new old (r ∷ rs) (t ∷ ts)

-- there is a copy of the term, by what is known of copies
pub record IsCopied (shared by : ℕ) (new old : List Node) (copies : ℕ → Option ℕ) (t : ℕ) : Type 0 where
  pub copy : ℕ
  pub has : copies t ≡ Some copy
  pub is : IsCopy shared by new copy old t
