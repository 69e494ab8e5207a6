-- Conjunctions and disjunctions, whose parts are gathered.
use Rattle.std.specs.Prelude.{◌≡◌, ◌⊎◌, ℕ, ◌<◌, ◌++◌, Bool, true, false, List, slice_index, Contains}
use Rattle.uc_ops.specs.declared.op.Op.{Op}
use Rattle.uc_ops.specs.declared.op.Op.TheVariants.{And, Or}
use Rattle.uc_ops.specs.declared.node.Node.{Node}
use Rattle.uc_simplify_steps.specs.Steps.{IsApplied, IsTruth, IsNegation}

-- the operation that gives this truth where each part does, and only there
abbrev pub junction : Bool → Op
junction true = And
junction false = Or

-- the term is the junction on these parts
abbrev pub IsJunction : List Node → Bool → ℕ → List ℕ → Type 0
IsJunction nodes truth t own = IsApplied nodes t (junction truth) own

-- a term gives itself, or its parts where it is the junction
abbrev pub Gives : List Node → Bool → ℕ → ℕ → Type 0
Gives nodes truth p k = (k ≡ p) ⊎ ((own : List ℕ) × IsJunction nodes truth p own × Contains own k)

-- a term is in the list, or has the truth always, or is the junction and has its parts in the list
abbrev pub Covered : List Node → Bool → List ℕ → ℕ → Type 0
Covered nodes truth all p = Contains all p ⊎ (IsTruth nodes p truth ⊎ ((own : List ℕ) × IsJunction nodes truth p own × ((k : ℕ) → Contains own k → Contains all k)))

-- the list goes on by terms that a term gives, and these cover it
pub record GoesOn (nodes : List Node) (truth : Bool) (p : ℕ) (old new : List ℕ) : Type 0 where
  pub more : List ℕ
  pub is : new ≡ old ++ more
  pub sound : (k : ℕ) → Contains more k → Gives nodes truth p k
  pub covered : Covered nodes truth more p

-- the list has terms that the first parts give, and these cover them
pub record Gathers (nodes : List Node) (truth : Bool) (parts : List ℕ) (count : ℕ) (all : List ℕ) : Type 0 where
  pub sound : (k : ℕ) → Contains all k → (j : ℕ) × (j < count) × Gives nodes truth (slice_index parts j) k
  pub covered : (j : ℕ) → j < count → Covered nodes truth all (slice_index parts j)

-- two lists have the same members
pub record SameMembers (xs ys : List ℕ) : Type 0 where
  pub there : (k : ℕ) → Contains xs k → Contains ys k
  pub back : (k : ℕ) → Contains ys k → Contains xs k

-- a term and its negation are listed
pub record HasComplements (nodes : List Node) (all : List ℕ) : Type 0 where
  pub whole : ℕ
  pub part : ℕ
  pub negation : IsNegation nodes whole part
  pub whole_listed : Contains all whole
  pub part_listed : Contains all part
