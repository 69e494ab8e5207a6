-- The states of a design after so many steps, on terms.
use Rattle.std.specs.Prelude.{◌≡◌, ℕ, Bool as Answer, List, [], length, slice_get, Some, All}
use Rattle.uc_values.specs.declared.ty.Ty.{Ty}
use Rattle.uc_values.specs.declared.ty.Ty.TheVariants.{Bool}
use Rattle.uc_values.specs.declared.value.Value.TheVariants.{Bool as Truth}
use Rattle.uc_ops.specs.declared.model.Model.{Model}
use Rattle.uc_ops.specs.declared.node.Node.{Node}
use Rattle.uc_flat.specs.declared.flat.Flat.{Flat}
use Rattle.uc_flat.specs.declared.flat.Formula.{Formula}
use Rattle.uc_flat.specs.Unrolled.{axioms_hold}
use Rattle.uc_flat.specs.Fine.{ReadsTyped}
use Rattle.uc_flat_copies.specs.Lines.{supposed_below}
use Rattle.uc_symstep.specs.declared.state.SymState.{SymState}
use Rattle.uc_symstep.specs.Growing.{Grows, IsTerm}
use Rattle.uc_symstep.specs.Stands.{holds, IsTruth}
use Rattle.uc_symstep.specs.Unrolled.{shows, IsSeen}
use Rattle.uc_symstep.specs.Designs.{Unrolls}
use Rattle.uc_symstep.specs.Known.{IsKnown, KnowsState, ReadsOwnTypes, supply_from}
use Rattle.uc_obligations.specs.declared.unrolling.Unrolling.{Unrolling}

-- each formula reads its constants at the types of the supply
abbrev pub AllReadTyped : List Ty → List Formula → Type 0
AllReadTyped supply formulas = All (λ (x : Formula). ReadsTyped supply x.condition) formulas

-- a boolean term of the new table is true where the test is
pub record Tells (old new : List Node) (t : ℕ) (test : Model → Answer) : Type 0 where
  pub grown : Grows old new
  pub truth : IsTruth new t
  pub tells : (m : Model) → holds m new t ≡ test m

-- the terms of the axioms and of what is assumed, and the state after n steps, are known by the types of the symbols after n steps
pub record KnowsLast (f : Flat) (nodes : List Node) (n : ℕ) (u : Unrolling) : Type 0 where
  pub axioms : IsKnown (supply_from f u.start n) nodes u.axioms
  pub assumed : IsKnown (supply_from f u.start n) nodes u.assumed
  pub last : (s : SymState) → slice_get u.states n ≡ Some s → KnowsState (supply_from f u.start n) nodes s u.fresh.next

-- One term is true where all axioms are, another where all that is assumed before the last state is, and the states are those after 0, 1 and so on up to n steps, where the free values are the symbols behind the constants.
pub record IsUnrolled (f : Flat) (nodes : List Node) (n : ℕ) (u : Unrolling) : Type 0 where
  pub begins : List Node
  pub axioms : IsTerm [] begins u.axioms Bool (λ m. Truth (axioms_hold f m))
  pub assumed : Tells [] nodes u.assumed (λ m. supposed_below f u.start m n)
  pub run : Unrolls f u.start (length f.constants) begins nodes n u.states u.fresh.next
  pub known : ReadsOwnTypes f → KnowsLast f nodes n u

-- the new state is the same place as the old one under every model
pub record IsSimpler (old new : List Node) (types : List Ty) (s t : SymState) : Type 0 where
  pub grown : Grows old new
  pub state : IsSeen new types t
  pub same : (m : Model) (n : ℕ) → shows m new t n ≡ shows m old s n
