-- Terms whose symbols have types in a list, and the types of the symbols of a design.
use Rattle.std.specs.Prelude.{◌≡◌, ℕ, zero, suc, List, [], ◌∷◌, ◌++◌, length, map, slice_get, Some, All, Contains}
use Rattle.std.specs.List.{flat_map}
use Rattle.uc_values.specs.declared.ty.Ty.{Ty}
use Rattle.uc_ops.specs.declared.op.Op.TheVariants.{Symbol}
use Rattle.uc_ops.specs.declared.node.Node.{Node}
use Rattle.uc_ops.specs.Typing.{part_type}
use Rattle.uc_flat.specs.declared.expression.Expression.{Expression}
use Rattle.uc_flat.specs.declared.statement.Statement.{Statement}
use Rattle.uc_flat.specs.declared.statement.Statement.TheVariants.{Assign as Assigns, Assume as Assumes, Assert as Asserts, If as Decides}
use Rattle.uc_flat.specs.declared.statement.Statement.TheOpen.{Statement-F}
use Rattle.uc_flat.specs.declared.statement.Statement.TheOpen.Statement-F.{Assign, Havoc, Assume, Assert, If}
use Rattle.uc_flat.specs.declared.statement.Statement.TheFolds.{fold-Statement}
use Rattle.uc_flat.specs.declared.flat.Flat.{Flat}
use Rattle.uc_flat.specs.declared.flat.Formula.{Formula}
use Rattle.uc_flat.specs.Fine.{IsInside, ReadsTyped}
use Rattle.uc_flat.specs.Flats.{cell_types, init_types}
use Rattle.uc_flat_copies.specs.declared.trace.Start.{Start}
use Rattle.uc_flat_copies.specs.declared.trace.Start.TheVariants.{Initially, Anywhere}
use Rattle.uc_symstep.specs.declared.state.Symbolic.{Symbolic}
use Rattle.uc_symstep.specs.declared.state.SymState.{SymState}
use Rattle.uc_symstep.specs.declared.branch.Open.{Open}

-- A term is known by a list of types, the supply: where it is a symbol, its number has its type in the supply, and its parts are known.
pub data IsKnown (supply : List Ty) (nodes : List Node) : ℕ → Type 0 where
  known : (t : ℕ) (node : Node) → slice_get nodes t ≡ Some node → ((number : ℕ) (ty : Ty) → node.op ≡ Symbol number ty → slice_get supply number ≡ Some ty)
      → ((part : ℕ) → Contains node.parts part → IsKnown supply nodes part) → IsKnown supply nodes t

-- the same of each expression of the code
pub record CodeReadsTyped (supply : List Ty) (code : List Statement) : Type 0 where
  pub assigns : (k : ℕ) (e : Expression) → IsInside code (Assigns k e) → ReadsTyped supply e
  pub assumes : (e : Expression) → IsInside code (Assumes e) → ReadsTyped supply e
  pub asserts : (site : ℕ) (e : Expression) → IsInside code (Asserts site e) → ReadsTyped supply e
  pub decides : (e : Expression) (xs ys : List Statement) → IsInside code (Decides e xs ys) → ReadsTyped supply e

-- The types of the free values that code reads, in order, those of all arms included.
abbrev pub joined : List (List Ty) → List Ty
joined = flat_map (λ types. types)

abbrev pub draw_form : List Ty → Statement-F (List Ty) → List Ty
draw_form types (Assign k e) = []
draw_form types (Havoc k listed) = part_type types k ∷ []
draw_form types (Assume e) = []
draw_form types (Assert site e) = []
draw_form types (If e xs ys) = joined xs ++ joined ys

unfoldable pub drawn_by : List Ty → Statement → List Ty
drawn_by types = fold-Statement (List Ty) (draw_form types)

abbrev pub draw_types : List Ty → List Statement → List Ty
draw_types types code = joined (map (drawn_by types) code)

abbrev pub constants_typed : Flat → List Ty
constants_typed f = map (λ c. c.ty) f.constants

-- what a step draws
abbrev pub step_types : Flat → List Ty
step_types f = draw_types (cell_types f ++ cell_types f) f.step

-- The types of the symbols of a state to begin with, by number: those of the constants, those of its cells, and those that the init code draws, if it is an initial state.
abbrev pub supply_at : Flat → Start → List Ty
supply_at f Initially = (constants_typed f ++ cell_types f) ++ draw_types (init_types f) f.init
supply_at f Anywhere = constants_typed f ++ cell_types f

-- the same of the state after n steps: behind them is n times what a step draws
unfoldable pub supply_from : Flat → Start → ℕ → List Ty
supply_from f start zero = supply_at f start
supply_from f start (suc n) = supply_from f start n ++ step_types f

-- every constant that the design reads is read at its own type
pub record ReadsOwnTypes (f : Flat) : Type 0 where
  pub further : All (ReadsTyped (constants_typed f)) f.further
  pub init : CodeReadsTyped (constants_typed f) f.init
  pub step : CodeReadsTyped (constants_typed f) f.step
  pub formulas : All (λ (x : Formula). ReadsTyped (constants_typed f) x.condition) f.formulas

-- The cells and the path condition of a state are known, and the next symbol has the first number that the supply has not.
pub record KnowsPlace (supply : List Ty) (nodes : List Node) (terms : List ℕ) (condition number : ℕ) : Type 0 where
  pub cells : All (IsKnown supply nodes) terms
  pub path : IsKnown supply nodes condition
  pub next : number ≡ length supply

abbrev pub Knows : List Ty → List Node → Symbolic → Type 0
Knows supply nodes s = KnowsPlace supply nodes s.cells s.path s.next

abbrev pub KnowsState : List Ty → List Node → SymState → ℕ → Type 0
KnowsState supply nodes s next = KnowsPlace supply nodes s.cells s.path next

-- Where the supply has the types of what is read, a state that it knows leads to one that it knows with these types behind it.
abbrev pub Extends : (List Ty → Type 0) → List Ty → List Node → Symbolic → List Node → Symbolic → Type 0
Extends reads more old s new t = (supply : List Ty) → reads supply → Knows supply old s → Knows (supply ++ more) new t

-- the two arms of a conditional begin with known cells and known path conditions, and its condition is known
pub record KnowsArms (supply : List Ty) (nodes : List Node) (o : Open) : Type 0 where
  pub first : Knows supply nodes o.first
  pub cells : All (IsKnown supply nodes) o.cells
  pub condition : IsKnown supply nodes o.condition
  pub path : IsKnown supply nodes o.path
