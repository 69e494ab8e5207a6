-- Symbolic states between steps.
use Rattle.std.specs.Prelude.{◌≡◌, ℕ, true, List, [], ◌++◌, map, All}
use Rattle.std.specs.List.{flat_map}
use Rattle.uc_values.specs.declared.ty.Ty.{Ty}
use Rattle.uc_ops.specs.declared.model.Model.{Model}
use Rattle.uc_ops.specs.declared.node.Node.{Node}
use Rattle.uc_terms.specs.Values.{value}
use Rattle.uc_flat.specs.Drawn.{Drawn}
use Rattle.uc_flat.specs.declared.expression.Expression.{Expression}
use Rattle.uc_flat.specs.Flats.{wider_types}
use Rattle.uc_flat.specs.Unrolled.{begun, wider}
use Rattle.uc_symstep.specs.declared.state.Symbolic.{Symbolic}
use Rattle.uc_symstep.specs.declared.state.SymState.{SymState}
use Rattle.uc_symstep.specs.Growing.{Grows, AreCells}
use Rattle.uc_symstep.specs.Stands.{stands, holds, choice_in, hit_in, IsTruth, IsChoice, IsHit, IsState}

-- The state before all init code, where n is the number of the first new symbol.
pub record Begins (old new : List Node) (types : List Ty) (n : ℕ) (t : Symbolic) : Type 0 where
  pub grown : Grows old new
  pub state : IsState new types t
  pub same : (m : Model) → stands m new t ≡ begun m.symbols types n

-- The same with the further cells of the init code behind the others.
pub record BeginsWide (old new : List Node) (types : List Ty) (further : List Expression) (n : ℕ) (t : Symbolic) : Type 0 where
  pub grown : Grows old new
  pub state : IsState new (wider_types types further) t
  pub same : (m : Model) → stands m new t ≡ wider m types further (begun m.symbols types n)

-- The state that a step from these cells begins with.
pub record Doubles (old new : List Node) (two : List Ty) (cells : List ℕ) (path next : ℕ) (t : Symbolic) : Type 0 where
  pub grown : Grows old new
  pub state : IsState new two t
  pub same : (m : Model) → stands m new t
      ≡ record { cells = map (value m old) cells ++ map (value m old) cells; goes = holds m old path; taken = true; chosen = []; sites = []; next = next }

-- what a state between steps is under a model, where n is the number of the next free value
abbrev pub shows : Model → List Node → SymState → ℕ → Drawn
shows m nodes s n = record {
  cells = map (value m nodes) s.cells;
  goes = holds m nodes s.path;
  taken = true;
  chosen = flat_map (choice_in m nodes) s.choices;
  sites = flat_map (hit_in m nodes) s.sites;
  next = n;
}

-- the terms of a state are there, and those of the cells have these types
pub record IsSeen (nodes : List Node) (types : List Ty) (s : SymState) : Type 0 where
  pub cells : AreCells nodes types s.cells
  pub path : IsTruth nodes s.path
  pub choices : All (IsChoice nodes) s.choices
  pub sites : All (IsHit nodes) s.sites

-- Under every model the state is this place, where n is the number of the next symbol.
pub record StartsAs (old new : List Node) (types : List Ty) (place : Model → Drawn) (s : SymState) (n : ℕ) : Type 0 where
  pub grown : Grows old new
  pub state : IsSeen new types s
  pub same : (m : Model) → shows m new s n ≡ place m

-- Under every model the new state is what the step makes of the old one, where k and n are the numbers of the next symbol before and after it.
pub record StepsAs (old new : List Node) (types : List Ty) (step : Model → Drawn → Drawn) (s : SymState) (k : ℕ) (t : SymState) (n : ℕ) : Type 0 where
  pub grown : Grows old new
  pub state : IsSeen new types t
  pub same : (m : Model) → shows m new t n ≡ step m (shows m old s k)
