-- What a symbolic state stands for under a model.
use Rattle.std.specs.Prelude.{◌≡◌, ℕ, ◌<◌, Bool as Truth, not, ◌&&◌, List, length, map, All, slice_get, Some}
use Rattle.std.specs.List.{flat_map}
use Rattle.uc_values.specs.declared.ty.Ty.{Ty}
use Rattle.uc_values.specs.declared.ty.Ty.TheVariants.{Bool}
use Rattle.uc_values.specs.declared.value.Value.{Value}
use Rattle.uc_values.specs.Values.{truth_of}
use Rattle.uc_ops.specs.declared.model.Model.{Model}
use Rattle.uc_ops.specs.declared.node.Node.{Node}
use Rattle.uc_ops.specs.Typing.{type_at, Valid}
use Rattle.uc_terms.specs.Values.{value}
use Rattle.uc_flat.specs.declared.expression.Expression.{Expression}
use Rattle.uc_flat.specs.Reading.{is_true}
use Rattle.uc_flat.specs.Drawn.{Drawn, listed_if, free, either, arm}
use Rattle.uc_symstep.specs.declared.state.Choice.{Choice}
use Rattle.uc_symstep.specs.declared.state.Hit.{Hit}
use Rattle.uc_symstep.specs.declared.state.Symbolic.{Symbolic}
use Rattle.uc_symstep.specs.declared.branch.Open.{Open}
use Rattle.uc_symstep.specs.Growing.{Grows, AreCells, IsTerm}

-- a term is true under the model
abbrev pub holds : Model → List Node → ℕ → Truth
holds m nodes t = truth_of (value m nodes t)

-- the value of a choice, where it is taken
abbrev pub choice_in : Model → List Node → Choice → List Value
choice_in m nodes c = listed_if (holds m nodes c.taken) (value m nodes c.term)

-- the site, where its assertion is taken and false
abbrev pub hit_in : Model → List Node → Hit → List ℕ
hit_in m nodes h = listed_if (holds m nodes h.failed) h.site

-- what a symbolic state is under a model
abbrev pub stands : Model → List Node → Symbolic → Drawn
stands m nodes s = record {
  cells = map (value m nodes) s.cells;
  goes = holds m nodes s.path;
  taken = holds m nodes s.taken;
  chosen = flat_map (choice_in m nodes) s.choices;
  sites = flat_map (hit_in m nodes) s.sites;
  next = s.next;
}

-- a boolean term
pub record IsTruth (nodes : List Node) (t : ℕ) : Type 0 where
  pub there : t < length nodes
  pub typed : type_at nodes t ≡ Bool

pub record IsChoice (nodes : List Node) (c : Choice) : Type 0 where
  pub term : c.term < length nodes
  pub taken : c.taken < length nodes

pub record IsHit (nodes : List Node) (h : Hit) : Type 0 where
  pub failed : h.failed < length nodes

-- the terms of a state are there, and those of the cells have these types
pub record IsState (nodes : List Node) (types : List Ty) (s : Symbolic) : Type 0 where
  pub cells : AreCells nodes types s.cells
  pub path : IsTruth nodes s.path
  pub taken : IsTruth nodes s.taken
  pub choices : All (IsChoice nodes) s.choices
  pub sites : All (IsHit nodes) s.sites

-- Under every model the new state is what the code makes of the old one, where the free values are the symbols of the model.
pub record Follows (old new : List Node) (types : List Ty) (code : Model → Drawn → Drawn) (s t : Symbolic) : Type 0 where
  pub grown : Grows old new
  pub state : IsState new types t
  pub same : (m : Model) → stands m new t ≡ code m (stands m old s)

-- a term is the symbol of that number
abbrev pub IsSymbol : List Node → List Node → ℕ → Ty → ℕ → Type 0
IsSymbol old new t ty number = IsTerm old new t ty (λ m. free m.symbols ty number)

-- the cell is there, of a type that has values
abbrev pub IsHavocked : List Ty → ℕ → Type 0
IsHavocked types k = (ty : Ty) × (slice_get types k ≡ Some ty) × Valid ty

-- the two arms of a conditional on e begin
pub record Opens (old new : List Node) (types : List Ty) (e : Expression) (s : Symbolic) (o : Open) : Type 0 where
  pub grown : Grows old new
  pub first : IsState new types o.first
  pub cells : AreCells new types o.cells
  pub condition : IsTruth new o.condition
  pub other : IsTruth new o.other
  pub path : IsTruth new o.path
  pub taken : IsTruth new o.taken
  pub decides : (m : Model) → holds m new o.condition ≡ is_true m types (stands m old s).cells e
  pub begins : (m : Model) → stands m new o.first ≡ arm (holds m new o.condition) (stands m old s)
  pub has_cells : (m : Model) → map (value m new) o.cells ≡ (stands m old s).cells
  pub has_path : (m : Model) → holds m new o.path ≡ (stands m old s).goes
  pub is_taken : (m : Model) → holds m new o.taken ≡ (stands m old s).taken
  pub is_other : (m : Model) → holds m new o.other ≡ ((stands m old s).taken && not (holds m new o.condition))

-- each cell has the value of the first where the condition is true, else of the second
pub record Merges (old new : List Node) (types : List Ty) (condition : ℕ) (xs ys zs : List ℕ) : Type 0 where
  pub grown : Grows old new
  pub cells : AreCells new types zs
  pub same : (m : Model) → map (value m new) zs ≡ either (holds m old condition) (map (value m old) xs) (map (value m old) ys)

-- the state after a conditional
pub record Joins (old new : List Node) (types : List Ty) (condition taken : ℕ) (cells : List ℕ) (path : ℕ) (second t : Symbolic) : Type 0 where
  pub grown : Grows old new
  pub state : IsState new types t
  pub same : (m : Model) → let c = holds m old condition in let r = stands m old second in
      stands m new t ≡ record { cells = either c (map (value m old) cells) r.cells; goes = either c (holds m old path) r.goes; taken = holds m old taken; chosen = r.chosen; sites = r.sites; next = r.next }
