-- Lines over cells, and the traces of copies that refute them.
use Rattle.std.specs.Prelude.{◌≡◌, ℕ, ◌+◌, ◌<◌, Bool, true, false, not, nat_eq, if◌then◌else◌, List, [], ◌∷◌, ◌++◌, map, length, slice_get, Option, Some, None, All}
use Rattle.std.specs.List.{list_all, list_any, flat_map}
use Rattle.uc_values.specs.declared.value.Value.{Value}
use Rattle.uc_ops.specs.declared.model.Model.{Model}
use Rattle.uc_flat.specs.declared.flat.Flat.{Flat}
use Rattle.uc_flat.specs.declared.flat.Formula.{Formula}
use Rattle.uc_flat.specs.Flats.{cell_types}
use Rattle.uc_flat.specs.Laws.{AgreeBelow}
use Rattle.uc_flat.specs.Unrolled.{holds_in, axioms_hold}
use Rattle.uc_flat.specs.Executions.{FitAll, IsInitial, IsStep}
use Rattle.uc_flat.specs.declared.trace.FlatPosition.{FlatPosition}
use Rattle.uc_flat.specs.Traces.{HasConstants}
use Rattle.uc_flat_copies.specs.declared.trace.FlatCopies.{FlatCopies}
use Rattle.uc_flat_copies.specs.declared.trace.Start.{Start}
use Rattle.uc_flat_copies.specs.declared.trace.Start.TheVariants.{Initially, Anywhere}

-- what a line judges: a formula, or the site of an assertion
pub data Subject : Type 0 where
  formula : Formula → Subject
  site : ℕ → Subject

-- A line: how its copies begin, after how many steps they end, how many they are, what is assumed at all positions but the last, what is assumed at all positions, and what it judges.
pub record CopyLine : Type 0 where
  pub start : Start
  pub steps : ℕ
  pub copies : ℕ
  pub before : List Formula
  pub throughout : List Formula
  pub subject : Subject

-- A formula of one copy is asked of each copy, one of several copies of all together. The cells are those of the copies.
abbrev pub asks : Flat → Model → List (List Value) → Formula → Bool
asks f m cells x = if nat_eq x.copies 1 then list_all (holds_in f x m) cells else holds_in f x m (flat_map (λ vs. vs) cells)

abbrev pub ask_all : Flat → Model → List (List Value) → List Formula → Bool
ask_all f m cells xs = list_all (asks f m cells) xs

-- the formula is false in the cells, or each copy lists the site
abbrev pub fails : Flat → Model → List (List Value) → List (List ℕ) → Subject → Bool
fails f m cells listed (formula x) = not (asks f m cells x)
fails f m cells listed (site s) = list_all (list_any (nat_eq s)) listed

-- a position of any state, without choices and sites
pub record IsAny (f : Flat) (p : FlatPosition) : Type 0 where
  pub fits : FitAll (cell_types f) p.cells
  pub no_choices : p.choices ≡ []
  pub no_sites : p.sites ≡ []

abbrev pub Starts : Flat → Model → Start → FlatPosition → Type 0
Starts f m Initially p = IsInitial f m p.cells p.choices p.sites
Starts f m Anywhere p = IsAny f p

-- The first position is such a start, and each next one is a step from the one before.
pub record IsLinked (f : Flat) (m : Model) (start : Start) (steps : ℕ) (positions : List FlatPosition) : Type 0 where
  pub count : length positions ≡ steps + 1
  pub begins : (p : FlatPosition) → slice_get positions 0 ≡ Some p → Starts f m start p
  pub goes_on : (k : ℕ) (p q : FlatPosition) → slice_get positions k ≡ Some p → slice_get positions (k + 1) ≡ Some q → IsStep f m p.cells q.cells q.choices q.sites

-- the positions are linked under a model with the same constants and functions
pub record IsCopy (f : Flat) (m : Model) (start : Start) (steps : ℕ) (positions : List FlatPosition) : Type 0 where
  pub own : Model
  pub agrees : AgreeBelow (length f.constants) m own
  pub linked : IsLinked f own start steps positions

abbrev pub cells_in : Option FlatPosition → List Value
cells_in None = []
cells_in (Some p) = p.cells

abbrev pub sites_in : Option FlatPosition → List ℕ
sites_in None = []
sites_in (Some p) = p.sites

-- the cells of each copy at a position, and the sites that each copy lists there
abbrev pub cells_at : ℕ → List (List FlatPosition) → List (List Value)
cells_at k copies = map (λ ps. cells_in (slice_get ps k)) copies

abbrev pub sites_at : ℕ → List (List FlatPosition) → List (List ℕ)
sites_at k copies = map (λ ps. sites_in (slice_get ps k)) copies

-- A trace refutes a line: under a model that has its constants all axioms hold, its copies are linked, what is assumed holds, and at the last position what is judged fails.
pub record RefutesCopies (f : Flat) (l : CopyLine) (t : FlatCopies) : Type 0 where
  pub model : Model
  pub constants : HasConstants f t.constants model
  pub axioms : axioms_hold f model ≡ true
  pub number : length t.copies ≡ l.copies
  pub linked : All (IsCopy f model l.start l.steps) t.copies
  pub before : (k : ℕ) → k < l.steps → ask_all f model (cells_at k t.copies) l.before ≡ true
  pub throughout : (k : ℕ) → k < l.steps + 1 → ask_all f model (cells_at k t.copies) l.throughout ≡ true
  pub fails : fails f model (cells_at l.steps t.copies) (sites_at l.steps t.copies) l.subject ≡ true
