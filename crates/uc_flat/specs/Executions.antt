-- Initial states and steps of a design as executions on choices, and what free values have to do with them.
use Rattle.std.specs.Prelude.{◌≡◌, ℕ, ◌≤◌, true, IsTrue, List, [], ◌∷◌, ◌++◌, take, drop, length, Some}
use Rattle.uc_values.specs.declared.ty.Ty.{Ty}
use Rattle.uc_values.specs.declared.value.Value.{Value}
use Rattle.uc_values.specs.Values.{fits}
use Rattle.uc_ops.specs.declared.model.Model.{Model}
use Rattle.uc_flat.specs.declared.flat.Flat.{Flat}
use Rattle.uc_flat.specs.Drawn.{Drawn}
use Rattle.uc_flat.specs.Running.{run_all}
use Rattle.uc_flat.specs.Laws.{AgreeBelow}
use Rattle.uc_flat.specs.Flats.{cell_types, init_types, IsSound}
use Rattle.uc_flat.specs.Unrolled.{widened, initial, after_step}

-- the values fit the types, one by one
unfoldable pub FitAll : List Ty → List Value → Type 0
FitAll [] [] = Unit {0}
FitAll (ty ∷ types) (v ∷ values) = IsTrue (fits ty v) × FitAll types values
FitAll [] (v ∷ values) = ⊥
FitAll (ty ∷ types) [] = ⊥

-- The choices begin with a fitting value for each cell, which are the cells before all init code. The code, which has further cells behind them, ends with these cells, uses the other choices and lists these sites.
pub record IsInitial (f : Flat) (m : Model) (cells choices : List Value) (sites : List ℕ) : Type 0 where
  pub firsts : List Value
  pub rest : List Value
  pub others : List Value
  pub last : List Value
  pub begins : FitAll (cell_types f) firsts
  pub all : choices ≡ firsts ++ rest
  pub ends : run_all m (init_types f) f.init (record { cells = widened m (cell_types f) f.further firsts; left = rest; others = others; sites = [] }) ≡ Some (record { cells = last; left = []; others = []; sites = sites })
  pub reaches : take (length (cell_types f)) last ≡ cells

-- The step's code, from the old cells and the same values as new cells, ends with these new cells, uses the choices and lists these sites.
pub record IsStep (f : Flat) (m : Model) (old new choices : List Value) (sites : List ℕ) : Type 0 where
  pub others : List Value
  pub last : List Value
  pub ends : run_all m (cell_types f ++ cell_types f) f.step (record { cells = old ++ old; left = choices; others = others; sites = [] }) ≡ Some (record { cells = last; left = []; others = []; sites = sites })
  pub reaches : drop (length (cell_types f)) last ≡ new

-- a place where all assumptions held, with these cells, choices and sites
pub record IsAt (r : Drawn) (values choices : List Value) (listed : List ℕ) : Type 0 where
  pub goes : r.goes ≡ true
  pub cells : r.cells ≡ values
  pub chosen : r.chosen ≡ choices
  pub sites : r.sites ≡ listed

-- another model, with the same functions and the same symbols below n, where the place is this one
pub record IsFound (n : ℕ) (m : Model) (place : Model → Drawn) (cells choices : List Value) (sites : List ℕ) : Type 0 where
  pub model : Model
  pub agrees : AgreeBelow n m model
  pub at : IsAt (place model) cells choices sites

-- Where all assumptions hold, what the init code leaves on free values is an initial state with the choices and sites that are listed.
abbrev pub InitialLaw : Type 0
InitialLaw =
    (f : Flat) (m : Model) (first : ℕ) → IsSound f → (initial f first m).goes ≡ true
    → IsInitial f m (initial f first m).cells (initial f first m).chosen (initial f first m).sites

-- Each initial state is what the init code leaves on free values from a number on, behind the symbols before it.
abbrev pub InitialFoundLaw : Type 0
InitialFoundLaw =
    (f : Flat) (m : Model) (first : ℕ) (cells choices : List Value) (sites : List ℕ) → IsSound f → length f.constants ≤ first → first ≤ length m.symbols
    → IsInitial f m cells choices sites → IsFound first m (initial f first) cells choices sites

-- Where all assumptions hold, what a step's code leaves on free values is a step with the choices and sites that are listed.
abbrev pub StepLaw : Type 0
StepLaw =
    (f : Flat) (m : Model) (r : Drawn) → IsSound f → (after_step f m r).goes ≡ true
    → IsStep f m r.cells (after_step f m r).cells (after_step f m r).chosen (after_step f m r).sites

-- Each step is what the step's code leaves on free values, behind the symbols that were read before.
abbrev pub StepFoundLaw : Type 0
StepFoundLaw =
    (f : Flat) (m : Model) (r : Drawn) (new choices : List Value) (sites : List ℕ) → IsSound f → length f.constants ≤ r.next → r.next ≤ length m.symbols → r.goes ≡ true
    → IsStep f m r.cells new choices sites → IsFound r.next m (λ n. after_step f n r) new choices sites
