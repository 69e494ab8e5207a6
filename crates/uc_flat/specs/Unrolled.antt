-- Initial states, and steps one after another, where each free value is read in one list.
use Rattle.std.specs.Prelude.{ℕ, zero, suc, ◌+◌, true, not, ◌&&◌, List, [], ◌∷◌, ◌++◌, map, take, drop, length, Bool}
use Rattle.std.specs.List.{list_all}
use Rattle.uc_values.specs.declared.ty.Ty.{Ty}
use Rattle.uc_values.specs.declared.value.Value.{Value}
use Rattle.uc_values.specs.Values.{truth_of}
use Rattle.uc_ops.specs.declared.model.Model.{Model}
use Rattle.uc_flat.specs.declared.statement.Statement.{Statement}
use Rattle.uc_flat.specs.declared.flat.Flat.{Flat}
use Rattle.uc_flat.specs.declared.expression.Expression.{Expression}
use Rattle.uc_flat.specs.declared.flat.Formula.{Formula}
use Rattle.uc_flat.specs.Reading.{value_of}
use Rattle.uc_flat.specs.Drawn.{Drawn, free, drawn}
use Rattle.uc_flat.specs.Flats.{cell_types, wider_types, repeated, axioms_of}

-- the free values of these types, from a number on
unfoldable pub free_values : List Value → List Ty → ℕ → List Value
free_values frees [] n = []
free_values frees (ty ∷ types) n = free frees ty n ∷ free_values frees types (n + 1)

-- Before all init code each cell has a free value, which is a choice.
abbrev pub begun : List Value → List Ty → ℕ → Drawn
begun frees types n = record {
  cells = free_values frees types n;
  goes = true;
  taken = true;
  chosen = free_values frees types n;
  sites = [];
  next = n + length types;
}

-- the cells, and behind them the further ones as they begin
abbrev pub widened : Model → List Ty → List Expression → List Value → List Value
widened m types further cells = cells ++ map (value_of m types cells) further

abbrev pub wider : Model → List Ty → List Expression → Drawn → Drawn
wider m types further r = record { cells = widened m types further r.cells; goes = r.goes; taken = r.taken; chosen = r.chosen; sites = r.sites; next = r.next }

-- the first n cells alone
abbrev pub narrower : ℕ → Drawn → Drawn
narrower n r = record { cells = take n r.cells; goes = r.goes; taken = r.taken; chosen = r.chosen; sites = r.sites; next = r.next }

-- The state after the init code, which runs over the cells and the further ones, in one list; n is the number of the first free value.
unfoldable pub started : Model → List Ty → List Expression → List Statement → ℕ → Drawn
started m types further init n = narrower (length types) (drawn m (wider_types types further) m.symbols init (wider m types further (begun m.symbols types n)))

-- a step begins with the old cells, and with the same values as new cells
abbrev pub doubled : Drawn → Drawn
doubled r = record { cells = r.cells ++ r.cells; goes = r.goes; taken = true; chosen = []; sites = []; next = r.next }

-- what it leaves is the new cells
abbrev pub later : ℕ → Drawn → Drawn
later n r = record { cells = drop n r.cells; goes = r.goes; taken = r.taken; chosen = r.chosen; sites = r.sites; next = r.next }

-- A step's code runs over the old and the new cells, in one list.
unfoldable pub stepped : Model → List Ty → List Statement → Drawn → Drawn
stepped m types step r = later (length types) (drawn m (types ++ types) m.symbols step (doubled r))

-- the place after n steps
unfoldable pub seen : Model → List Ty → List Statement → Drawn → ℕ → Drawn
seen m types step r zero = r
seen m types step r (suc n) = stepped m types step (seen m types step r n)

-- the initial state of a design, where n is the number of the first free value
abbrev pub initial : Flat → ℕ → Model → Drawn
initial f n m = started m (cell_types f) f.further f.init n

abbrev pub after_step : Flat → Model → Drawn → Drawn
after_step f m = stepped m (cell_types f) f.step

-- the state after so many steps from the initial state
abbrev pub reached : Flat → ℕ → Model → ℕ → Drawn
reached f first m n = seen m (cell_types f) f.step (initial f first m) n

-- the value of a formula in the cells of its copies
abbrev pub formula_in : Flat → Formula → Model → List Value → Value
formula_in f x m cells = value_of m (repeated x.copies (cell_types f)) cells x.condition

abbrev pub holds_in : Flat → Formula → Model → List Value → Bool
holds_in f x m cells = truth_of (formula_in f x m cells)

-- every axiom is true under the constants and functions of the model
abbrev pub axioms_hold : Flat → Model → Bool
axioms_hold f m = list_all (λ x. holds_in f x m []) (axioms_of f)

-- all axioms and all assumptions hold, and the formula is false in the cells
abbrev pub is_refuted : Flat → Formula → Model → Drawn → Bool
is_refuted f x m r = axioms_hold f m && (r.goes && not (holds_in f x m r.cells))
