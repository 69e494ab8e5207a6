-- Copies that run on free values of one model.
use Rattle.std.specs.Prelude.{ℕ, zero, suc, ◌+◌, ◌*◌, Bool, true, ◌&&◌, List, [], ◌∷◌, ◌++◌, map, take, drop, length}
use Rattle.std.specs.List.{list_all}
use Rattle.uc_values.specs.declared.value.Value.{Value}
use Rattle.uc_ops.specs.declared.model.Model.{Model}
use Rattle.uc_flat.specs.declared.flat.Flat.{Flat}
use Rattle.uc_flat.specs.Drawn.{Drawn}
use Rattle.uc_flat.specs.Counts.{all_draws}
use Rattle.uc_flat.specs.Flats.{cell_types}
use Rattle.uc_flat.specs.Unrolled.{free_values, initial, seen, axioms_hold}
use Rattle.uc_flat_copies.specs.declared.trace.Start.{Start}
use Rattle.uc_flat_copies.specs.declared.trace.Start.TheVariants.{Initially, Anywhere}
use Rattle.uc_flat_copies.specs.Traces.{CopyLine, ask_all, fails}

-- What a copy reads of a model: the shared symbols, and then those from further on. The functions are the same.
abbrev pub read_by : ℕ → ℕ → Model → Model
read_by shared by m = record { symbols = take shared m.symbols ++ drop (shared + by) m.symbols; tables = m.tables }

-- any state: each cell has a free value, which is no choice
abbrev pub loose : Flat → ℕ → Model → Drawn
loose f n m = record { cells = free_values m.symbols (cell_types f) n; goes = true; taken = true; chosen = []; sites = []; next = n + length (cell_types f) }

abbrev pub begins_at : Flat → Start → ℕ → Model → Drawn
begins_at f Initially n m = initial f n m
begins_at f Anywhere n m = loose f n m

-- the place after so many steps, where the number of the first free value is given
abbrev pub reached_from : Flat → Start → ℕ → Model → ℕ → Drawn
reached_from f start n m k = seen m (cell_types f) f.step (begins_at f start n m) k

-- the same, where the free values are the symbols behind the constants
abbrev pub place : Flat → Start → Model → ℕ → Drawn
place f start m k = reached_from f start (length f.constants) m k

-- how many symbols are read up to the place after so many steps, constants included
abbrev pub first_reads : Flat → Start → ℕ
first_reads f Initially = length f.constants + length (cell_types f) + all_draws f.init
first_reads f Anywhere = length f.constants + length (cell_types f)

unfoldable pub reads_up_to : Flat → Start → ℕ → ℕ
reads_up_to f start zero = first_reads f start
reads_up_to f start (suc k) = reads_up_to f start k + all_draws f.step

-- the models that so many copies read, from copy i on: behind the shared symbols each copy has so many of its own, one copy behind another
unfoldable pub read_from : ℕ → ℕ → Model → ℕ → ℕ → List Model
read_from shared width m i zero = []
read_from shared width m i (suc n) = read_by shared (i * width) m ∷ read_from shared width m (i + 1) n

abbrev pub copies_of : Flat → ℕ → ℕ → Model → List Model
copies_of f width n m = read_from (length f.constants) width m 0 n

-- the cells and the sites of the copies at a position
abbrev pub cells_of : Flat → Start → List Model → ℕ → List (List Value)
cells_of f start ms k = map (λ m. (place f start m k).cells) ms

abbrev pub sites_of : Flat → Start → List Model → ℕ → List (List ℕ)
sites_of f start ms k = map (λ m. (place f start m k).sites) ms

-- the test holds of the numbers below n
unfoldable pub all_below : ℕ → (ℕ → Bool) → Bool
all_below zero test = true
all_below (suc n) test = all_below n test && test n

-- In the copies of a model all axioms and assumptions hold, what the line assumes holds, and what it judges fails.
abbrev pub is_refuted_in : Flat → CopyLine → Model → List Model → Bool
is_refuted_in f l m ms =
    axioms_hold f m
    && (list_all (λ c. (place f l.start c l.steps).goes) ms
    && (all_below l.steps (λ k. ask_all f m (cells_of f l.start ms k) l.before)
    && (all_below (l.steps + 1) (λ k. ask_all f m (cells_of f l.start ms k) l.throughout)
    && fails f m (cells_of f l.start ms l.steps) (sites_of f l.start ms l.steps) l.subject)))

abbrev pub is_refuted_by : Flat → CopyLine → ℕ → Model → Bool
is_refuted_by f l width m = is_refuted_in f l m (copies_of f width l.copies m)
