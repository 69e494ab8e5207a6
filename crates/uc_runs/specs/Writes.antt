-- What the parts of a write stand for.
use Rattle.std.specs.Prelude.{ℕ, Bool, nat_eq, List, take, slice_set, Option, Some, None}
use Rattle.std.specs.List.{list_any}
use Rattle.uc_values.specs.declared.value.Value.{Value}
use Rattle.uc_meaning.specs.declared.scope.Local.{Local}
use Rattle.uc_meaning.specs.Lookup.{System}
use Rattle.uc_meaning.specs.Cells.{cell_of}
use Rattle.uc_meaning.specs.Code.{Reached as NameAt}
use Rattle.uc_runs.specs.declared.cell.Reached.{Reached}

-- a name of an instance whose path is the beginning of another one
abbrev pub reached_parts : List ℕ → Reached → NameAt
reached_parts path r = (take r.depth path, r.name)

abbrev pub cell_at : System → NameAt → Option ℕ
cell_at system c = cell_of system c.0 c.1

-- whether there is a local of the name
abbrev pub has_local : List Local → ℕ → Bool
has_local locals x = list_any (λ l. nat_eq l.name x) locals

-- the cells with the one at a place changed, if a place is given
abbrev pub with_cell : List Value → Option ℕ → Value → List Value
with_cell cells None v = cells
with_cell cells (Some k) v = slice_set cells k v
