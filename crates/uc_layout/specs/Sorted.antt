-- Lists of fields, one for each cell.
use Rattle.std.specs.Prelude.{◌≡◌, ℕ, ◌<◌, List, [], length, Option, Some, None, slice_get}
use Rattle.std.specs.Borrow.{Bor}
use Rattle.std.specs.Global.{Vec}
use Rattle.uc_meaning.specs.Steps.{CellPart}
use Rattle.uc_layout.specs.declared.instances_cell.Cell.{Cell}
use Rattle.uc_layout.specs.Kept.{lent, written_in}

abbrev pub listed : Option (Vec (Bor (List ℕ))) → List (Bor (List ℕ))
listed None = []
listed (Some v) = v.items

abbrev pub list_at : List (Vec (Bor (List ℕ))) → ℕ → List (Bor (List ℕ))
list_at cells k = listed (slice_get cells k)

-- the fields that lead to the written parts of each cell
abbrev pub AreParts : List Cell → List (Vec (Bor (List ℕ))) → List CellPart → Type 0
AreParts cells parts written = (k : ℕ) → k < length cells → lent (list_at parts k) ≡ written_in k written
