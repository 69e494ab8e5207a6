-- What each statement writes and reads.
use Rattle.std.specs.Prelude.{◌≡◌, ℕ, Bool, true, false, not, List, [], Option, Some, None, slice_get, length}
use Rattle.std.specs.Option.{option_map, option_to_list, is_some}
use Rattle.std.specs.List.{list_all, filter_map}
use Rattle.uc_syntax.specs.declared.statement.Stmt.{Stmt}
use Rattle.uc_flat_expressions.specs.declared.typed.Meant.{Meant}
use Rattle.uc_flat_code.specs.declared.writing.Writing.{Writing}
use Rattle.uc_flat_code.specs.Code.{MayBe, code_of}
use Rattle.uc_graph.specs.Order.{has, needs}
use Rattle.uc_flat_code.specs.declared.once.Part.{Part}
use Rattle.uc_flat_code.specs.Once.{touched, writer, written_by}
use Rattle.uc_flat_code.specs.Written.{written_parts}
use Rattle.uc_flat_order.specs.declared.uses.Uses.{Uses}
use Rattle.uc_flat_order.specs.Arranged.{in_turn}

-- no part of the second list overlaps one of the first
abbrev pub spared : List Part → List Part → Bool
spared before ps = list_all (λ p. not (touched before p)) ps

-- the code over cells of the statement at a place
abbrev pub code_at : List Meant → Writing → List Stmt → ℕ → MayBe
code_at names w code k = code_of names w (option_to_list (slice_get code k))

-- what a statement writes and reads, where it is at one with itself
abbrev pub use_of : List Meant → ℕ → Stmt → Option Uses
use_of names n s = option_map (λ ps. record { parts = ps; writes = written_parts names s }) (writer names n s [])

-- for each statement, by its place, the places of those that write what it writes or reads
pub record AreNeeds (uses : List Uses) (graph : List (List ℕ)) : Type 0 where
  pub each : length graph ≡ length uses
  pub are : (i j : ℕ) (u v : Uses) → slice_get uses i ≡ Some u → slice_get uses j ≡ Some v → has (needs graph i) j ≡ not (spared u.parts v.writes)

-- the places of the statements in turn, where this writes no part again
abbrev pub IsOrder : List Meant → ℕ → List Stmt → Option (List ℕ) → Type 0
IsOrder names n code (Some order) = (filter_map (slice_get code) order ≡ in_turn names n code) × (is_some (written_by names n (in_turn names n code) []) ≡ true)
IsOrder names n code None = is_some (written_by names n (in_turn names n code) []) ≡ false
