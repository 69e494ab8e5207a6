-- The statements that write parts of cells, listed by the numbers of the cells.
use Rattle.std.specs.Prelude.{◌≡◌, ℕ, ◌+◌, ◌%◌, Bool, true, false, List, [], length, Option, Some, None, slice_get, slice_index_or}
use Rattle.std.specs.List.{list_all}
use Rattle.uc_graph.specs.Order.{has}
use Rattle.uc_flat_code.specs.declared.once.Part.{Part}
use Rattle.uc_flat_code.specs.Once.{touched}
use Rattle.uc_flat_order.specs.declared.uses.Uses.{Uses}

-- a place is listed for each of these parts, where there are so many lists
abbrev pub is_listed : List (List ℕ) → ℕ → ℕ → List Part → Bool
is_listed lists count n ps = list_all (λ p. has (slice_index_or lists (p.cell % count) []) n) ps

-- each statement is listed for each part that it writes
abbrev pub AreListed : List Uses → List (List ℕ) → Type 0
AreListed uses lists = (n : ℕ) (u : Uses) → slice_get uses n ≡ Some u → is_listed lists (length uses + 1) n u.writes ≡ true

-- a place is listed for these parts too
pub record Grown (old new : List (List ℕ)) (count : ℕ) (ps : List Part) (n : ℕ) : Type 0 where
  pub even : length new ≡ length old
  pub kept : (b m : ℕ) → has (slice_index_or old b []) m ≡ true → has (slice_index_or new b []) m ≡ true
  pub listed : is_listed new count n ps ≡ true

abbrev pub over : Part → Option Uses → Bool
over p None = false
over p (Some u) = touched u.writes p

-- the statement at a place writes a part that overlaps this one
abbrev pub writes_over : List Uses → ℕ → Part → Bool
writes_over uses n p = over p (slice_get uses n)
