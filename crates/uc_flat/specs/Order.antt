-- A next block as a constraint, and its guarded statements taken in order.
use Rattle.std.specs.Prelude.{◌≡◌, ℕ, ◌<◌, Bool, true, false, ◌&&◌, ◌||◌, nat_eq, if◌then◌else◌, List, [], ◌∷◌, length, slice_set, map, Option, Some, None}
use Rattle.std.specs.List.{list_all}
use Rattle.uc_values.specs.declared.value.Value.{Value}
use Rattle.uc_values.specs.Values.{truth_of, same_truth}
use Rattle.uc_ops.specs.Meaning.{part}
use Rattle.uc_flat.specs.declared.expression.Expression.{Expression}

-- The values of expressions, where the cells have these values.
abbrev pub Reader : Type 0
Reader = List Value → Expression → Value

-- A condition with the truth that it must have.
pub record Guard : Type 0 where
  pub condition : Expression
  pub wanted : Bool

-- A statement that gives a cell the value of a source, or any value, where all guards are as wanted. The cells are those of the old and of the new state, in one list.
pub record Guarded : Type 0 where
  pub guards : List Guard
  pub cell : ℕ
  pub source : Option Expression

abbrev pub meets : Reader → List Value → Guard → Bool
meets reads cells g = same_truth (truth_of (reads cells g.condition)) g.wanted

abbrev pub is_taken : Reader → List Value → Guarded → Bool
is_taken reads cells g = list_all (meets reads cells) g.guards

abbrev pub source_value : Reader → List Value → Value → Option Expression → Value
source_value reads cells free None = free
source_value reads cells free (Some e) = reads cells e

-- the cells after a statement, where a free value is at hand
abbrev pub after : Reader → Value → Guarded → List Value → List Value
after reads free g cells = if is_taken reads cells g then slice_set cells g.cell (source_value reads cells free g.source) else cells

-- the statements in order, with a free value for each
unfoldable pub taken_in_order : Reader → List Value → List Guarded → List Value → List Value
taken_in_order reads (free ∷ frees) (g ∷ gs) cells = taken_in_order reads frees gs (after reads free g cells)
taken_in_order reads frees gs cells = cells

-- a statement as a constraint: where it is taken, its cell has the value of its source
abbrev pub Asks : Reader → List Value → Guarded → Type 0
Asks reads cells g = is_taken reads cells g ≡ true → (e : Expression) → g.source ≡ Some e → part cells g.cell ≡ reads cells e

unfoldable pub AskAll : Reader → List Value → List Guarded → Type 0
AskAll reads cells [] = Unit {0}
AskAll reads cells (g ∷ gs) = Asks reads cells g × AskAll reads cells gs

-- some statement that is taken writes the cell
unfoldable pub is_written : Reader → List Value → List Guarded → ℕ → Bool
is_written reads cells [] k = false
is_written reads cells (g ∷ gs) k = (is_taken reads cells g && nat_eq g.cell k) || is_written reads cells gs k

-- From one list of cells to another by the constraint and the frame rule: what is asked holds in the new list, and what is not written stays.
pub record Allows (reads : Reader) (gs : List Guarded) (old new : List Value) : Type 0 where
  pub lengths : length new ≡ length old
  pub asks : AskAll reads new gs
  pub keeps : (k : ℕ) → is_written reads new gs k ≡ false → part new k ≡ part old k

-- some statement writes the cell, taken or not
unfoldable pub is_target : List Guarded → ℕ → Bool
is_target [] k = false
is_target (g ∷ gs) k = nat_eq g.cell k || is_target gs k

-- the value of an expression is the same where two lists of cells differ only in what the statements write
abbrev pub Ignores : Reader → List Guarded → Expression → Type 0
Ignores reads gs e = (v w : List Value) → ((k : ℕ) → is_target gs k ≡ false → part v k ≡ part w k) → reads v e ≡ reads w e

unfoldable pub GuardsIgnore : Reader → List Guarded → List Guard → Type 0
GuardsIgnore reads gs [] = Unit {0}
GuardsIgnore reads gs (c ∷ cs) = Ignores reads gs c.condition × GuardsIgnore reads gs cs

abbrev pub SourceIgnores : Reader → List Guarded → Option Expression → Type 0
SourceIgnores reads gs None = Unit {0}
SourceIgnores reads gs (Some e) = Ignores reads gs e

-- two statements that write one cell are never both taken
unfoldable pub Apart : Reader → Guarded → List Guarded → Type 0
Apart reads g [] = Unit {0}
Apart reads g (h ∷ hs) = ((cells : List Value) → g.cell ≡ h.cell → is_taken reads cells g ≡ true → is_taken reads cells h ≡ true → ⊥) × Apart reads g hs

-- what is read is written before, and nothing is written twice
unfoldable pub AreOrdered : Reader → ℕ → List Guarded → Type 0
AreOrdered reads n [] = Unit {0}
AreOrdered reads n (g ∷ gs) = (g.cell < n) × GuardsIgnore reads (g ∷ gs) g.guards × SourceIgnores reads (g ∷ gs) g.source × Apart reads g gs × AreOrdered reads n gs

-- the values that a list of cells has for the targets
abbrev pub given : List Value → List Guarded → List Value
given cells gs = map (λ g. part cells g.cell) gs
