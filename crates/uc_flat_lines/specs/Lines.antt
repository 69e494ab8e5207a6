-- The lines of a design up to a number of steps, and what is right of their verdicts.
use Rattle.std.specs.Prelude.{◌≡◌, ℕ, zero, suc, ◌+◌, ◌*◌, ◌<◌, ◌≤◌, ◌^◌, Bool, true, false, nat_eq, List, [], ◌++◌, map, length, slice_get, count_by, Option, None, Some, All}
use Rattle.uc_flat.specs.declared.flat.Flat.{Flat}
use Rattle.uc_flat.specs.declared.flat.Formula.{Formula}
use Rattle.uc_flat.specs.Drawn.{listed_if}
use Rattle.uc_symstep.specs.Known.{supply_from}
use Rattle.uc_lower.specs.Bits.{type_bits}
use Rattle.uc_flat_copies.specs.declared.trace.FlatCopies.{FlatCopies}
use Rattle.uc_flat_copies.specs.declared.trace.Start.{Start}
use Rattle.uc_flat_copies.specs.Traces.{RefutesCopies}
use Rattle.uc_flat_copies.specs.Lines.{line_over}
use Rattle.uc_flat_lines.specs.declared.line.FlatLine.{FlatLine}
use Rattle.uc_flat_lines.specs.declared.line.FlatVerdict.{FlatVerdict}
use Rattle.uc_flat_lines.specs.declared.line.FlatVerdict.TheVariants.{Passed, Failed, Undef}
use Rattle.uc_flat_lines.specs.declared.line.FlatWhy.TheVariants.{Budget}

-- whether there is a formula and it speaks of one copy
abbrev pub speaks_of_one : Option Formula → Bool
speaks_of_one None = false
speaks_of_one (Some x) = nat_eq x.copies 1

-- the numbers below n of the formulas of one copy, in order: axioms speak of no copy
unfoldable pub singles_below : Flat → ℕ → List ℕ
singles_below f zero = []
singles_below f (suc k) = singles_below f k ++ listed_if (speaks_of_one (slice_get f.formulas k)) k

-- after so many steps there is a line for each formula of one copy whose number is below n
abbrev pub lines_of : Flat → ℕ → ℕ → List (ℕ × ℕ)
lines_of f steps n = map (λ k. (steps, k)) (singles_below f n)

abbrev pub step_lines : Flat → ℕ → List (ℕ × ℕ)
step_lines f steps = lines_of f steps (length f.formulas)

-- the lines after 0, 1 and so on, fewer than n steps
unfoldable pub lines_below : Flat → ℕ → List (ℕ × ℕ)
lines_below f zero = []
lines_below f (suc n) = lines_below f n ++ step_lines f n

-- A verdict on a formula after n steps: passed where no trace refutes it, failed by a trace that does.
abbrev pub IsFlatVerdict : Flat → Start → Formula → ℕ → FlatVerdict → Type 0
IsFlatVerdict f start x n Passed = (t : FlatCopies) → RefutesCopies f (line_over f start n x) t → ⊥
IsFlatVerdict f start x n (Failed t) = RefutesCopies f (line_over f start n x) t
IsFlatVerdict f start x n (Undef why) = Unit {0}

-- the line has a verdict on its formula after its steps
abbrev pub IsRightLine : Flat → Start → FlatLine → Type 0
IsRightLine f start l = (x : Formula) → slice_get f.formulas l.formula ≡ Some x → IsFlatVerdict f start x l.steps l.verdict

abbrev pub is_out_of_budget : FlatVerdict → Bool
is_out_of_budget (Undef Budget) = true
is_out_of_budget other = false

-- The free bits of a line after n steps: those of the types of the constants, of the cells and, from an initial state, of the free values that the init code draws, and n times those of the free values that a step draws.
abbrev pub free_bits : Flat → Start → ℕ → ℕ
free_bits f start n = type_bits (supply_from f start n)

-- A line is undecided by its budget only where the budget is below 2 to its free bits.
abbrev pub IsHonestVerdict : Flat → Start → ℕ → ℕ → FlatVerdict → Type 0
IsHonestVerdict f start budget n (Undef Budget) = budget < 2 ^ free_bits f start n
IsHonestVerdict f start budget n other = Unit {0}

abbrev pub IsHonestLine : Flat → Start → ℕ → FlatLine → Type 0
IsHonestLine f start budget l = IsHonestVerdict f start budget l.steps l.verdict

-- These lines, of runs or of linked states, are judged, in order, each with a right verdict. Each one that is undecided by its budget spent it, and none spent more: before and after count the entries that were spent in all.
pub record AreFlatJudged (f : Flat) (start : Start) (budget before after : ℕ) (lines : List (ℕ × ℕ)) (ls : List FlatLine) : Type 0 where
  pub are : map (λ l. (l.steps, l.formula)) ls ≡ lines
  pub right : All (IsRightLine f start) ls
  pub spent : before + budget * count_by (λ l. is_out_of_budget l.verdict) ls ≤ after
  pub few : after ≤ before + 2 ^ 32 * length ls
  pub within : after ≤ before + budget * length ls
  pub honest : All (IsHonestLine f start budget) ls
