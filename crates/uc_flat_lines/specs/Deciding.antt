-- What is decided of a goal, and of a formula after so many steps.
use Rattle.std.specs.Prelude.{◌≡◌, ℕ, ◌+◌, ◌<◌, ◌≤◌, ◌^◌, true, List, slice_get, Option, None, Some, Result, Ok, Err}
use Rattle.uc_values.specs.declared.ty.Ty.{Ty}
use Rattle.uc_ops.specs.declared.model.Model.{Model}
use Rattle.uc_ops.specs.declared.node.Node.{Node}
use Rattle.uc_terms.specs.Laws.{SameUnderEveryModel}
use Rattle.uc_flat.specs.declared.flat.Flat.{Flat}
use Rattle.uc_flat.specs.declared.flat.Formula.{Formula}
use Rattle.uc_symstep.specs.Stands.{holds}
use Rattle.uc_symstep.specs.Known.{IsKnown}
use Rattle.uc_lower.specs.Bits.{type_bits}
use Rattle.uc_log.specs.Problems.{Question}
use Rattle.uc_solver.specs.Stands.{OpenedStands}
use Rattle.uc_solver.specs.declared.answer.Answer.{Answer}
use Rattle.uc_solver.specs.declared.answer.Answer.TheVariants.{Model as Found, Refuted}
use Rattle.uc_solver.specs.declared.answer.SolveError.{SolveError}
use Rattle.uc_solver.specs.declared.answer.SolveError.TheVariants.{NoMemory, Budget as SpentBudget}
use Rattle.uc_flat_copies.specs.declared.trace.FlatCopies.{FlatCopies}
use Rattle.uc_flat_copies.specs.declared.trace.Start.{Start}
use Rattle.uc_flat_copies.specs.Traces.{RefutesCopies}
use Rattle.uc_flat_copies.specs.Lines.{line_over}
use Rattle.uc_obligations.specs.Goals.{IsGoal}
use Rattle.uc_flat_lines.specs.Lines.{free_bits}
use Rattle.uc_flat_lines.specs.declared.line.FlatVerdict.{FlatVerdict}
use Rattle.uc_flat_lines.specs.declared.line.FlatVerdict.TheVariants.{Passed, Failed, Undef}
use Rattle.uc_flat_lines.specs.declared.line.FlatWhy.{FlatWhy}
use Rattle.uc_flat_lines.specs.declared.line.FlatWhy.TheVariants.{Memory, Budget}

-- the term is known by some supply of types
abbrev pub IsKnownBySome : List Node → ℕ → Type 0
IsKnownBySome nodes goal = (supply : List Ty) × IsKnown supply nodes goal

-- a model makes the goal true, or none does
abbrev pub IsSolution : List Node → ℕ → Option Model → Type 0
IsSolution nodes goal None = (m : Model) → holds m nodes goal ≡ true → ⊥
IsSolution nodes goal (Some m) = holds m nodes goal ≡ true

-- a trace refutes the formula after n steps, or none does
abbrev pub IsOutcome : Flat → Start → Formula → ℕ → Option FlatCopies → Type 0
IsOutcome f start x n None = (t : FlatCopies) → RefutesCopies f (line_over f start n x) t → ⊥
IsOutcome f start x n (Some t) = RefutesCopies f (line_over f start n x) t

-- the entries that were spent: at least the budget where there is no answer by it
abbrev pub IsSpentFor : ℕ → ℕ → ℕ → FlatWhy → Type 0
IsSpentFor budget before after Budget = before + budget ≤ after
IsSpentFor budget before after other = before ≤ after

abbrev pub IsSpentOn : ℕ → ℕ → ℕ → FlatVerdict → Type 0
IsSpentOn budget before after (Undef why) = IsSpentFor budget before after why
IsSpentOn budget before after other = before ≤ after

-- A goal is undecided by its budget only where the budget is below 2 to the bits of each supply of types that knows it.
abbrev pub IsHonestFor : ℕ → List Node → ℕ → FlatWhy → Type 0
IsHonestFor budget nodes goal Budget = (supply : List Ty) → IsKnown supply nodes goal → budget < 2 ^ type_bits supply
IsHonestFor budget nodes goal Memory = Unit {0}

-- So is a formula after n steps, with the free bits of its line.
abbrev pub IsHonestAfter : Flat → Start → ℕ → ℕ → FlatWhy → Type 0
IsHonestAfter f start budget n Budget = budget < 2 ^ free_bits f start n
IsHonestAfter f start budget n Memory = Unit {0}

-- A goal is undecided by its budget: the opened problem stands for it, and the budget was spent on that problem.
abbrev pub IsOpenedIn : List Node → ℕ → Option Question → ℕ → ℕ → FlatWhy → Type 0
IsOpenedIn nodes goal opened here budget Budget = OpenedStands nodes goal opened × (here ≡ budget)
IsOpenedIn nodes goal opened here budget other = Unit {0}

-- the problem stands for a term, of whatever table, that has the goal's value under every model
pub record StandsElsewhere (nodes : List Node) (goal : ℕ) (opened : Option Question) : Type 0 where
  pub table : List Node
  pub term : ℕ
  pub same : SameUnderEveryModel table term nodes goal
  pub stands : OpenedStands table term opened

-- So is a goal that was asked in a table of its own.
abbrev pub IsOpenedFor : List Node → ℕ → Option Question → ℕ → ℕ → FlatWhy → Type 0
IsOpenedFor nodes goal opened here budget Budget = StandsElsewhere nodes goal opened × (here ≡ budget)
IsOpenedFor nodes goal opened here budget other = Unit {0}

-- So is formula k after n steps: the problem stands for a term, of whatever table, that is its goal.
abbrev pub IsOpenedAfter : Flat → Start → ℕ → ℕ → Option Question → ℕ → ℕ → FlatWhy → Type 0
IsOpenedAfter f start k n opened here budget Budget =
    (nodes : List Node) × (goal : ℕ) × ((x : Formula) → slice_get f.formulas k ≡ Some x → IsGoal f start x n nodes goal) × OpenedStands nodes goal opened × (here ≡ budget)
IsOpenedAfter f start k n opened here budget other = Unit {0}

abbrev pub IsOpenedOn : Flat → Start → ℕ → ℕ → Option Question → ℕ → ℕ → FlatVerdict → Type 0
IsOpenedOn f start k n opened here budget (Undef why) = IsOpenedAfter f start k n opened here budget why
IsOpenedOn f start k n opened here budget other = Unit {0}

-- what an answer of the solver says of a goal: there is a model, there is none, or the same cause why neither is known
abbrev pub solution_of : Result Answer SolveError → Result (Option Model) FlatWhy
solution_of (Ok (Found m)) = Ok (Some m)
solution_of (Ok (Refuted log)) = Ok None
solution_of (Err SpentBudget) = Err Budget
solution_of (Err NoMemory) = Err Memory

-- the verdict where a trace refutes the formula, where none does, and the same cause where neither is known
abbrev pub verdict_of : Result (Option FlatCopies) FlatWhy → FlatVerdict
verdict_of (Ok (Some t)) = Failed t
verdict_of (Ok None) = Passed
verdict_of (Err why) = Undef why
