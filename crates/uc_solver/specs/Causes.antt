-- Why a search and a solver stop.
use Rattle.std.specs.Prelude.{◌≡◌}
use Rattle.uc_learner.specs.declared.learn.LearnError.{LearnError}
use Rattle.uc_learner.specs.declared.learn.LearnError.TheVariants.{NoMemory as SearchMemory, Budget as SearchBudget}
use Rattle.uc_solver.specs.declared.answer.SolveError.{SolveError}
use Rattle.uc_solver.specs.declared.answer.SolveError.TheVariants.{NoMemory, Budget}

-- the cause is that of the search
abbrev pub IsOf : LearnError → SolveError → Type 0
IsOf SearchMemory e = e ≡ NoMemory
IsOf SearchBudget e = e ≡ Budget
