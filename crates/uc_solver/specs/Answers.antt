-- What the answers of the solver say.
use Rattle.std.specs.Prelude.{◌≡◌, ℕ, ◌+◌, ◌≤◌, List, Option}
use Rattle.uc_ops.specs.declared.model.Model.{Model}
use Rattle.uc_ops.specs.declared.node.Node.{Node}
use Rattle.uc_terms.specs.Laws.{IsModelOf}
use Rattle.uc_log.specs.declared.entry.Entry.{Entry}
use Rattle.uc_log.specs.Problems.{Question}
use Rattle.uc_learner.specs.Opened.{AcceptsFor}
use Rattle.uc_solver.specs.declared.answer.Answer.{Answer}
use Rattle.uc_solver.specs.declared.answer.Answer.TheVariants.{Model as Found, Refuted}
use Rattle.uc_solver.specs.declared.answer.SolveError.{SolveError}
use Rattle.uc_solver.specs.declared.answer.SolveError.TheVariants.{NoMemory, Budget}
use Rattle.uc_solver.specs.Stands.{OpenedStands}

-- the log is accepted for the opened problem, which stands for the goal, and no model makes the goal true
pub record IsRefuted (nodes : List Node) (goal : ℕ) (opened : Option Question) (log : List Entry) : Type 0 where
  pub stands : OpenedStands nodes goal opened
  pub accepted : AcceptsFor nodes opened log
  pub no_model : (m : Model) → IsModelOf m nodes goal → ⊥

-- the goal is true under the model, which fits it; or the log refutes it
abbrev pub IsRight : List Node → ℕ → Option Question → Answer → Type 0
IsRight nodes goal opened (Found m) = IsModelOf m nodes goal
IsRight nodes goal opened (Refuted log) = IsRefuted nodes goal opened log

-- the budget was spent for the opened problem, which stands for the goal, and in all as many entries more were spent
pub record IsSpent (nodes : List Node) (goal : ℕ) (opened : Option Question) (spent budget before after : ℕ) : Type 0 where
  pub all : spent ≡ budget
  pub stands : OpenedStands nodes goal opened
  pub rose : before + budget ≤ after

-- why there is no answer: memory is wanted, or the budget is spent
abbrev pub IsCause : List Node → ℕ → Option Question → ℕ → ℕ → ℕ → ℕ → SolveError → Type 0
IsCause nodes goal opened here budget before after NoMemory = Unit {0}
IsCause nodes goal opened here budget before after Budget = IsSpent nodes goal opened here budget before after
