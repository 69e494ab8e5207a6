-- A search on the problem of a lowered goal.
use Rattle.std.specs.Prelude.{◌≡◌, ℕ, ◌+◌, ◌≤◌, ◌^◌, Bool as Truth, true, false, ◌&&◌, List, [], ◌∷◌, ◌++◌, length, Option, Some, zero, suc}
use Rattle.uc_circuit.specs.Clauses.{Satisfies}
use Rattle.uc_ops.specs.declared.model.Model.{Model}
use Rattle.uc_ops.specs.declared.node.Node.{Node}
use Rattle.uc_terms.specs.Laws.{IsModelOf}
use Rattle.uc_log.specs.declared.atom.Atom.{Atom}
use Rattle.uc_log.specs.declared.atom.Atom.TheVariants.{Free}
use Rattle.uc_log.specs.declared.entry.Entry.{Entry}
use Rattle.uc_log.specs.Problems.{Question, IsQuestion}
use Rattle.uc_log.specs.Entries.{clauses_of, Accepts}
use Rattle.uc_blast.specs.Blasting.{StandsFor, HasInputs, AreBits}
use Rattle.uc_solver.specs.declared.search.Found.{Found}
use Rattle.uc_solver.specs.declared.search.Found.TheVariants.{Model as Candidate, Refuted}
use Rattle.uc_solver.specs.declared.answer.SolveError.{SolveError}
use Rattle.uc_solver.specs.declared.answer.SolveError.TheVariants.{NoMemory, Budget}

-- the atom is free
abbrev pub is_free : Atom → Truth
is_free Free = true
is_free other = false

-- the first atom is free
abbrev pub starts_free : List Atom → Truth
starts_free [] = false
starts_free (atom ∷ atoms) = is_free atom

-- The problem is that of a goal that comes out as true. The problem of a constant goal alone has a free input, with a gate that is never true: the
-- goal is that gate, or its negation where the constant is true.
abbrev pub is_true_question : Question → Truth
is_true_question q = starts_free q.atoms && q.goal.neg

-- the problem stands for a term, and is no other than the one of its inputs
pub record IsProblemOf (nodes : List Node) (u : ℕ) (q : Question) : Type 0 where
  pub stands : StandsFor nodes u q
  pub inputs : HasInputs nodes u q

-- unless the goal comes out as a constant, the budget is at least 2 to the number of inputs
abbrev pub FitsBudget : List Node → ℕ → Question → ℕ → Type 0
FitsBudget nodes u q budget = AreBits nodes u q.atoms → 2 ^ length q.atoms ≤ budget

-- the value of an input, and nothing for a gate
abbrev pub given_if : Truth → Truth → List Truth
given_if true b = b ∷ []
given_if false b = []

-- the values of the first variables
abbrev pub first_values : (ℕ → Truth) → ℕ → List Truth
first_values v zero = []
first_values v (suc n) = first_values v n ++ v n ∷ []

-- the values make each clause of the problem true, which is one of the term and not that of a goal that comes out as true
pub record IsCandidate (nodes : List Node) (u : ℕ) (q : Question) (v : ℕ → Truth) : Type 0 where
  pub fine : IsQuestion q
  pub problem : IsProblemOf nodes u q
  pub not_true : is_true_question q ≡ false
  pub satisfied : Satisfies v (clauses_of q)

-- the same of the opened problem
pub record IsOpenCandidate (nodes : List Node) (u : ℕ) (opened : Option Question) (v : ℕ → Truth) : Type 0 where
  pub question : Question
  pub is : opened ≡ Some question
  pub candidate : IsCandidate nodes u question v

-- what was found: a model of the term, or an accepted log of the opened problem
abbrev pub IsFound : List Node → ℕ → Question → Option Question → Found → Type 0
IsFound nodes u q opened (Candidate m) = IsModelOf m nodes u
IsFound nodes u q opened (Refuted log) = (opened ≡ Some q) × Accepts nodes q log

-- the budget was spent for the problem
pub record IsSpentFor (q : Question) (opened : Option Question) (spent budget before after : ℕ) : Type 0 where
  pub all : spent ≡ budget
  pub own : opened ≡ Some q
  pub rose : before + budget ≤ after

abbrev pub IsSearchCause : Question → Option Question → ℕ → ℕ → ℕ → ℕ → SolveError → Type 0
IsSearchCause q opened here budget before after NoMemory = Unit {0}
IsSearchCause q opened here budget before after Budget = IsSpentFor q opened here budget before after
