-- The lists of slots that rings are seen as.
use Rattle.std.specs.Prelude.{◌≡◌, ◌≢◌, ℕ, ◌+◌, ◌-◌, ◌*◌, ◌<◌, ◌==◌, not, if◌then◌else◌, List, [], ◌∷◌, ◌++◌, Option, None, Some, length, map, filter, replicate, slice_index_or, slice_set, All, Any, AllPairs, Contains}
use Rattle.uc_circuit.specs.declared.literal.Lit.{Lit}

-- how many clauses there are, and for each literal the list of its slots
pub record Lists : Type 0 where
  pub clauses : ℕ
  pub lists : List (List ℕ)

-- the place of a literal's list: the two signs of a variable stand side by side
abbrev pub place_of : Lit → ℕ
place_of l = 2 * l.var + (if l.neg then 1 else 0)

-- the slots of a literal
abbrev pub slots_of : Lists → Lit → List ℕ
slots_of r l = slice_index_or r.lists (place_of l) []

abbrev pub InAList : Lists → ℕ → Type 0
InAList r slot = Any (λ xs. Contains xs slot) r.lists

abbrev pub InNoList : Lists → ℕ → Type 0
InNoList r slot = All (λ xs. Contains xs slot → ⊥) r.lists

abbrev pub first_of : List ℕ → Option ℕ
first_of [] = None
first_of (x ∷ xs) = Some x

-- the slot is put at the front of the literal's list
abbrev pub with_front : Lists → Lit → ℕ → Lists
with_front r l slot = record r { lists = slice_set r.lists (place_of l) (slot ∷ slots_of r l) }

-- the slot is taken out of the list that has it
abbrev pub without : Lists → ℕ → Lists
without r slot = record r { lists = map (λ xs. filter (λ x. not (x == slot)) xs) r.lists }

-- more clauses, and more literals, whose lists are empty
abbrev pub grown : Lists → ℕ → ℕ → Lists
grown r clauses lits = record { clauses = clauses; lists = r.lists ++ replicate (lits - length r.lists) [] }

-- each slot is one of the clauses' two, and stands once at most in one list at most
pub record AreApart (r : Lists) : Type 0 where
  pub slots : All (λ xs. All (λ s. s < 2 * r.clauses) xs) r.lists
  pub once : All (λ xs. AllPairs (λ a b. a ≢ b) xs) r.lists
  pub one_list : (i j s : ℕ) → Contains (slice_index_or r.lists i []) s → Contains (slice_index_or r.lists j []) s → i ≡ j
