-- Propagation: the literals of the trail whose negations were looked at, and what has been made true since.
use Rattle.std.specs.Prelude.{◌≡◌, ◌≢◌, ℕ, ◌+◌, ◌/◌, ◌<◌, ◌≤◌, ◌++◌, ◌∷◌, ◌⊎◌, Bool, true, false, List, [], Option, None, Some, MatchOption, length, take, slice_index_or, All}
use Rattle.uc_circuit.specs.declared.literal.Lit.{Lit}
use Rattle.uc_circuit.specs.Literals.{negate}
use Rattle.uc_circuit.specs.Values.{IsFalse, IsFalsified}
use Rattle.uc_rings.specs.Lists.{AreApart, slots_of}
use Rattle.uc_rings.specs.Pairs.{HasTrue, partner}
use Rattle.uc_rings.specs.Watched.{Guards, AllGuard, Below}
use Rattle.uc_learner.specs.declared.state.State.{State}
use Rattle.uc_learner.specs.declared.state.Step.{Step}
use Rattle.uc_learner.specs.Trail.{values_at}
use Rattle.uc_learner.specs.Moves.{Onward, NoDecision, unset_count}

-- the values after the first steps
abbrev pub passed : State → ℕ → List (Option Bool)
passed s i = values_at (length s.inputs.items) s.trail.items i

-- the first steps were looked at: where they make a watched literal false, the clause's other one is true
pub record Waiting (s : State) : Type 0 where
  pub inside : s.head ≤ length s.trail.items
  pub guards : AllGuard (passed s s.head) s.values.items s.watches.watched.items

-- forced literals were made true
pub record Gone (before after : State) : Type 0 where
  pub onward : Onward before after
  pub undecided : NoDecision before → NoDecision after
  pub sum : unset_count after.values.items + length after.trail.items ≡ unset_count before.values.items + length before.trail.items
  pub below : Below before.values.items after.values.items
  pub longer : length before.trail.items ≤ length after.trail.items
  pub early : (i : ℕ) → i ≤ length before.trail.items → passed after i ≡ passed before i
  pub narrow : after.watches.narrow.items ≡ before.watches.narrow.items
  pub head : after.head ≡ before.head

-- each clause of these numbers has a true literal
abbrev pub AreTrue : State → List ℕ → Type 0
AreTrue s numbers = All (λ c. HasTrue s.values.items (slice_index_or s.clauses.items c [])) numbers

-- the clause of that number is false
abbrev pub IsConflict : State → ℕ → Type 0
IsConflict s c = (c < length s.clauses.items) × IsFalsified s.values.items (slice_index_or s.clauses.items c [])

-- None where the clauses without two different literals are true, else the number of a false clause
abbrev pub NarrowEnds : State → Option ℕ → Type 0
NarrowEnds s r = MatchOption r (AreTrue s s.watches.narrow.items) (IsConflict s)

-- the slot's list keeps the slot or loses it
abbrev pub Goes : State → State → ℕ → Lit → Type 0
Goes before after slot f =
    (front rest : List ℕ) → AreApart before.watches.rings → slots_of before.watches.rings f ≡ front ++ slot ∷ rest
    → (slots_of after.watches.rings f ≡ front ++ slot ∷ rest) ⊎ (slots_of after.watches.rings f ≡ front ++ rest)

-- the slot was looked after: it guards, and each other slot guards where it did
abbrev pub Guarded : State → State → ℕ → Type 0
Guarded before after slot =
    (q : List (Option Bool)) (u : ℕ) → Below q before.values.items
    → ((b : Lit) → slice_index_or before.watches.watched.items (partner slot) None ≡ Some b → IsFalse q b → ⊥)
    → (u ≢ slot → Guards q before.values.items before.watches.watched.items u)
    → Guards q after.values.items after.watches.watched.items u

-- after a look at a slot whose literal is false
pub record Mended (before : State) (slot : ℕ) (after : State) (conflict : Bool) : Type 0 where
  pub gone : Gone before after
  pub conflicts : conflict ≡ true → IsConflict after (slot / 2)
  pub guards : conflict ≡ false → Guarded before after slot
  pub goes : conflict ≡ false → (f : Lit) → slice_index_or before.watches.watched.items slot None ≡ Some f → IsFalse before.values.items f → Goes before after slot f

-- the slot watches a literal that is false
pub record IsAtFalse (s : State) (slot : ℕ) : Type 0 where
  pub literal : Lit
  pub watched : slice_index_or s.watches.watched.items slot None ≡ Some literal
  pub is_false : IsFalse s.values.items literal

-- the literal is the negation of the next one to look at
pub record IsNext (s : State) (f : Lit) : Type 0 where
  pub inside : s.head < length s.trail.items
  pub is : (d : Step) → f ≡ negate (slice_index_or s.trail.items s.head d).literal

-- None where one literal more was looked at, else the number of a false clause
pub record Visited (before after : State) (r : Option ℕ) : Type 0 where
  pub gone : Gone before after
  pub ends : MatchOption r (AllGuard (passed after (after.head + 1)) after.values.items after.watches.watched.items) (IsConflict after)
