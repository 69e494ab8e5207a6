-- Watched literals: each clause with two different literals watches two of them.
use Rattle.std.specs.Prelude.{◌≡◌, ◌≢◌, ℕ, ◌+◌, ◌*◌, ◌<◌, Bool, List, [], ◌∷◌, ◌++◌, Option, None, Some, MatchOption, length, All, Contains, slice_index_or}
use Rattle.uc_circuit.specs.declared.literal.Lit.{Lit}
use Rattle.uc_circuit.specs.Values.{IsFalse}
use Rattle.uc_rings.specs.Lists.{Lists, InNoList, slots_of}
use Rattle.uc_rings.specs.declared.watches.Watches.{Watches}
use Rattle.uc_rings.specs.Pairs.{IsTrueIn, HasTwo, partner}

-- the two slots of a clause watch two different literals of it where it has two, and none otherwise
abbrev pub WatchFits : List Lit → Option Lit → Option Lit → Type 0
WatchFits clause (Some a) (Some b) = Contains clause a × Contains clause b × (a ≢ b)
WatchFits clause None None = HasTwo clause → ⊥
WatchFits clause (Some a) None = ⊥
WatchFits clause None (Some b) = ⊥

-- the watches of these clauses over so many variables: each slot stands in the list of the literal that it watches, and in no other
pub record Linked (clauses : List (List Lit)) (variables : ℕ) (w : Watches) : Type 0 where
  pub slots : length w.watched.items ≡ 2 * length clauses
  pub count : w.rings.clauses ≡ length clauses
  pub lists : length w.rings.lists ≡ w.literals
  pub literals : w.literals ≡ 2 * variables
  pub stands : (s : ℕ) (l : Lit) → slice_index_or w.watched.items s None ≡ Some l → Contains (slots_of w.rings l) s
  pub watches : (s : ℕ) (l : Lit) → Contains (slots_of w.rings l) s → slice_index_or w.watched.items s None ≡ Some l
  pub fits : (c : ℕ) → c < length clauses → WatchFits (slice_index_or clauses c []) (slice_index_or w.watched.items (2 * c) None) (slice_index_or w.watched.items (2 * c + 1) None)
  pub narrow : (c : ℕ) → c < length clauses → slice_index_or w.watched.items (2 * c) None ≡ None → Contains w.narrow.items c
  pub narrow_inside : All (λ c. c < length clauses) w.narrow.items
  pub narrow_none : All (λ c. slice_index_or w.watched.items (2 * c) None ≡ None) w.narrow.items

-- the watches of some clauses
pub record IsLinked (w : Watches) : Type 0 where
  pub clauses : List (List Lit)
  pub variables : ℕ
  pub linked : Linked clauses variables w

-- the two slots of a clause stand in the lists of two different literals of it
pub record StandsInTwo (clause : List Lit) (rings : Lists) (c : ℕ) : Type 0 where
  pub first : Lit
  pub second : Lit
  pub first_there : Contains clause first
  pub second_there : Contains clause second
  pub different : first ≢ second
  pub first_stands : Contains (slots_of rings first) (2 * c)
  pub second_stands : Contains (slots_of rings second) (2 * c + 1)

-- where the clause has two different literals its slots stand in the lists of two, and otherwise in none
pub record IsWatched (clause : List Lit) (rings : Lists) (c : ℕ) : Type 0 where
  pub two : HasTwo clause → StandsInTwo clause rings c
  pub none : (HasTwo clause → ⊥) → InNoList rings (2 * c) × InNoList rings (2 * c + 1)

-- a clause that begins with two different literals watches these, and one of a single literal watches none
abbrev pub WatchesFirst : List Lit → Option Lit → Option Lit → Type 0
WatchesFirst [] o p = (o ≡ None) × (p ≡ None)
WatchesFirst (a ∷ []) o p = (o ≡ None) × (p ≡ None)
WatchesFirst (a ∷ b ∷ rest) o p = (a ≢ b) → (o ≡ Some a) × (p ≡ Some b)

-- the slots of one clause more
pub record HasAdded (before : List (Option Lit)) (clause : List Lit) (after : List (Option Lit)) : Type 0 where
  pub first : Option Lit
  pub second : Option Lit
  pub is : after ≡ (before ++ first ∷ []) ++ second ∷ []
  pub front : WatchesFirst clause first second

-- the literal, if there is one, is true
abbrev pub OtherIsTrue : List (Option Bool) → Option Lit → Type 0
OtherIsTrue values o = MatchOption o ⊥ (IsTrueIn values)

-- where the slot's literal was false in the earlier values, the other watched literal of its clause is true now
abbrev pub Guards : List (Option Bool) → List (Option Bool) → List (Option Lit) → ℕ → Type 0
Guards passed now watched s =
    (l : Lit) → slice_index_or watched s None ≡ Some l → IsFalse passed l → OtherIsTrue now (slice_index_or watched (partner s) None)

abbrev pub AllGuard : List (Option Bool) → List (Option Bool) → List (Option Lit) → Type 0
AllGuard passed now watched = (s : ℕ) → Guards passed now watched s

-- later values have each earlier value
abbrev pub Below : List (Option Bool) → List (Option Bool) → Type 0
Below v w = (x : ℕ) (b : Bool) → slice_index_or v x None ≡ Some b → slice_index_or w x None ≡ Some b
