-- How links by index keep the lists.
use Rattle.std.specs.Prelude.{◌≡◌, ◌≢◌, ℕ, zero, suc, ◌*◌, ◌/◌, ◌<◌, ◌≤◌, ◌^◌, List, [], ◌∷◌, Option, None, Some, length, map, set, slice_index_or, All, Contains}
use Rattle.uc_rings.specs.declared.rings.Slot.{Slot}
use Rattle.uc_rings.specs.Lists.{Lists}

-- the slots from a start on along the links, so many at most
abbrev pub follow : ℕ → List (Option ℕ) → Option ℕ → List ℕ
follow zero next start = []
follow (suc n) next None = []
follow (suc n) next (Some s) = s ∷ follow n next (slice_index_or next s None)

-- the links lead from the start through these slots to the end
abbrev pub IsChain : List (Option ℕ) → Option ℕ → List ℕ → Type 0
IsChain next start [] = start ≡ None
IsChain next start (s ∷ rest) = (start ≡ Some s) × (s < length next) × IsChain next (slice_index_or next s None) rest

-- each slot's link back is the slot before it
abbrev pub LinksBack : List (Option ℕ) → Option ℕ → List ℕ → Type 0
LinksBack previous before [] = Unit {0}
LinksBack previous before (s ∷ rest) = (slice_index_or previous s None ≡ before) × LinksBack previous (Some s) rest

-- no slot stands twice
abbrev pub NoneTwice : List ℕ → Type 0
NoneTwice [] = Unit {0}
NoneTwice (s ∷ rest) = All (λ x. x ≢ s) rest × NoneTwice rest

-- the parts of the links: the list of each slot, its next and its previous slot
abbrev pub list_parts : List Slot → List (Option ℕ)
list_parts slots = map (λ s. s.list) slots

abbrev pub next_parts : List Slot → List (Option ℕ)
next_parts slots = map (λ s. s.next) slots

abbrev pub previous_parts : List Slot → List (Option ℕ)
previous_parts slots = map (λ s. s.previous) slots

-- the links keep these slots as the list at a place: it has just the slots that name it
pub record KeepsList (first list next previous : List (Option ℕ)) (place : ℕ) (xs : List ℕ) : Type 0 where
  pub chain : IsChain next (slice_index_or first place None) xs
  pub back : LinksBack previous None xs
  pub named : All (λ s. slice_index_or list s None ≡ Some place) xs
  pub all : (s : ℕ) → slice_index_or list s None ≡ Some place → Contains xs s
  pub apart : NoneTwice xs

-- the links keep these lists, one for each place
pub record KeepLists (first list next previous : List (Option ℕ)) (lists : List (List ℕ)) : Type 0 where
  pub each : length lists ≡ length first
  pub keeps : (place : ℕ) → place < length first → KeepsList first list next previous place (slice_index_or lists place [])
  pub places : (s place : ℕ) → slice_index_or list s None ≡ Some place → place < length first

-- the lists that links keep
abbrev pub lists_from : ℕ → List (Option ℕ) → List (Option ℕ) → List (List ℕ)
lists_from n first next = map (follow n next) first

abbrev pub lists_in : List (Option ℕ) → List Slot → Lists
lists_in first slots = record {
  clauses = length slots / 2;
  lists = lists_from (length slots) first (next_parts slots);
}

-- the links keep the lists that they lead through; slots come in pairs, and numbers of 32 bits serve
pub record AreLinked (first : List (Option ℕ)) (slots : List Slot) : Type 0 where
  pub keep : KeepLists first (list_parts slots) (next_parts slots) (previous_parts slots) (lists_from (length slots) first (next_parts slots))
  pub pairs : 2 * (length slots / 2) ≡ length slots
  pub numbered : length slots ≤ 2 ^ 32
  pub literals : length first < 2 ^ 32

-- a slot that is in no list
abbrev pub free_slot : Slot
free_slot = record { list = None; next = None; previous = None }

-- the slot, if there is one, is among so many
abbrev pub Within : Option ℕ → ℕ → Type 0
Within None n = Unit {0}
Within (Some s) n = s < n

-- the slot, if there is one, leads on to another
abbrev pub with_next : List Slot → Option ℕ → Option ℕ → List Slot
with_next slots None next = slots
with_next slots (Some s) next = set slots s (record (slice_index_or slots s free_slot) { next = next })

-- the slot, if there is one, leads back to another
abbrev pub with_previous : List Slot → Option ℕ → Option ℕ → List Slot
with_previous slots None previous = slots
with_previous slots (Some s) previous = set slots s (record (slice_index_or slots s free_slot) { previous = previous })

-- the first slots after a slot was taken out of the list at a place: another comes first where none stood before it
abbrev pub first_without : List (Option ℕ) → Option ℕ → Option ℕ → Option ℕ → List (Option ℕ)
first_without first (Some place) None next = set first place next
first_without first (Some place) (Some p) next = first
first_without first None previous next = first
