-- What is known of the places of paths among parts.
use Rattle.std.specs.Prelude.{◌≡◌, ℕ, zero, suc, ◌≤◌, Bool, true, false, ◌&&◌, ◌||◌, not, nat_eq, if◌then◌else◌, List, [], ◌∷◌, ◌++◌, length, Option, Some, None}
use Rattle.std.specs.Cmp.Lexicographic.{pointwise}
use Rattle.indexmap.specs.IndexMap.{get_by}
use Rattle.uc_written_once.specs.declared.places.PathPlaces.{PathPlaces}

-- the number of a path
abbrev pub place_of : PathPlaces → List ℕ → Option ℕ
place_of t q = get_by (λ k. pointwise nat_eq q k.items) t.places

-- the part at a place passes a test with a path
unfoldable pub hit : (List ℕ → List ℕ → Bool) → List ℕ → List (List ℕ) → ℕ → Bool
hit test q [] k = false
hit test q (p ∷ ps) zero = test q p
hit test q (p ∷ ps) (suc k) = hit test q ps k

abbrev pub hit_there : (List ℕ → List ℕ → Bool) → List ℕ → List (List ℕ) → Option ℕ → Bool
hit_there test q parts None = false
hit_there test q parts (Some k) = hit test q parts k

-- the part at the place of a path passes the test with it
abbrev pub is_known : (List ℕ → List ℕ → Bool) → PathPlaces → List (List ℕ) → List ℕ → Bool
is_known test t parts q = hit_there test q parts (place_of t q)

-- a path has the place of a part that passes the test with it, none later than a given one
pub record FoundAt (test : List ℕ → List ℕ → Bool) (t : PathPlaces) (parts : List (List ℕ)) (q : List ℕ) (k : ℕ) : Type 0 where
  pub place : ℕ
  pub is : place_of t q ≡ Some place
  pub first : place ≤ k
  pub right : hit test q parts place ≡ true

-- Where some part passes the test with a path, the path has the place of such a part, and of none later. Of other paths nothing is said.
abbrev pub Known : (List ℕ → List ℕ → Bool) → PathPlaces → List (List ℕ) → Type 0
Known test t parts = (q : List ℕ) (k : ℕ) → hit test q parts k ≡ true → FoundAt test t parts q k

-- a path is given the place behind the parts, unless it is known
abbrev pub Notes : (List ℕ → List ℕ → Bool) → List (List ℕ) → PathPlaces → PathPlaces → List ℕ → Type 0
Notes test parts old new front =
    (q : List ℕ) → place_of new q ≡ (if not (is_known test old parts front) && pointwise nat_eq front q then Some (length parts) else place_of old q)

-- once a path is a part behind the others, a front of it is known
abbrev pub AreNoted : (List ℕ → List ℕ → Bool) → PathPlaces → List (List ℕ) → List ℕ → List ℕ → Type 0
AreNoted test t parts path q = FoundAt test t (parts ++ path ∷ []) q (length parts)

-- whether a front of a path passes
unfoldable pub any_front : (List ℕ → Bool) → List ℕ → Bool
any_front f [] = f []
any_front f (x ∷ xs) = f [] || any_front (λ q. f (x ∷ q)) xs
