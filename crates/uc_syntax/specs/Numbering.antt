-- The numbers of names: a name's number is the place of its text in a list in which no text stands twice.
use Rattle.std.specs.Prelude.{◌≡◌, ℕ, Bool, List, [], ◌∷◌, ◌++◌, take, length, slice_get, Some, if◌then◌else◌}
use Rattle.std.specs.List.{list_any, position_or_len}
use Rattle.std.specs.Str.{bytes_eq}

-- whether a text is among the names
unfoldable pub has_text : List (List ℕ) → List ℕ → Bool
has_text names text = list_any (bytes_eq text) names

-- the number of a text: the place where it stands, else the place behind the last name
unfoldable pub number_of : List (List ℕ) → List ℕ → ℕ
number_of names text = position_or_len (bytes_eq text) names

-- the names after a text is given its number: a text that is new stands at the end
unfoldable pub with_text : List (List ℕ) → List ℕ → List (List ℕ)
with_text names text = if has_text names text then names else names ++ text ∷ []

-- no text has two numbers
abbrev pub AreDistinct : List (List ℕ) → Type 0
AreDistinct names = (i j : ℕ) (text : List ℕ) → slice_get names i ≡ Some text → slice_get names j ≡ Some text → i ≡ j

-- names that were there keep their numbers
abbrev pub KeepNumbers : List (List ℕ) → List (List ℕ) → Type 0
KeepNumbers before after = take (length before) after ≡ before
