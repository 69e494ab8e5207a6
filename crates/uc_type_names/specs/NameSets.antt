-- Sets of names as lists in which no name stands twice.
use Rattle.std.specs.Prelude.{ℕ, List, [], ◌∷◌, ◌++◌, if◌then◌else◌}
use Rattle.uc_syntax.specs.declared.place.Identifier.{Identifier}
use Rattle.uc_rules.specs.Names.{names_one_of}

-- a list with a name, at its end where it is new
abbrev pub with_name : List ℕ → ℕ → List ℕ
with_name names x = if names_one_of names x then names else names ++ x ∷ []

-- a list with the names of identifiers, each at its end where it is new
unfoldable pub with_all : List ℕ → List Identifier → List ℕ
with_all names [] = names
with_all names (i ∷ is) = with_all (with_name names i.name) is
