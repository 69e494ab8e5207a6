-- Lists of two.
use Rattle.std.specs.Prelude.{List, [], ◌∷◌, Option, Some, None}

-- the two values of a list that has two
abbrev pub two_in : {A : Type 0} → List A → Option (A × A)
two_in (x ∷ (y ∷ [])) = Some (x, y)
two_in other = None
