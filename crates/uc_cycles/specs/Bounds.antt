-- The same names, in whatever order and however often.
use Rattle.std.specs.Prelude.{◌≡◌, ℕ, List}
use Rattle.uc_rules.specs.Names.{names_one_of}

abbrev pub SameNames : List ℕ → List ℕ → Type 0
SameNames xs ys = (x : ℕ) → names_one_of xs x ≡ names_one_of ys x
