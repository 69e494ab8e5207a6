-- How many free values code reads, those of all arms included.
use Rattle.std.specs.Prelude.{ℕ, ◌+◌, List, [], ◌∷◌, map}
use Rattle.uc_flat.specs.declared.statement.Statement.{Statement}
use Rattle.uc_flat.specs.declared.statement.Statement.TheOpen.{Statement-F}
use Rattle.uc_flat.specs.declared.statement.Statement.TheOpen.Statement-F.{Assign, Havoc, Assume, Assert, If}
use Rattle.uc_flat.specs.declared.statement.Statement.TheFolds.{fold-Statement}

unfoldable pub total : List ℕ → ℕ
total [] = 0
total (n ∷ ns) = n + total ns

abbrev pub draws_form : Statement-F ℕ → ℕ
draws_form (Assign k e) = 0
draws_form (Havoc k listed) = 1
draws_form (Assume e) = 0
draws_form (Assert site e) = 0
draws_form (If e ns ms) = total ns + total ms

unfoldable pub draws : Statement → ℕ
draws = fold-Statement ℕ draws_form

abbrev pub all_draws : List Statement → ℕ
all_draws code = total (map draws code)
