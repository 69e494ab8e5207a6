-- The commands that run today.
use Rattle.std.specs.Prelude.{ℕ, Bool, true, false, ◌&&◌, nat_le, List, [], ◌∷◌, Option, Some, None}
use Rattle.std.specs.List.{list_all}
use Rattle.uc_lexer.specs.declared.place.Place.{Place}
use Rattle.uc_syntax.specs.declared.place.Identifier.{Identifier}
use Rattle.uc_syntax.specs.declared.declaration.WrittenRun.{WrittenRun}
use Rattle.uc_syntax.specs.declared.declaration.WrittenRun.TheVariants.{Unroll, Induction, Verify}
use Rattle.uc_syntax.specs.declared.declaration.Command.{Command}
use Rattle.uc_syntax.specs.declared.declaration.Command.TheVariants.{Run, Check, PrintResults, PrintCounterexamples}
use Rattle.uc_meaning.specs.Fragment.{most_steps}

-- how many states an induction may link before the last one
abbrev pub most_linked : ℕ
most_linked = 100

-- an induction links 1 state where it gives no number
abbrev pub is_linked : Option ℕ → Bool
is_linked None = true
is_linked (Some k) = nat_le 1 k && nat_le k most_linked

-- the runs whose lines are judged
abbrev pub is_judged : WrittenRun → Bool
is_judged (Unroll n) = nat_le n most_steps
is_judged (Induction k) = is_linked k
is_judged (Verify p) = false

-- a path leads through no instance
abbrev pub is_own_path : List Identifier → Bool
is_own_path (i ∷ []) = true
is_own_path other = false

abbrev pub are_own_paths : Option (List (List Identifier)) → Bool
are_own_paths None = true
are_own_paths (Some paths) = list_all is_own_path paths

-- a run whose lines are judged, a `check`, or a print of what is main's own
abbrev pub runs : Command → Bool
runs (Run place name run) = is_judged run
runs (Check place) = true
runs (PrintResults place) = true
runs (PrintCounterexamples place f paths) = are_own_paths paths

-- the place of the first word of a command
abbrev pub stands_at : Command → Place
stands_at (Run place name run) = place
stands_at (Check place) = place
stands_at (PrintResults place) = place
stands_at (PrintCounterexamples place f paths) = place
