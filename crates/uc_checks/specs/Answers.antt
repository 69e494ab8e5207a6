-- What walks through the states of copies answer: whether they are linked, and then whether the last step lists the site that is asked.
use Rattle.std.specs.Prelude.{◌≡◌, ℕ, Bool, List, Option, Some, None}
use Rattle.std.specs.Bool.{Decides}
use Rattle.std.specs.List.{All}
use Rattle.uc_meaning.specs.declared.scope.Interp.{Interp}
use Rattle.uc_meaning.specs.declared.scope.State.{State}
use Rattle.uc_meaning.specs.declared.scope.Site.{Site}
use Rattle.uc_meaning.specs.Lookup.{System}
use Rattle.uc_meaning.specs.declared.line.Line.{Line}
use Rattle.uc_meaning.specs.Runs.{Position, Continues, AreCopies}
use Rattle.uc_checks.specs.declared.walk.Beginning.{Beginning}
use Rattle.uc_checks.specs.Sites.{site_asked}
use Rattle.uc_checks.specs.Walks.{AreStates, ListsAsked, asks_site}

-- some list of sites has a property, and such a list answers what is asked; or none has it
abbrev pub IsAnswer : (List Site → Type 0) → Option Site → Option Bool → Type 0
IsAnswer Has site (Some b) = (sites : List Site) × Has sites × (b ≡ asks_site site sites)
IsAnswer Has site None = (sites : List Site) → Has sites → ⊥

-- sites that have a property, or there are none
abbrev pub AreSites : (List Site → Type 0) → Option (List Site) → Type 0
AreSites Has (Some sites) = Has sites
AreSites Has None = (sites : List Site) → Has sites → ⊥

abbrev pub StepsAnswer : System → Interp → State → List Site → List Position → Option Site → Option Bool → Type 0
StepsAnswer system i s sites ps site o = IsAnswer (Continues system i s sites ps) site o

abbrev pub CopyAnswer : Beginning → System → Interp → Option Site → List Position → Option Bool → Type 0
CopyAnswer beginning system i site run (Some b) = AreStates beginning system i run × Decides b (ListsAsked beginning system i site run)
CopyAnswer beginning system i site run None = AreStates beginning system i run → ⊥

abbrev pub CopiesAnswer : Beginning → System → Interp → Option Site → List (List Position) → Option Bool → Type 0
CopiesAnswer beginning system i site copies (Some b) =
    All (AreStates beginning system i) copies × Decides b (All (ListsAsked beginning system i site) copies)
CopiesAnswer beginning system i site copies None = All (AreStates beginning system i) copies → ⊥

-- the copies are as many and as long as a line asks, and linked, and then whether the last step of each lists the site that it judges
abbrev pub WalkAnswer : Beginning → System → Interp → Line → ℕ → List (List Position) → Option Bool → Type 0
WalkAnswer beginning system i line steps copies (Some b) =
    AreCopies line.arity steps copies × CopiesAnswer beginning system i (site_asked line.what) copies (Some b)
WalkAnswer beginning system i line steps copies None = AreCopies line.arity steps copies → All (AreStates beginning system i) copies → ⊥
