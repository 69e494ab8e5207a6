-- Copies of states in a trace, walked from the first state to the last, and what is met on the way.
use Rattle.std.specs.Prelude.{◌≡◌, Bool, true, List, [], ◌∷◌, Option, Some, None}
use Rattle.uc_meaning.specs.declared.scope.Interp.{Interp}
use Rattle.uc_meaning.specs.declared.scope.State.{State}
use Rattle.uc_meaning.specs.declared.scope.Site.{Site}
use Rattle.uc_meaning.specs.Lookup.{System}
use Rattle.uc_meaning.specs.Cells.{IsState}
use Rattle.uc_meaning.specs.Steps.{IsInitial, IsStep}
use Rattle.uc_meaning.specs.Runs.{Position, IsRunListing, lists_site}
use Rattle.uc_meaning.specs.Lines.{AreLinked}
use Rattle.uc_meaning.specs.Checks.{step_met}
use Rattle.uc_executions.specs.Starts.{start_met}
use Rattle.uc_checks.specs.declared.walk.Beginning.{Beginning}
use Rattle.uc_checks.specs.declared.walk.Beginning.TheVariants.{Initial, Anywhere}
use Rattle.uc_checks.specs.Tellings.{Telling, Nothing, Of, Followed, Where}

-- how the states of a copy begin: with an initial state, or with any state, without choices
abbrev pub Begins : Beginning → System → Interp → Position → List Site → Type 0
Begins Initial system i p sites = IsInitial system i p.0 p.1 sites
Begins Anywhere system i p sites = (p.1 ≡ []) × (sites ≡ [])

-- the states of a copy are linked by steps from such a beginning on, and the last step lists these sites
abbrev pub Lists : Beginning → System → Interp → List Position → List Site → Type 0
Lists Initial system i run listed = IsRunListing system i run listed
Lists Anywhere system i run listed = AreLinked system i run listed

abbrev pub AreStates : Beginning → System → Interp → List Position → Type 0
AreStates beginning system i run = (listed : List Site) × Lists beginning system i run listed

-- a site is among those that are listed, where one is asked
abbrev pub asks_site : Option Site → List Site → Bool
asks_site None listed = true
asks_site (Some site) listed = lists_site listed site

abbrev pub ListsAsked : Beginning → System → Interp → Option Site → List Position → Type 0
ListsAsked beginning system i site run = (listed : List Site) × Lists beginning system i run listed × (asks_site site listed ≡ true)

abbrev pub BeginTells : Beginning → System → Interp → Position → Telling
BeginTells Initial system i p = Of (start_met system i p.1)
BeginTells Anywhere system i p = Nothing

abbrev pub HasStep : System → Interp → State → Position → Type 0
HasStep system i s p = (sites : List Site) × IsStep system i s p.0 p.1 sites

abbrev pub StepTells : System → Interp → State → Position → Telling
StepTells system i s p = Where (IsState system p.0) (Of (step_met system i s p.0 p.1))

-- what is met in the steps from a state on: the states are looked at one after another
unfoldable pub StepsTell : System → Interp → State → List Position → Telling
StepsTell system i s [] = Nothing
StepsTell system i s (p ∷ ps) = Followed (StepTells system i s p) (IsState system p.0 × HasStep system i s p) (StepsTell system i p.0 ps)

-- what is met in the states of a copy
abbrev pub FirstTells : Beginning → System → Interp → Position → Telling
FirstTells beginning system i p = Where (IsState system p.0) (BeginTells beginning system i p)

abbrev pub CopyTells : Beginning → System → Interp → List Position → Telling
CopyTells beginning system i [] = Nothing
CopyTells beginning system i (p ∷ ps) =
    Followed (FirstTells beginning system i p) (IsState system p.0 × (sites : List Site) × Begins beginning system i p sites) (StepsTell system i p.0 ps)
