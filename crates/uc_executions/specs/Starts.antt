-- All init code, instance by instance, and what is met on the way.
use Rattle.std.specs.Prelude.{◌≡◌, ℕ, List, [], map, Option, Some, None}
use Rattle.uc_values.specs.declared.value.Value.{Value}
use Rattle.uc_meaning.specs.declared.scope.Interp.{Interp}
use Rattle.uc_meaning.specs.declared.scope.State.{State}
use Rattle.uc_meaning.specs.declared.scope.Site.{Site}
use Rattle.uc_meaning.specs.declared.code.CodeEnd.{CodeEnd}
use Rattle.uc_meaning.specs.declared.code.CodeEnd.TheVariants.{Ended}
use Rattle.uc_meaning.specs.declared.overflow.Wide.{Wide}
use Rattle.uc_meaning.specs.Lookup.{System, init_of}
use Rattle.uc_meaning.specs.Cells.{InstanceAt}
use Rattle.uc_meaning.specs.Expressions.{at_path}
use Rattle.uc_meaning.specs.Code.{Running, Execution, run, run_each, in_scope}
use Rattle.uc_meaning.specs.Steps.{init_from, IsInitial}
use Rattle.uc_meaning.specs.Ends.{first_unfit, cell_types, init_begun}
use Rattle.uc_meaning.specs.OverflowsRuns.{RunMet, met_each, run_met}
use Rattle.uc_meaning.specs.Checks.{traced_init, init_met, init_met_from}

-- the init code of instances, on chains of at most n modules
abbrev pub inits : ℕ → System → List InstanceAt → Execution
inits n system instances = run_each (map (init_from n system) instances)

abbrev pub inits_met : ℕ → System → List InstanceAt → RunMet
inits_met n system instances = met_each (map (λ i. traced_init n system i (init_met_from n system i)) instances)

abbrev pub goes_to : List ℕ → Running → Running
goes_to path r = in_scope r (at_path r.scope path)

-- the init code of an instance itself
abbrev pub own_init : System → InstanceAt → Execution
own_init system here r = run system (init_of here.code) (goes_to here.path r)

abbrev pub own_init_met : System → InstanceAt → RunMet
own_init_met system here r = run_met system (init_of here.code) (goes_to here.path r)

abbrev pub start_met_at : System → Interp → List Value → Option ℕ → List Wide
start_met_at system i choices (Some n) = []
start_met_at system i choices None = init_met system (init_begun system i choices)

-- the operations met where all init code runs: none where the choices do not begin with a fitting value for each cell
abbrev pub start_met : System → Interp → List Value → List Wide
start_met system i choices = start_met_at system i choices (first_unfit 0 (cell_types system) choices)

-- code ends in a state with so many choices taken, and lists these sites; or it does not end so
abbrev pub IsAt : CodeEnd → ℕ → State → Option (List Site) → Type 0
IsAt (Ended scope violated used) count s (Some sites) = (violated ≡ sites) × (used ≡ count) × (scope.before ≡ s)
IsAt (Ended scope violated used) count s None = used ≡ count → scope.before ≡ s → ⊥
IsAt other count s (Some sites) = ⊥
IsAt other count s None = Unit {0}

-- a state is initial by these choices with these sites, or by these choices it is none
abbrev pub IsStartAnswer : System → Interp → State → List Value → Option (List Site) → Type 0
IsStartAnswer system i s choices (Some sites) = IsInitial system i s choices sites
IsStartAnswer system i s choices None = (sites : List Site) → IsInitial system i s choices sites → ⊥
