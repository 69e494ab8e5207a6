-- How code ends, and what runs behind it.
use Rattle.std.proofs.Common.{◌≡◌, List, [], ◌++◌, refl, ap, sym}
use Rattle.uc_values.specs.declared.value.Value.{Value}
use Rattle.uc_meaning.specs.Code.{Running, Execution, Ending as HowItEnds, Goes as GoesOn, Stopped as IsStopped, Unfit, then_run}
use Rattle.uc_meaning.specs.OverflowsRuns.{RunMet, met_after}
use Rattle.uc_runs.specs.declared.run.Run.{Run}
use Rattle.uc_runs.specs.declared.run.Ending.{Ending}
use Rattle.uc_runs.specs.declared.run.Ending.TheVariants.{Goes, Stopped, BadChoice}
use Rattle.uc_runs.specs.Runs.{ending_of}

-- where code does not go on, neither does what is behind it, and nothing is met there
pub stays : (choices : List Value) (e : Ending) (next : Execution) → ((r : Run) → e ≡ Goes r → ⊥) → then_run (ending_of choices e) next ≡ ending_of choices e
stays choices (Goes r) next other = absurd (other r refl)
stays choices Stopped next other = refl
stays choices (BadChoice n) next other = refl

pub meets_none : (choices : List Value) (e : Ending) (next : RunMet) → ((r : Run) → e ≡ Goes r → ⊥) → met_after (ending_of choices e) next ≡ []
meets_none choices (Goes r) next other = absurd (other r refl)
meets_none choices Stopped next other = refl
meets_none choices (BadChoice n) next other = refl

-- code, and then two others one after another
pub in_turn : (e : HowItEnds) (f g : Execution) → then_run (then_run e f) g ≡ then_run e (λ r. then_run (f r) g)
in_turn (GoesOn r) f g = refl
in_turn IsStopped f g = refl
in_turn (Unfit left) f g = refl

pub met_in_turn : (e : HowItEnds) (code : Execution) (f g : RunMet) → met_after e (λ r. f r ++ met_after (code r) g) ≡ met_after e f ++ met_after (then_run e code) g
met_in_turn (GoesOn r) code f g = refl
met_in_turn IsStopped code f g = refl
met_in_turn (Unfit left) code f g = refl

-- what is behind code where it is the same wherever the code goes on
pub same_behind : (e : HowItEnds) (f g : Execution) → ((r : Running) → e ≡ GoesOn r → f r ≡ g r) → then_run e f ≡ then_run e g
same_behind (GoesOn r) f g same = same r refl
same_behind IsStopped f g same = refl
same_behind (Unfit left) f g same = refl

pub same_met_behind : (e : HowItEnds) (f g : RunMet) → ((r : Running) → e ≡ GoesOn r → f r ≡ g r) → met_after e f ≡ met_after e g
same_met_behind (GoesOn r) f g same = same r refl
same_met_behind IsStopped f g same = refl
same_met_behind (Unfit left) f g same = refl

-- what runs behind an ending that is known, and what is met there
pub behind : (choices : List Value) (e f : Ending) (next : Execution) → e ≡ f → then_run (ending_of choices f) next ≡ then_run (ending_of choices e) next
behind choices e f next is = ap (λ g. then_run (ending_of choices g) next) (sym is)

pub met_behind : (choices : List Value) (e f : Ending) (next : RunMet) → e ≡ f → met_after (ending_of choices f) next ≡ met_after (ending_of choices e) next
met_behind choices e f next is = ap (λ g. met_after (ending_of choices g) next) (sym is)
