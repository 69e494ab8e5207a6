-- What a rule says of a form: its type, the rule that it breaks, or nothing. A rule is not judged where a name or part that it rests
-- on breaks a rule itself: such a part has no type, and the outcome is `Unjudged`.
use Rattle.std.specs.Prelude.{List, [], Option, Some, None}
use Rattle.uc_lexer.specs.declared.place.Place.{Place}
use Rattle.uc_values.specs.declared.ty.Ty.{Ty}
use Rattle.uc_rules.specs.declared.fault.Fault.{Fault}
use Rattle.uc_rules.specs.declared.outcome.Outcome.{Outcome}
use Rattle.uc_rules.specs.declared.outcome.Outcome.TheVariants.{Has, Breaks, Unjudged}
use Rattle.uc_rules.specs.Faults.{breaks}

abbrev pub type_in : Outcome → Option Ty
type_in (Has t) = Some t
type_in other = None

abbrev pub faults_in : Place → Outcome → List Fault
faults_in place (Breaks rule) = breaks rule place
faults_in place other = []

-- a part with its type
abbrev pub outcome_of : Option Ty → Outcome
outcome_of (Some t) = Has t
outcome_of None = Unjudged
