-- How what a program answers of a step stands for the step.
use Rattle.std.specs.Prelude.{List, Option, Some, None}
use Rattle.uc_values.specs.declared.value.Value.{Value}
use Rattle.uc_meaning.specs.declared.scope.State.{State}
use Rattle.uc_meaning.specs.declared.scope.Site.{Site}
use Rattle.uc_meaning.specs.declared.scope.Interp.{Interp}
use Rattle.uc_meaning.specs.Lookup.{System}
use Rattle.uc_meaning.specs.Steps.{IsStep}

-- the answer for a step with these choices
abbrev pub IsStepAnswer : System → Interp → State → State → List Value → Option (List Site) → Type 0
IsStepAnswer system i old new choices None = (sites : List Site) → IsStep system i old new choices sites → ⊥
IsStepAnswer system i old new choices (Some sites) = IsStep system i old new choices sites
