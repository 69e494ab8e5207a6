-- The first argument of an extension.
use Rattle.std.specs.Prelude.{Option, Some, None}
use Rattle.uc_values.specs.declared.ty.Ty.{Ty}
use Rattle.uc_rules.specs.declared.rule.Rule.TheVariants.{WrongType}
use Rattle.uc_rules.specs.declared.outcome.Outcome.{Outcome}
use Rattle.uc_rules.specs.declared.outcome.Outcome.TheVariants.{Breaks, Unjudged}

-- what is no plain number is a fault, where it has a type
abbrev pub not_a_number : Option Ty → Outcome
not_a_number (Some t) = Breaks WrongType
not_a_number None = Unjudged
