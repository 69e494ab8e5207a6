-- The numbers and places of refusals.
use Rattle.std.specs.Prelude.{ℕ}
use Rattle.uc_lexer.specs.declared.place.Place.{Place}
use Rattle.uc_rules.specs.Faults.{number_of as rule_number}
use Rattle.uc_report.specs.ControlRules.{control_number}
use Rattle.uc_front.specs.declared.refusal.Refusal.{Refusal}
use Rattle.uc_front.specs.declared.refusal.Refusal.TheVariants.{NoFile, TooLong, BadByte, BadNumber, OpenComment, Syntax, TooDeep, TooManyNames, NoMain, BreaksRule, BreaksControl, NotBuilt}

-- the front of the file of this number
abbrev pub front : ℕ → Place
front file = record { file = file; line = 1; col = 1 }

-- the number that the error line gives: that of the rule where one is broken
abbrev pub number_of : Refusal → ℕ
number_of (TooLong file) = 2
number_of (BadByte p) = 3
number_of (BadNumber p) = 4
number_of (OpenComment p) = 5
number_of (Syntax p) = 6
number_of (TooDeep p) = 7
number_of (NoFile file) = 8
number_of NoMain = 10
number_of (BreaksRule fault) = rule_number fault.rule
number_of (BreaksControl fault) = control_number fault.rule
number_of (TooManyNames p) = 32
number_of (NotBuilt p) = 33

-- the place of the token at fault, or of the broken rule; where it is none, the front of the file at fault, or of the first
abbrev pub place_of : Refusal → Place
place_of (NoFile file) = front file
place_of (TooLong file) = front file
place_of (BadByte p) = p
place_of (BadNumber p) = p
place_of (OpenComment p) = p
place_of (Syntax p) = p
place_of (TooDeep p) = p
place_of (TooManyNames p) = p
place_of (NotBuilt p) = p
place_of NoMain = front 0
place_of (BreaksRule fault) = fault.place
place_of (BreaksControl fault) = fault.place
