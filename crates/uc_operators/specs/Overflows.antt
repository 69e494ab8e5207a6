-- What an evaluation tells of operations that leave 128 bits.
use Rattle.std.specs.Prelude.{◌≡◌, List, Option, Some, None, Result, Ok, Err}
use Rattle.std.specs.List.{find}
use Rattle.uc_meaning.specs.declared.overflow.Wide.{Wide}
use Rattle.uc_meaning.specs.Overflow.{is_wide}
use Rattle.uc_operators.specs.declared.error.EvalError.{EvalError}
use Rattle.uc_operators.specs.declared.error.EvalError.TheVariants.{NoMemory, Wide as TooWide}

-- the first of some operations whose exact result leaves 128 signed bits
abbrev pub first_wide : List Wide → Option Wide
first_wide operations = find is_wide operations

-- A value is given only where no operation leaves 128 bits, and an operation only where it is the first that does.
abbrev pub TellsWide : {A : Type 0} → Option Wide → Result A EvalError → Type 0
TellsWide first (Ok x) = first ≡ None
TellsWide first (Err (TooWide w)) = first ≡ Some w
TellsWide first (Err NoMemory) = Unit {0}
