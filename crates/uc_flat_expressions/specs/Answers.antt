-- How an answer stands for what is asked.
use Rattle.std.specs.Prelude.{◌≡◌, Option, Some, None, Result, Ok, Err}
use Rattle.uc_flat_expressions.specs.declared.typed.FlatError.{FlatError}
use Rattle.uc_flat_expressions.specs.declared.typed.FlatError.TheVariants.{NoMemory, NotBuilt}

-- what is asked for, or that it is not there; want of memory says nothing
abbrev pub IsAnswer : {A : Type 0} → Option A → Result A FlatError → Type 0
IsAnswer o (Ok x) = o ≡ Some x
IsAnswer o (Err NotBuilt) = o ≡ None
IsAnswer o (Err NoMemory) = Unit {0}
