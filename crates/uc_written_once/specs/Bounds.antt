-- The bounds of a loop by their signs and their sizes.
use Rattle.std.specs.Prelude.{ℕ, Bool, false}
use Rattle.uc_syntax.specs.declared.statement.RangeBound.{RangeBound}
use Rattle.uc_syntax.specs.declared.statement.RangeBound.TheVariants.{Number, BitsLiteral}

-- a minus stands before the number
abbrev pub is_negative : RangeBound → Bool
is_negative (Number place negative n) = negative
is_negative (BitsLiteral place n w) = false

-- the number without its minus
abbrev pub size_of : RangeBound → ℕ
size_of (Number place negative n) = n
size_of (BitsLiteral place n w) = n
