-- What reading a text says of it.
use Rattle.std.specs.Prelude.{◌≡◌, ℕ, ◌<◌, ◌≤◌, List, [], ◌++◌, length, take, Option, Result, Some, None, Ok, Err, IsSome, IsSomeAnd, Vec}
use Rattle.std.specs.declared.alloc.Global.{Global}
use Rattle.uc_io.specs.declared.read.ReadError.{ReadError}
use Rattle.uc_io.specs.declared.read.ReadError.TheVariants.{NoMemory, ReadFault, NoText, TooLong}

-- A read gave this many bytes of what was left: they stand at the buffer's front, and `rest` is left now. It gives none
-- into a buffer with room only where nothing was left.
pub record Gives (left : List ℕ) (count : ℕ) (buffer rest : List ℕ) : Type 0 where
  pub bytes : left ≡ take count buffer ++ rest
  pub end : count ≡ 0 → 0 < length buffer → left ≡ []

-- At most so many bytes of the text were taken, and these are left.
abbrev pub LeavesAllBut : ℕ → List ℕ → List ℕ → Type 0
LeavesAllBut most text left = (taken : List ℕ) × (length taken ≤ most) × (text ≡ taken ++ left)

-- The answer that a request for a whole text has, by what is held under the name and the limit on the text's length.
-- A fault, and want of memory at a text that is there, may come in place of another answer.
abbrev pub Answers : Option (List ℕ) → ℕ → Result (Vec ℕ Global) ReadError → Type 0
Answers held limit (Ok bytes) = (held ≡ Some bytes.items) × (length bytes.items ≤ limit)
Answers held limit (Err NoText) = held ≡ None
Answers held limit (Err TooLong) = IsSomeAnd held (λ text. limit < length text)
Answers held limit (Err NoMemory) = IsSome held
Answers held limit (Err ReadFault) = Unit {0}
