-- The parts that are written or read after code, in one list with those from before.
use Rattle.std.specs.Prelude.{List, [], ◌∷◌, ◌++◌, Option, Some}
use Rattle.std.specs.Option.{option_map, option_and_then}
use Rattle.uc_flat_code.specs.declared.once.Part.{Part}
use Rattle.uc_syntax.specs.declared.statement.Arm.{Arm}
use Rattle.uc_flat_code.specs.Once.{Writer, each_writes, either_writes}

abbrev pub after_one : Writer → List Part → Option (List Part)
after_one w before = option_map (λ xs. before ++ xs) (w before)

unfoldable pub each_after : List Writer → List Part → Option (List Part)
each_after [] before = Some before
each_after (w ∷ ws) before = option_and_then (each_after ws) (after_one w before)

-- the parts that any of the arms writes
unfoldable pub arms_only : List (Arm Writer) → Writer
arms_only [] before = Some []
arms_only (a ∷ arms) before = either_writes (each_writes a.body before) (arms_only arms before)

abbrev pub pair : List Part → List Part → List Part × List Part
pair front found = (front, found)

-- the parts from before, with those that are written next
abbrev pub beside : List Part → Option (List Part) → Option (List Part × List Part)
beside before o = option_map (pair before) o
