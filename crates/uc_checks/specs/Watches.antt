-- What is seen of a step, in a scope and by the choices that there are.
use Rattle.std.specs.Prelude.{◌≡◌, List, [], map, drop, Option, Some, None}
use Rattle.uc_values.specs.declared.value.Value.{Value}
use Rattle.uc_meaning.specs.declared.scope.Scope.{Scope}
use Rattle.uc_meaning.specs.Steps.{CellPart, Watched, Check, Kept, Broken, Constraint, writes}
use Rattle.uc_layout.specs.declared.part.Part.{Part}
use Rattle.uc_layout.specs.Kept.{cell_part}
use Rattle.uc_checks.specs.declared.seen.Seen.{Seen}

abbrev pub watched : Scope → List Value → Seen → Watched
watched s choices w = record { scope = s; written = map cell_part w.written; sites = w.violated; left = drop w.used choices }

abbrev pub check_of : Scope → List Value → Option Seen → Check
check_of s choices None = Broken
check_of s choices (Some w) = Kept (watched s choices w)

-- whatever the choices are, one more thing is seen, and no choice is taken
abbrev pub Comes : Scope → Seen → (Watched → Watched) → Seen → Type 0
Comes s start change w = (choices : List Value) → watched s choices w ≡ change (watched s choices start)

-- in any scope and whatever the choices are, these parts are written, and nothing else is other
abbrev pub Grows : Seen → List CellPart → Seen → Type 0
Grows start parts w = (s : Scope) (choices : List Value) → watched s choices w ≡ writes parts (watched s choices start)

-- whatever the choices are, a constraint that takes none asks this
abbrev pub Asks : Scope → Seen → Constraint → Option Seen → Type 0
Asks s start constraint answer = (choices : List Value) → check_of s choices answer ≡ constraint (watched s choices start)

-- what is seen before a call, where its sites and choices are left open
abbrev pub before_call : Scope → List Part → Watched
before_call s written = record { scope = s; written = map cell_part written; sites = []; left = [] }
