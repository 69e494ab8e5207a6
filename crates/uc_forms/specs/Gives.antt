-- What a function of a parser returned is what reading gives.
use Rattle.std.specs.Prelude.{◌≡◌, List, Result, Ok, Err, Bool, if◌then◌else◌}
use Rattle.uc_forms.specs.declared.fault.Fault.TheVariants.{Syntax, TooDeep}
use Rattle.uc_forms.specs.declared.stop.Stop.{Stop}
use Rattle.uc_forms.specs.declared.stop.Stop.TheVariants as stops
use Rattle.uc_forms.specs.Reading.{Outcome}

-- reading stops so, with these words left, unless memory ran out
abbrev pub StopsWith : {W Y : Type 0} → Stop → List W → Outcome W Y → Type 0
StopsWith stops.Memory rest outcome = Unit {0}
StopsWith (stops.At f) rest outcome = outcome ≡ Err (f, rest)

-- the value, with the words that are left
abbrev pub Gives : {W Y : Type 0} → Result Y Stop → List W → Outcome W Y → Type 0
Gives (Ok x) rest outcome = outcome ≡ Ok (x, rest)
Gives (Err e) rest outcome = StopsWith e rest outcome

-- the value was put where the caller wanted it
abbrev pub Leaves : {W Y : Type 0} → Y → Result (Unit {0}) Stop → List W → Outcome W Y → Type 0
Leaves y (Ok x) rest outcome = outcome ≡ Ok (y, rest)
Leaves y (Err e) rest outcome = StopsWith e rest outcome

-- why a nested form cannot be read where no level is left: by whether the next word would begin it
abbrev pub stop_deep : Bool → Stop
stop_deep opens = if opens then stops.At TooDeep else stops.At Syntax
