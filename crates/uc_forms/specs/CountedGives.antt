-- What a function of a parser returned is what counting gives.
use Rattle.std.specs.Prelude.{◌≡◌, Result, Ok, Err}
use Rattle.uc_forms.specs.declared.stop.Stop.{Stop}
use Rattle.uc_forms.specs.declared.stop.Stop.TheVariants as stops
use Rattle.uc_forms.specs.Counted.{State, Outcome}

-- reading stops so, in this state, unless memory ran out
abbrev pub StopsAt : {W Y : Type 0} → Stop → State W → Outcome W Y → Type 0
StopsAt stops.Memory s outcome = Unit {0}
StopsAt (stops.At f) s outcome = outcome ≡ Err (f, s)

-- the value, with the state after it
abbrev pub Counts : {W Y : Type 0} → Result Y Stop → State W → Outcome W Y → Type 0
Counts (Ok x) s outcome = outcome ≡ Ok (x, s)
Counts (Err e) s outcome = StopsAt e s outcome

-- the value was put where the caller wanted it
abbrev pub Leaves : {W Y : Type 0} → Y → Result (Unit {0}) Stop → State W → Outcome W Y → Type 0
Leaves y (Ok x) s outcome = outcome ≡ Ok (y, s)
Leaves y (Err e) s outcome = StopsAt e s outcome
