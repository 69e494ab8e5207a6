-- What a function of the parser returned is, seen as a value of the grammar, what counting gives.
use Rattle.std.specs.Prelude.{◌≡◌, Result, Ok, Err}
use Rattle.uc_forms.specs.declared.stop.Stop.{Stop}
use Rattle.uc_forms.specs.Counted.{State, Outcome}
use Rattle.uc_forms.specs.CountedGives.{StopsAt}

abbrev pub CountsAs : {W X Y : Type 0} → (X → Y) → Result X Stop → State W → Outcome W Y → Type 0
CountsAs view (Ok x) s outcome = outcome ≡ Ok (view x, s)
CountsAs view (Err e) s outcome = StopsAt e s outcome
