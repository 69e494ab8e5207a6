-- What an answer said, once it was put beside a value that was held meanwhile.
use Rattle.std.proofs.Common.{◌≡◌, Option, None, subst, refl}
use Rattle.std.specs.Prelude.{Result, Ok, Err, IfOk}
use Rattle.uc_meaning.specs.declared.overflow.Wide.{Wide}
use Rattle.uc_operators.specs.declared.error.EvalError.{EvalError}
use Rattle.uc_operators.specs.Overflows.{TellsWide}
use Rattle.uc_evaluator.proofs.Told.{told_same}

pub given : {T E : Type 0} (P : T → Type 0) (r : Result T E) (x : T) → r ≡ Ok x → IfOk r P → P x
given P r x is says = subst (λ y. IfOk y P) is says

pub none_wide : {A : Type 0} (o : Option Wide) (r : Result A EvalError) (x : A) → r ≡ Ok x → TellsWide o r → o ≡ None
none_wide o r x is tells = subst (TellsWide o) is tells

pub told_held : (A B : Type 0) (o : Option Wide) (r : Result A EvalError) (e : EvalError) → r ≡ Err e → TellsWide o r → TellsWide {A = B} o (Err e)
told_held A B o r e is tells = told_same A B o o e refl (subst (TellsWide o) is tells)
