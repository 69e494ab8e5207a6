-- The one module of a design, and where it is at fault.
use Rattle.std.specs.Prelude.{◌≡◌, ℕ, true, List, [], ◌∷◌}
use Rattle.uc_syntax.specs.declared.declaration.Module.{Module}
use Rattle.uc_meaning.specs.Lookup.{System}
use Rattle.uc_runnable.specs.Plain.{is_plain}
use Rattle.uc_runnable.specs.Unfit.{unfit_of}
use Rattle.uc_runnable.specs.declared.runnable.NotRunnable.{NotRunnable}
use Rattle.uc_runnable.specs.declared.runnable.NotRunnable.TheVariants.{NoMemory, NotBuilt}

-- one module, which is main and plain
pub record IsOnlyPlain (main : ℕ) (modules : List Module) : Type 0 where
  pub code : Module
  pub only : modules ≡ code ∷ []
  pub first : main ≡ 0
  pub plain : is_plain code ≡ true

abbrev pub IsFault : System → NotRunnable → Type 0
IsFault system (NotBuilt place) = place ≡ unfit_of system
IsFault system NoMemory = Unit {0}
