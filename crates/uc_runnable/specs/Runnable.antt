-- The designs that run today.
use Rattle.std.specs.Prelude.{◌≡◌, true}
use Rattle.uc_syntax.specs.declared.declaration.Module.{Module}
use Rattle.uc_meaning.specs.Lookup.{System}
use Rattle.uc_flat.specs.declared.flat.Flat.{Flat}
use Rattle.uc_flat_design.specs.Design.{IsFlatOf}
use Rattle.uc_runnable.specs.Plain.{is_plain}
use Rattle.uc_runnable.specs.Unfit.{unfit_of}
use Rattle.uc_runnable.specs.declared.runnable.NotRunnable.{NotRunnable}
use Rattle.uc_runnable.specs.declared.runnable.NotRunnable.TheVariants.{NoMemory, NotBuilt}

-- A design of one module whose declarations are plain, with the design over cells that stands for it.
pub record RunsOver (system : System) (flat : Flat) : Type 0 where
  pub code : Module
  pub is_flat : IsFlatOf system code flat
  pub plain : is_plain code ≡ true

-- A design runs where there is one over cells for it, and its declarations are plain.
pub record IsRunnable (system : System) : Type 0 where
  pub flat : Flat
  pub over : RunsOver system flat

-- Where there is no answer, memory was wanted, or the design does not run, and this is where its one module is at fault.
abbrev pub IsNoneFor : System → NotRunnable → Type 0
IsNoneFor system (NotBuilt place) = (IsRunnable system → ⊥) × (place ≡ unfit_of system)
IsNoneFor system NoMemory = Unit {0}
