-- A design and its design over cells do the same.
use Rattle.std.specs.Prelude.{◌≡◌, ℕ, List, []}
use Rattle.uc_syntax.specs.declared.declaration.Module.{Module}
use Rattle.uc_values.specs.declared.value.Value.{Value}
use Rattle.uc_meaning.specs.declared.scope.Interp.{Interp}
use Rattle.uc_meaning.specs.declared.scope.Site.{Site}
use Rattle.uc_meaning.specs.declared.scope.State.{State}
use Rattle.uc_meaning.specs.Lookup.{System}
use Rattle.uc_meaning.specs.Cells.{IsState}
use Rattle.uc_meaning.specs.Steps.{IsInitial, IsStep, state_of}
use Rattle.uc_ops.specs.declared.model.Model.{Model}
use Rattle.uc_flat.specs.declared.flat.Flat.{Flat}
use Rattle.uc_flat.specs.Executions.{IsInitial as IsInitialOver, IsStep as IsStepOver}
use Rattle.uc_flat_design.specs.Constants.{SharesConstants}
use Rattle.uc_flat_design.specs.Design.{IsFlatOf}

-- no site is listed, and the state is initial over cells with the same choices
pub record IsInitialThere (f : Flat) (m : Model) (s : State) (choices : List Value) (sites : List Site) : Type 0 where
  pub no_sites : sites ≡ []
  pub initial : IsInitialOver f m s.cells choices []

-- no site is listed, and the cells are an initial state of the design with the same choices
pub record IsInitialHere (system : System) (i : Interp) (cells choices : List Value) (sites : List ℕ) : Type 0 where
  pub no_sites : sites ≡ []
  pub fits : IsState system (state_of cells)
  pub initial : IsInitial system i (state_of cells) choices []

-- Both have the same initial states, where the constants have the same values.
pub record InitialLaw : Type 0 where
  pub there : (system : System) (code : Module) (f : Flat) (i : Interp) (m : Model) (s : State) (choices : List Value) (sites : List Site)
      → IsFlatOf system code f → SharesConstants system i m → IsInitial system i s choices sites → IsInitialThere f m s choices sites
  pub here : (system : System) (code : Module) (f : Flat) (i : Interp) (m : Model) (cells choices : List Value) (sites : List ℕ)
      → IsFlatOf system code f → SharesConstants system i m → IsInitialOver f m cells choices sites → IsInitialHere system i cells choices sites

-- no choice is used and no site listed, and it is a step over cells
pub record IsStepThere (f : Flat) (m : Model) (old new : State) (choices : List Value) (sites : List Site) : Type 0 where
  pub no_choices : choices ≡ []
  pub no_sites : sites ≡ []
  pub step : IsStepOver f m old.cells new.cells [] []

-- no choice is used and no site listed, and it is a step of the design to a state
pub record IsStepHere (system : System) (i : Interp) (old new choices : List Value) (sites : List ℕ) : Type 0 where
  pub no_choices : choices ≡ []
  pub no_sites : sites ≡ []
  pub fits : IsState system (state_of new)
  pub step : IsStep system i (state_of old) (state_of new) [] []

-- Both have the same steps from states, where the constants have the same values.
pub record StepLaw : Type 0 where
  pub there : (system : System) (code : Module) (f : Flat) (i : Interp) (m : Model) (old new : State) (choices : List Value) (sites : List Site)
      → IsFlatOf system code f → SharesConstants system i m → IsState system old → IsState system new → IsStep system i old new choices sites → IsStepThere f m old new choices sites
  pub here : (system : System) (code : Module) (f : Flat) (i : Interp) (m : Model) (old new choices : List Value) (sites : List ℕ)
      → IsFlatOf system code f → SharesConstants system i m → IsState system (state_of old) → IsStepOver f m old new choices sites → IsStepHere system i old new choices sites
