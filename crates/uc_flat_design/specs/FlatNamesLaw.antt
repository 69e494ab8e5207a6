-- Names of main over cells stand for what they mean.
use Rattle.std.specs.Prelude.{◌≡◌, List, []}
use Rattle.uc_syntax.specs.declared.declaration.Module.{Module}
use Rattle.uc_values.specs.declared.value.Value.{Value}
use Rattle.uc_meaning.specs.declared.scope.Scope.{Scope}
use Rattle.uc_meaning.specs.Lookup.{System}
use Rattle.uc_meaning.specs.Plain.{IsTop}
use Rattle.uc_meaning.specs.Steps.{state_of}
use Rattle.uc_ops.specs.declared.model.Model.{Model}
use Rattle.uc_ops.specs.Typing.{AllValid}
use Rattle.uc_flat.specs.Executions.{FitAll}
use Rattle.uc_flat_design.specs.Sayings.{AreMeant}
use Rattle.uc_flat_design.specs.Names.{StandsAlone, names_over_cells, types_of, names_of_constants, constant_types}
use Rattle.uc_flat_design.specs.Constants.{SharesConstants}

-- In a scope of main outside blocks with locals, whose old state has these cells and whose interpretation gives the constants the values of the model, each name that stands for something says what it means.
abbrev pub NamesLaw : Type 0
NamesLaw =
    (system : System) (code : Module) (s : Scope) (m : Model) (values : List Value)
    → StandsAlone system code → IsTop s → SharesConstants system s.interp m → AllValid (constant_types system) → s.before ≡ state_of values → AllValid (types_of system) → FitAll (types_of system) values
    → AreMeant system s (constant_types system) m (types_of system) values (names_over_cells system code)

-- The same of the names of labels and constants, over no cells, whatever the state is.
abbrev pub ConstantsLaw : Type 0
ConstantsLaw =
    (system : System) (code : Module) (s : Scope) (m : Model)
    → StandsAlone system code → IsTop s → SharesConstants system s.interp m → AllValid (constant_types system)
    → AreMeant system s (constant_types system) m [] [] (names_of_constants system code)
