-- The design over cells of a design is sound.
use Rattle.uc_syntax.specs.declared.declaration.Module.{Module}
use Rattle.uc_meaning.specs.Lookup.{System}
use Rattle.uc_flat.specs.declared.flat.Flat.{Flat}
use Rattle.uc_flat.specs.Flats.{IsSound}
use Rattle.uc_ops.specs.Typing.{AllValid}
use Rattle.uc_symstep.specs.Known.{constants_typed, ReadsOwnTypes}
use Rattle.uc_flat_design.specs.Design.{IsFlatOf}

-- The types of its cells are types, all its code and formulas fit them, and its axioms speak of no cells.
abbrev pub SoundLaw : Type 0
SoundLaw = (system : System) (code : Module) (f : Flat) → IsFlatOf system code f → IsSound f

-- The types of its constants are types.
abbrev pub ValidConstantsLaw : Type 0
ValidConstantsLaw = (system : System) (code : Module) (f : Flat) → IsFlatOf system code f → AllValid (constants_typed f)

-- Every constant that it reads is read at its own type.
abbrev pub OwnTypesLaw : Type 0
OwnTypesLaw = (system : System) (code : Module) (f : Flat) → IsFlatOf system code f → ReadsOwnTypes f
