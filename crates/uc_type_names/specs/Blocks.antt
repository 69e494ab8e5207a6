-- The blocks of which a module has one at most.
use Rattle.std.specs.Prelude.{Bool, true, List, [], Option, Some}
use Rattle.uc_lexer.specs.declared.place.Place.{Place}
use Rattle.uc_syntax.specs.declared.declaration.Decl.{Decl}
use Rattle.uc_rules.specs.declared.fault.Fault.{Fault}
use Rattle.uc_rules.specs.declared.rule.Rule.TheVariants.{DuplicateName}
use Rattle.uc_rules.specs.Faults.{breaks}
use Rattle.uc_rules.specs.Declarations.{init_place, next_place, control_place}
use Rattle.uc_type_names.specs.declared.blocks.Block.{Block}
use Rattle.uc_type_names.specs.declared.blocks.Block.TheVariants.{Init, Next, Control}

-- the place of a declaration that is such a block
abbrev pub block_place : Block → Decl → Option Place
block_place Init d = init_place d
block_place Next d = next_place d
block_place Control d = control_place d

-- a block where one was before is a fault
abbrev pub again_at : Bool → Option Place → List Fault
again_at true (Some place) = breaks DuplicateName place
again_at there place = []
