use Rattle.uc_type_reader.proofs.places.lists_of.Goals as goal

pub returns : goal.returns
returns c = record { enums_written = c.in_ok-enums.ensures; opaques_declared = c.in_ok-opaques.ensures; declarations_there = c.in_ok-declarations.ensures }
