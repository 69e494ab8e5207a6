use Rattle.uc_flat_making.proofs.Answered.{stands_alone}
use Rattle.uc_flat_making.proofs.making.of_declarations.Goals as goal

pub cell_types_of-requires : goal.cell_types_of-requires
cell_types_of-requires c = stands_alone c.args.tables.now c.args.code.now c.requires.only c.requires.first c.requires.built

pub with_constants-requires : goal.with_constants-requires
with_constants-requires c = stands_alone c.args.tables.now c.args.code.now c.requires.only c.requires.first c.requires.built
