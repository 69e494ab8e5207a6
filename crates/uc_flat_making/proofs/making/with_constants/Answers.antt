use Rattle.std.proofs.Common.{◌∙◌}
use Rattle.uc_flat_making.proofs.Answered.{some_added}
use Rattle.uc_flat_making.proofs.making.with_constants.Goals as goal

pub returns : goal.returns
returns c =
    some_added c.args.tables.now c.args.code.now c.as_slice.result.now c.are_cell_types.result c.in_ok-flat.flat c.in_ok-flat-2.flat (c.as_slice.ensures ∙ c.in_ok-types.ensures)
    c.are_cell_types.ensures c.if-not-are_cell_types.false c.in_ok-flat.ensures c.in_ok-flat-2.ensures
