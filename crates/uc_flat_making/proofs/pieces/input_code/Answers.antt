use Rattle.std.proofs.Common.{map, sym, ◌∙◌}
use Rattle.uc_flat_making.specs.Made.{full}
use Rattle.uc_flat_making.proofs.pieces.input_code.Goals as goal

pub returns : goal.returns
returns c = c.inputs.ensures (map full c.args.cells.now) (c.in_ok-kinds.ensures ∙ sym c.as_slice.ensures)
