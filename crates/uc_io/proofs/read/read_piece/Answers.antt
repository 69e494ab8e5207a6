use Rattle.std.proofs.Common.{◌+◌, arith, length-take}
use Rattle.uc_io.proofs.Reading.{leaves, cut, after_error}
use Rattle.uc_io.proofs.read.read_piece.Goals as goal

-- At most one byte more than there is room for was asked for.
pub returns-then-count-room-clause-taken : goal.returns-then-count-room-clause-taken
returns-then-count-room-clause-taken g c = λ told.
    let asked = length-take c.min-asked.result c.args.buffer.now in
    leaves c.args.bytes.now.items (c.args.limit + 1) (c.in_ok-count.ensures.gives told) (omega (arith, c.in_ok-count.ensures.room))

pub returns-then-count-room-clause-cut : goal.returns-then-count-room-clause-cut
returns-then-count-room-clause-cut g c = λ is told.
    let asked = length-take c.min-asked.result c.args.buffer.now in
    cut c.args.bytes.now.items (c.args.limit + 1) (c.in_ok-count.ensures.gives told) (omega (arith, c.in_ok-count.ensures.room)) (omega (arith, c.in_ok-count.ensures.room))

pub returns-in_err-extend_from_slice-clause-taken :
    goal.returns-in_err-extend_from_slice-clause-taken
returns-in_err-extend_from_slice-clause-taken g c = λ told.
    after_error _ (leaves c.args.bytes.now.items (c.args.limit + 1) (c.in_ok-count.ensures.gives told) (omega arith))
