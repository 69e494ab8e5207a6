use Rattle.std.proofs.Common.{refl}
use Rattle.uc_circuit.proofs.Joins.{concats, both-lists}
use Rattle.uc_circuit.proofs.joining.concat.Goals as goal

pub returns : goal.returns
returns c = concats c.args.high.now c.args.low.now _ (both-lists _ _ _ _ _ c.in_ok-extend_from_slice.ensures.items c.in_ok-bits.ensures.items refl)
