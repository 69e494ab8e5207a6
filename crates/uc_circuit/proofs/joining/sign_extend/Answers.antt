use Rattle.std.proofs.Common.{◌∙◌, arith, length, ◌-◌}
use Rattle.uc_circuit.proofs.Joins.{signs-before, both-lists}
use Rattle.uc_circuit.proofs.joining.sign_extend.Goals as goal

pub returns : goal.returns
returns c =
    signs-before c.args.a.now _ c.args.more (length c.args.a.now - 1) _ (omega arith) (both-lists _ _ _ _ _ c.in_ok-extend_from_slice.ensures.items c.in_ok-bits.ensures.items (c.as_slice.ensures.value ∙ c.in_ok-copies.ensures.items_if_clones_equal (λ y e. e)))
