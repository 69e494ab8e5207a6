use Rattle.std.proofs.Common.{◌∙◌}
use Rattle.uc_circuit.proofs.Joins.{zeros-before, both-lists}
use Rattle.uc_circuit.proofs.joining.zero_extend.Goals as goal

pub returns : goal.returns
returns c =
    zeros-before c.args.a.now _ c.args.more (both-lists _ _ _ _ _ c.in_ok-extend_from_slice.ensures.items c.in_ok-bits.ensures.items (c.as_slice.ensures.value ∙ c.in_ok-zeros.ensures.items_if_clones_equal (λ y e. e)))
