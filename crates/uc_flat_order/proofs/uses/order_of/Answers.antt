use Rattle.std.proofs.Common.{sym, ◌∙◌}
use Rattle.uc_flat_order.proofs.Orders.{order_none, order_answer}
use Rattle.uc_flat_order.proofs.uses.order_of.Goals as goal

pub returns-in_default : goal.returns-in_default
returns-in_default c = order_none c.args.names.now c.args.first c.args.code.now (sym c.in_ok-uses.ensures ∙ c.in_default.is)

pub returns : goal.returns
returns c =
    order_answer c.args.names.now c.args.first c.args.code.now c.in-Some.uses c.as_slice.result.now c.in_ok-graph.graph c.as_slice-2.result.now c.in_ok-uses.field-0 c.first_free_order.result c.in_ok-uses.ensures c.in-Some.is c.as_slice.ensures
    c.in_ok-graph.ensures c.as_slice-2.ensures c.first_free_order.ensures
