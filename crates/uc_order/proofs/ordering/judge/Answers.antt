use Rattle.uc_order_rules.specs.Order.{order_faults}
use Rattle.uc_order.specs.Ordered.{system_in}
use Rattle.uc_order.proofs.Kept.{first_found}
use Rattle.uc_order.proofs.ordering.judge.Goals as goal

pub returns-in-Ok-clause-kept : goal.returns-in-Ok-clause-kept
returns-in-Ok-clause-kept c =
    c.in-Ok.ensures (order_faults (system_in c.args.typed.now))
    (first_found c.args.typed.now c.design.result.now c.main.result c.in_ok-first.first c.design.ensures.kept c.design.ensures.value c.main.ensures c.in_ok-first.ensures)

pub returns-in-Err-clause-refused : goal.returns-in-Err-clause-refused
returns-in-Err-clause-refused c =
    c.in-Err.ensures (order_faults (system_in c.args.typed.now))
    (first_found c.args.typed.now c.design.result.now c.main.result c.in_ok-first.first c.design.ensures.kept c.design.ensures.value c.main.ensures c.in_ok-first.ensures)
