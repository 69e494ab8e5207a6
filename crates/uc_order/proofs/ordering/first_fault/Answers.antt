use Rattle.std.proofs.Common.{◌≡◌, None, IfOk, subst, ◌∙◌}
use Rattle.uc_meaning.specs.Lookup.{System}
use Rattle.uc_rules.specs.Faults.{first_of}
use Rattle.uc_uses.specs.BoundLaw.{InstancesEnd}
use Rattle.uc_order_rules.specs.Order.{order_faults}
use Rattle.uc_uses.specs.KeptModules.{HasModules}
use Rattle.uc_order.proofs.ordering.first_fault.Goals as goal

pub returns : goal.returns
returns c =
    subst (λ (s : System). IfOk c.first_of_names-first.result (λ first. InstancesEnd s → HasModules s → first ≡ first_of None (order_faults s)))
    (c.in_ok-names.ensures ∙ c.of.ensures) c.first_of_names-first.ensures
