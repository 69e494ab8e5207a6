use Rattle.uc_module_writes.proofs.Going.{none_stepped, some_stepped}
use Rattle.uc_module_writes.proofs.leaves.write_step.Goals as goal

pub returns-in-None : goal.returns-in-None
returns-in-None c = λ place steps finds. none_stepped c.args.table.now.names.now place (λ meets. steps meets c.args.instance) c.args.all.now _ c.in-None.ensures (finds c.args.instance)

pub returns-in_ok-then-in-Some : goal.returns-in_ok-then-in-Some
returns-in_ok-then-in-Some c =
    λ place steps finds.
    c.in_ok-then-in-Some.ensures c.args.table.now.names.now _ (some_stepped c.args.table.now.names.now place (λ meets. steps meets c.args.instance) _ _ c.in-Some.ensures (finds c.args.instance))
