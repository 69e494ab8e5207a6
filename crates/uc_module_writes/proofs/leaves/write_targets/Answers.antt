use Rattle.std.proofs.Common.{◌∷◌, []}
use Rattle.uc_order_rules.specs.Writes.{part_of_target}
use Rattle.uc_module_writes.specs.Found.{single}
use Rattle.uc_module_writes.proofs.Going.{on_begin, on_end_ones, on_more}
use Rattle.uc_module_writes.proofs.leaves.write_targets.Goals as goal

pub loop-target-init : goal.loop-target-init
loop-target-init c = λ place. on_begin c.args.names.now (λ t meets. single place (part_of_target t) meets ∷ []) c.args.targets.now c.args.all.now

pub loop-target-preserved : goal.loop-target-preserved
loop-target-preserved c =
    λ place.
    on_more c.args.names.now (λ t meets. single place (part_of_target t) meets ∷ []) c.args.targets.now c.args.all.now _ _ _ c.target-item.result _ (c.loop-target.invariant place) c.loop-target-test.true c.target-item.is
    (c.in_ok-write_target.ensures place)

pub returns : goal.returns
returns c = λ place. on_end_ones c.args.names.now (λ t meets. single place (part_of_target t) meets) c.args.targets.now c.args.all.now _ _ (c.loop-target.invariant place) c.loop-target-test.false
