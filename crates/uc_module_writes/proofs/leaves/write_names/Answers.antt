use Rattle.std.proofs.Common.{◌∷◌, [], refl}
use Rattle.uc_order_rules.specs.Writes.{part_of_name}
use Rattle.uc_module_writes.specs.Found.{single}
use Rattle.uc_module_writes.proofs.Going.{on_begin, on_end_ones, on_more}
use Rattle.uc_module_writes.proofs.leaves.write_names.Goals as goal

pub loop-identifier-init : goal.loop-identifier-init
loop-identifier-init c = λ place. on_begin c.args.names.now (λ t meets. single place (part_of_name t.name) meets ∷ []) c.args.written.now c.args.all.now

pub loop-identifier-preserved : goal.loop-identifier-preserved
loop-identifier-preserved c =
    λ place.
    on_more c.args.names.now (λ t meets. single place (part_of_name t.name) meets ∷ []) c.args.written.now c.args.all.now _ _ _ _ (record { place = record { file = 0; line = 0; col = 0 }; name = 0 }) (c.loop-identifier.invariant place) c.loop-identifier-test.true refl
    (c.in_ok-write_name.ensures place)

pub returns : goal.returns
returns c = λ place. on_end_ones c.args.names.now (λ t meets. single place (part_of_name t.name) meets) c.args.written.now c.args.all.now _ _ (c.loop-identifier.invariant place) c.loop-identifier-test.false
