use Rattle.std.proofs.Common.{refl}
use Rattle.uc_rules.specs.Names.{name_at}
use Rattle.uc_names.proofs.Turns.{labels_begin, labels_end, labels_more}
use Rattle.uc_names.proofs.labels.add_labels_at.Goals as goal

pub loop-place-init : goal.loop-place-init
loop-place-init c = λ ms. labels_begin c.args.enum_number (λ i. name_at c.args.at i.name) c.args.labels.now _

pub loop-place-preserved : goal.loop-place-preserved
loop-place-preserved c =
    λ ms. labels_more c.args.enum_number (λ i. name_at c.args.at i.name) c.args.labels.now _ _ _ c.loop-place.place _ (record { place = record { file = 0; line = 0; col = 0 }; name = 0 })
    (c.loop-place.invariant ms) c.loop-place-test.true refl (c.in_ok-push.ensures ms)

pub returns : goal.returns
returns c = λ ms. labels_end c.args.enum_number (λ i. name_at c.args.at i.name) c.args.labels.now _ _ c.loop-place.place (c.loop-place.invariant ms) c.loop-place-test.false
